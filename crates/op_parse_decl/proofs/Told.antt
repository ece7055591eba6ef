-- What a file is refused by has a text, and a file that stands is refused for a form of statements and expressions alone.
use Rattle.std.proofs.Common.{◌≡◌, ℕ, List, refl, sym, subst}
use Rattle.op_base.specs.Rule.{HasText, text_of_feature, text_of_rule}
use Rattle.op_base.specs.declared.place.Place.{Place}
use Rattle.op_parse_code.proofs.Cuts.{same_refl}
use Rattle.op_parse_code.proofs.Parts.{dead_none, refuses_free}
use Rattle.op_parse_code.proofs.Told.{told_refusal as told_by_grammar}
use Rattle.op_parse_code.specs.Refusal.{Phrase, Decision, Shown, IsFree, RefusalHasText}
use Rattle.op_parse_code.specs.declared.error.ParseError.{ParseError}
use Rattle.op_parse_decl.specs.Form.{Form, TypeForm, is_fraction, is_short_string, is_value_in_type}
use Rattle.op_parse_decl.specs.Refusal.{HasType, RefusesIn, by_grammar, left_out, left_out_type}
use Rattle.op_parse_decl.specs.Types.{SomeDenoter}
use Rattle.op_tree.specs.Terminal.{Terminal}

told_form : {feature : ℕ} {ks q m : List Terminal} → Form feature ks q m → HasText (record { number = 13; feature = feature })
unfolding text_of_feature text_of_rule
told_form is_fraction = refl
told_form other = refl

told_type_form : {feature : ℕ} {ks q : List Terminal} → TypeForm feature ks q → HasText (record { number = 13; feature = feature })
unfolding text_of_feature text_of_rule
told_type_form is_short_string = refl
told_type_form (is_value_in_type g n) = refl

pub told_refusal : {A : Type 0} {D : Decision} {W : Shown} {P : Phrase A} {d : ℕ} {end : Place} {ks : List Terminal} {e : ParseError} → RefusesIn D W P d end ks e → RefusalHasText e
told_refusal (by_grammar x) = told_by_grammar x
told_refusal (left_out feature q m n is (seen, form, parts, stands) at never) = subst RefusalHasText (sym is) (told_form stands)
told_refusal (left_out_type feature q form m is stands wants never) = subst RefusalHasText (sym is) (told_type_form stands)

pub file_is_free : {A : Type 0} {D : Decision} {W : Shown} (P : Phrase A) (d : ℕ) (end : Place) (ks : List Terminal) (e : ParseError) (a : A) (r : List Terminal) → P d a ks r → RefusesIn D W P d end ks e → IsFree end ks e
file_is_free P d end ks e a r p (by_grammar x) = refuses_free P d end ks e a r p x
file_is_free P d end ks e a r p (left_out feature q m n x f at never) = absurd (dead_none (P d) ks n a r p (never d))
file_is_free P d end ks e a r p (left_out_type feature q form m x f wants never) =
    let w = wants d in
    let t = w.2 form a r (same_refl form) (subst (λ z. P d a z r) w.1 p) in
    absurd (dead_none (SomeDenoter t.0) form m t.1 t.2 t.3 (never t.0))
