-- What the parser refuses breaks a rule that has a text.
use Rattle.std.proofs.Common.{ℕ, List, refl, sym, subst}
use Rattle.op_base.specs.Rule.{text_of_feature, text_of_rule}
use Rattle.op_base.specs.declared.place.Place.{Place}
use Rattle.op_parse_code.specs.GrammarForm.{GrammarForm, is_slash, is_fraction_width}
use Rattle.op_parse_code.specs.Refusal.{Phrase, Decision, Shown, RefusesBy, out_of_memory, syntax, nested, in_grammar, RefusalHasText}
use Rattle.op_parse_code.specs.declared.error.ParseError.{ParseError}
use Rattle.op_base.specs.Rule.{HasText}
use Rattle.op_tree.specs.Terminal.{Terminal}

-- the features of the forms that the grammar has
told_grammar_form : {feature : ℕ} {ks q : List Terminal} → GrammarForm feature ks q → HasText (record { number = 13; feature = feature })
unfolding text_of_feature text_of_rule
told_grammar_form is_slash = refl
told_grammar_form (is_fraction_width e) = refl

pub told_refusal : {A : Type 0} {D : Decision} {W : Shown} {P : Phrase A} {d : ℕ} {end : Place} {ks : List Terminal} {e : ParseError} → RefusesBy D W P d end ks e → RefusalHasText e
unfolding text_of_rule
told_refusal (out_of_memory is) = subst RefusalHasText (sym is) tt
told_refusal (syntax q is never) = subst RefusalHasText (sym is) refl
told_refusal (nested q m w is decides never before shown) = subst RefusalHasText (sym is) refl
told_refusal (in_grammar feature q is (seen, form, parts, stands)) = subst RefusalHasText (sym is) (told_grammar_form stands)
