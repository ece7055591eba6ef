-- Whole parts among the tokens.
use Rattle.std.proofs.Common.{◌≡◌, ℕ, ◌-◌, List, ◌++◌, Result, Ok, Err, IfOk, IfErr, MatchResult, length, take, drop, refl, sym, ap, ◌∙◌, subst, append_assoc, length-append, arith}
use Rattle.std.proofs.Math.Seq.{drop-append_seam}
use Rattle.std.proofs.lemmas.List.{take-append-drop}
use Rattle.op_base.specs.declared.place.Place.{Place}
use Rattle.op_parse_code.proofs.Cuts.{cut_seen, same_refl}
use Rattle.op_parse_code.proofs.Refusing.{Known}
use Rattle.op_parse_code.specs.Refusal.{Phrase, Dead, Decision, Shown, RefusesBy, out_of_memory, syntax, nested, in_grammar, IsFree}
use Rattle.op_parse_code.specs.declared.error.ParseError.{ParseError}
use Rattle.op_tree.specs.Terminal.{Terminal}

behind_part : (n : ℕ) (ks seen r : List Terminal) → drop n ks ≡ seen ++ r → drop (length ks - length r) ks ≡ r
behind_part n ks seen r e =
    let whole : ks ≡ (take n ks ++ seen) ++ r = sym (take-append-drop n ks) ∙ ap (λ z. take n ks ++ z) e ∙ sym (append_assoc (take n ks) seen r) in
    let size : length ks - length r ≡ length (take n ks ++ seen) = omega (arith, ap length whole, length-append (take n ks ++ seen) r) in
    ap (λ m. drop m ks) size ∙ ap (drop (length (take n ks ++ seen))) whole ∙ drop-append_seam (take n ks ++ seen) r

-- what stands behind a part is what is left behind its place
pub behind_place : {A : Type 0} (P : Phrase A) (d : ℕ) (a : A) (n : ℕ) (ks r : List Terminal) → Known P → P d a (drop n ks) r → drop (length ks - length r) ks ≡ r
behind_place P d a n ks r known p =
    let front = known.front d a (drop n ks) r p in
    let seen = cut_seen front.1 in
    behind_part n ks seen.0 r (front.2 ∙ seen.1 r)

pub dead_none : {A : Type 0} (P : A → List Terminal → List Terminal → Type 0) (ks q : List Terminal) (a : A) (r : List Terminal) → P a ks r → Dead P ks q → ⊥
dead_none P ks q a r p (seen, e, never) = never q a r (same_refl q) (subst (λ z. P a z r) e p)

-- a part that stands there is refused for a form of statements and expressions alone
pub refuses_free : {A : Type 0} {D : Decision} {W : Shown} (P : Phrase A) (d : ℕ) (end : Place) (ks : List Terminal) (e : ParseError) (a : A) (r : List Terminal) → P d a ks r → RefusesBy D W P d end ks e → IsFree end ks e
refuses_free P d end ks e a r p (out_of_memory x) = subst (IsFree end ks) (sym x) tt
refuses_free P d end ks e a r p (syntax q x never) = absurd (dead_none (P d) ks q a r p (never d))
refuses_free P d end ks e a r p (nested q m n x w never v lives) = absurd (dead_none (P d) ks m a r p never)
refuses_free P d end ks e a r p (in_grammar feature q x f) = subst (IsFree end ks) (sym x) (feature, q, f, refl)

pub match_of : {T : Type 0} (P : T → Type 0) (Q : ParseError → Type 0) (r : Result T ParseError) → IfOk r P → IfErr r Q → MatchResult r P Q
match_of P Q (Ok x) h k = h
match_of P Q (Err y) h k = k
