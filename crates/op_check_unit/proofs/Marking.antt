-- Marks for numbers that were reached.
use Rattle.std.proofs.Common.{◌≡◌, ℕ, zero, suc, ◌||◌, Bool, true, false, List, [], ◌∷◌, ◌++◌, length-set, nat_eq, replicate, slice_get, slice_set, Some, refl, sym, ap, ◌∙◌, arith}
use Rattle.std.proofs.lemmas.Bool.{eq-eqb, eqb-true}
use Rattle.std.proofs.lemmas.List.Folds.{list_any-append}
use Rattle.std.proofs.lemmas.Option.{slice_get_within}
use Rattle.std.specs.List.{list_any}
use Rattle.op_check_unit.specs.Numbering.{Marks}
use Rattle.op_core.proofs.Agreeing.{some_is}
use Rattle.op_core.proofs.Rows.{set_apart, set_there}

pub none_marked : (n : ℕ) → Marks [] (replicate {A = Bool} n false)
none_marked zero k mark e = absurd (cc)
none_marked (suc n) zero mark e = sym (some_is e)
none_marked (suc n) (suc k) mark e = none_marked n k mark e

any_last : (k n : ℕ) (numbers : List ℕ) (b : Bool) → nat_eq n k ≡ b → list_any (λ j. nat_eq j k) (numbers ++ n ∷ []) ≡ (list_any (λ j. nat_eq j k) numbers || b)
any_last k n numbers true e = list_any-append (λ j. nat_eq j k) numbers (n ∷ []) ∙ ap (λ b. list_any (λ j. nat_eq j k) numbers || (b || false)) e
any_last k n numbers false e = list_any-append (λ j. nat_eq j k) numbers (n ∷ []) ∙ ap (λ b. list_any (λ j. nat_eq j k) numbers || (b || false)) e

or_true : (b : Bool) → true ≡ (b || true)
or_true true = refl
or_true false = refl

or_false : (b : Bool) → b ≡ (b || false)
or_false true = refl
or_false false = refl

apart : (n k : ℕ) → nat_eq n k ≡ false → k ≡ n → ⊥
apart n k e f = let t = sym e ∙ eq-eqb n k (sym f) in absurd (cc)

pub one_marked : (numbers : List ℕ) (marks : List Bool) (n : ℕ) → Marks numbers marks → Marks (numbers ++ n ∷ []) (slice_set marks n true)
one_marked numbers marks n marked k mark e = one (nat_eq n k) refl
  where
    one : (b : Bool) → nat_eq n k ≡ b → mark ≡ list_any (λ j. nat_eq j k) (numbers ++ n ∷ [])
    one true is =
        let at : n ≡ k = eqb-true n k is in
        let here : slice_get (slice_set marks n true) n ≡ Some mark = ap (slice_get (slice_set marks n true)) at ∙ e in
        let within = slice_get_within (slice_set marks n true) n mark here in
        let count = length-set marks n true in
        some_is (sym here ∙ set_there marks n true (omega (arith, within, count))) ∙ or_true (list_any (λ j. nat_eq j k) numbers) ∙ sym (any_last k n numbers true is)
    one false is =
        marked k mark (sym (set_apart marks n true k (apart n k is)) ∙ e) ∙ or_false (list_any (λ j. nat_eq j k) numbers) ∙ sym (any_last k n numbers false is)
