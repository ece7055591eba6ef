-- The distances that branches and jumps have fit their fields.
use Rattle.std.proofs.Common.{◌≡◌, ℕ, ℤ, pos, negsuc, suc, ◌-◌, ◌%◌, ◌^◌, ◌<◌, ◌≤◌, ◌-ℤ◌, Bool, true, false, ◌&&◌, nat_eq, Option, Some, None, IfSome, IsTrue, refl, sym, subst, inl, inr, if◌then◌else◌, arith}
use Rattle.std.proofs.lemmas.Bool.Decides.{nat_tests}
use Rattle.std.proofs.lemmas.Bool.{cases_lt}
use Rattle.std.proofs.lemmas.Int.{ints}
use Rattle.op_rv.specs.Encoding.{is_signed, is_even}
use Rattle.op_link.specs.Reach.{reaches}
use Rattle.op_link.specs.Code.{distance_within}

pub forward : (from to : ℕ) → from ≤ to → pos to -ℤ pos from ≡ pos (to - from)
forward from to h = omega (arith, ints)

pub backward : (from to : ℕ) → to < from → pos to -ℤ pos from ≡ negsuc (from - suc to)
backward from to h = omega (arith, ints)

fits_both_ways : (k from to : ℕ) → (reaches (2 ^ k) from to && nat_eq (from % 2) (to % 2)) ≡ true → (is_signed k (pos to -ℤ pos from) && is_even (pos to -ℤ pos from)) ≡ true
fits_both_ways k from to h =
    elim (cases_lt to from) [ inl behind ↦ rw (backward from to behind) (grind (arith, nat_tests)) | inr before ↦ rw (forward from to before) (grind (arith, nat_tests)) ]

within : (test : Bool) (distance : ℤ) (p : ℤ → Bool) → (test ≡ true → p distance ≡ true) → IfSome (if test then Some distance else None) (λ d. IsTrue (p d))
within true distance p h = h refl
within false distance p h = tt

pub branch_fits : (from to : ℕ) (found : Option ℤ) → found ≡ distance_within 4096 from to → IfSome found (λ distance. IsTrue (is_signed 12 distance && is_even distance))
unfolding distance_within
branch_fits from to found is =
    subst (λ found. IfSome found (λ distance. IsTrue (is_signed 12 distance && is_even distance))) (sym is)
    (within (reaches 4096 from to && nat_eq (from % 2) (to % 2)) (pos to -ℤ pos from) (λ d. is_signed 12 d && is_even d) (fits_both_ways 12 from to))

pub jump_fits : (from to : ℕ) (found : Option ℤ) → found ≡ distance_within 1048576 from to → IfSome found (λ distance. IsTrue (is_signed 20 distance && is_even distance))
unfolding distance_within
jump_fits from to found is =
    subst (λ found. IfSome found (λ distance. IsTrue (is_signed 20 distance && is_even distance))) (sym is)
    (within (reaches 1048576 from to && nat_eq (from % 2) (to % 2)) (pos to -ℤ pos from) (λ d. is_signed 20 d && is_even d) (fits_both_ways 20 from to))
