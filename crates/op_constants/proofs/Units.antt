-- Alignments, and what is a multiple of them.
use Rattle.std.proofs.Common.{◌≡◌, ◌<◌, ◌≤◌, ℕ, ◌+◌, ◌-◌, ◌*◌, ◌%◌, ◌^◌, max, refl, sym, ap, ap₂, ◌∙◌, subst, arith, inl, inr}
use Rattle.std.specs.Int.{div_ceil}
use Rattle.std.proofs.lemmas.Grind.{div_ceil_times}
use Rattle.std.proofs.lemmas.Nat.{mul-mod_second}
use Rattle.op_core.specs.Sizes.{aligned, capped}
use Rattle.op_constants.specs.Arranged.{IsUnit}

-- ---- sizes below the greatest number

pub below_cap : (n : ℕ) → capped n < 2 ^ 32 - 1 → capped n ≡ n
below_cap n small = grind arith

pub at_least : (alignment n : ℕ) → aligned alignment n < 2 ^ 32 - 1 → n ≤ aligned alignment n
at_least alignment n small =
    let m = max alignment 1 in
    let some : 0 < m = grind arith in
    let times = (div_ceil_times n m some).0 in
    let whole = below_cap (div_ceil n m * m) small in
    subst (λ x. n ≤ x) (sym whole) times

-- ---- alignments

pub unit_max : (a b : ℕ) → IsUnit a → IsUnit b → IsUnit (max a b)
unit_max a b (inl p) (inl q) = inl (ap₂ max p q)
unit_max a b (inl p) (inr (inl q)) = inr (inl (ap₂ max p q))
unit_max a b (inl p) (inr (inr q)) = inr (inr (ap₂ max p q))
unit_max a b (inr (inl p)) (inl q) = inr (inl (ap₂ max p q))
unit_max a b (inr (inl p)) (inr (inl q)) = inr (inl (ap₂ max p q))
unit_max a b (inr (inl p)) (inr (inr q)) = inr (inr (ap₂ max p q))
unit_max a b (inr (inr p)) (inl q) = inr (inr (ap₂ max p q))
unit_max a b (inr (inr p)) (inr (inl q)) = inr (inr (ap₂ max p q))
unit_max a b (inr (inr p)) (inr (inr q)) = inr (inr (ap₂ max p q))

one_of : (a n : ℕ) → a ≡ 1 → n % a ≡ 0
one_of a n p = subst (λ x. n % x ≡ 0) (sym p) (omega arith)

two_of : (a n : ℕ) → a ≡ 2 → n % 2 ≡ 0 → n % a ≡ 0
two_of a n p is = subst (λ x. n % x ≡ 0) (sym p) is

four_of : (a n : ℕ) → a ≡ 4 → n % 4 ≡ 0 → n % a ≡ 0
four_of a n p is = subst (λ x. n % x ≡ 0) (sym p) is

as_literal : (a b n : ℕ) → a ≡ b → n % a ≡ 0 → n % b ≡ 0
as_literal a b n p is = subst (λ x. n % x ≡ 0) p is

-- a multiple of an alignment is one of a smaller alignment
pub coarser : (a b n : ℕ) → IsUnit a → IsUnit b → a ≤ b → n % b ≡ 0 → n % a ≡ 0
coarser a b n (inl p) q less is = one_of a n p
coarser a b n (inr (inl p)) (inl q) less is = absurd (omega arith)
coarser a b n (inr (inl p)) (inr (inl q)) less is = two_of a n p (as_literal b 2 n q is)
coarser a b n (inr (inl p)) (inr (inr q)) less is = let four = as_literal b 4 n q is in two_of a n p (omega arith)
coarser a b n (inr (inr p)) (inl q) less is = absurd (omega arith)
coarser a b n (inr (inr p)) (inr (inl q)) less is = absurd (omega arith)
coarser a b n (inr (inr p)) (inr (inr q)) less is = four_of a n p (as_literal b 4 n q is)

pub sum_of : (a m n : ℕ) → IsUnit a → m % a ≡ 0 → n % a ≡ 0 → (m + n) % a ≡ 0
sum_of a m n (inl p) x y = one_of a (m + n) p
sum_of a m n (inr (inl p)) x y = let i = as_literal a 2 m p x in let j = as_literal a 2 n p y in two_of a (m + n) p (omega arith)
sum_of a m n (inr (inr p)) x y = let i = as_literal a 4 m p x in let j = as_literal a 4 n p y in four_of a (m + n) p (omega arith)

pub none_of : (a : ℕ) → IsUnit a → 0 % a ≡ 0
none_of a (inl p) = one_of a 0 p
none_of a (inr (inl p)) = two_of a 0 p refl
none_of a (inr (inr p)) = four_of a 0 p refl

pub times_of : (a k n : ℕ) → IsUnit a → n % a ≡ 0 → (k * n) % a ≡ 0
times_of a k n unit is =
    let zero_times : k * 0 ≡ 0 = omega arith in
    sym (mul-mod_second k n a) ∙ ap (λ x. (k * x) % a) is ∙ ap (λ x. x % a) zero_times ∙ none_of a unit

twos : (q : ℕ) → capped (q * 2) < 2 ^ 32 - 1 → capped (q * 2) % 2 ≡ 0
twos q small = let is = below_cap (q * 2) small in omega arith

fours : (q : ℕ) → capped (q * 4) < 2 ^ 32 - 1 → capped (q * 4) % 4 ≡ 0
fours q small = let is = below_cap (q * 4) small in omega arith

pub aligned-of : (a n : ℕ) → IsUnit a → aligned a n < 2 ^ 32 - 1 → aligned a n % a ≡ 0
aligned-of a n (inl p) small = one_of a (aligned a n) p
aligned-of a n (inr (inl p)) small = subst (λ x. aligned x n % x ≡ 0) (sym p) (twos (div_ceil n 2) (subst (λ x. aligned x n < 2 ^ 32 - 1) p small))
aligned-of a n (inr (inr p)) small = subst (λ x. aligned x n % x ≡ 0) (sym p) (fours (div_ceil n 4) (subst (λ x. aligned x n < 2 ^ 32 - 1) p small))
