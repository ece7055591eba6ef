-- Words and the numbers that they are.
use Rattle.std.proofs.Common.{rules, ◌≡◌, ℕ, ℤ, pos, ◌+◌, ◌-◌, ◌%◌, ◌^◌, ◌<◌, ◌+ℤ◌, ◌-ℤ◌, Bool, true, false, not, refl, ap, ap₂, sym, ◌∙◌, subst, arith, neg_ℤ, nat_eq, if◌then◌else◌}
use Rattle.std.proofs.lemmas.Bool.Decides.{nat_tests}
use Rattle.std.proofs.lemmas.Int.{wrapping_add-bits, wrapping_sub-bits, of_z-to_z, to_z_pos, to_z-of_z, int_wrap_fits, ints}
use Rattle.std.specs.Int.{w32, int_wrap, from_bool, cast_unsigned}
use Rattle.std.specs.Int.RustNames.{FitsSigned}
use Rattle.std.specs.Prelude.{int_lt, int_le}
use Rattle.op_compute.specs.Meaning.{IsWordOf, gives, computed}
use Rattle.op_compute.specs.Straight.{alu_of, imm_of, takes}
use Rattle.op_meaning.specs.Numbers.{fits_word, wrapped}
use Rattle.op_meaning.specs.Sets.{truth}
use Rattle.op_rv.proofs.Numbers.{signed_range}
use Rattle.op_rv.specs.Operation.{signed}
use Rattle.op_rv.specs.declared.instruction.AluOp.TheVariants.{Add, Sub, Slt}
use Rattle.op_rv.specs.declared.instruction.BranchOp.TheVariants.{Beq, Bne}
use Rattle.op_rv.specs.declared.instruction.ImmOp.TheVariants.{Slti, Xori}

-- ---- any word

pub word_is : (n : ℕ) → n < 2 ^ 32 → IsWordOf n (signed n)
word_is n p = record { number = refl; bound = p }

pub small_is : (n : ℕ) → n < 2 ^ 31 → IsWordOf n (pos n)
small_is n p = record { number = to_z_pos w32 n p; bound = omega arith }

-- a number of 32 bits is its word
pub number_is : (z : ℤ) → FitsSigned w32 z → IsWordOf (cast_unsigned w32 z) z
number_is z p = record { number = to_z-of_z w32 z p; bound = number_bound z p }
  where
    number_bound : (z : ℤ) → FitsSigned w32 z → cast_unsigned w32 z < 2 ^ 32
    number_bound z p = search rules

pub unsigned_is : (a : ℕ) (x : ℤ) → IsWordOf a x → cast_unsigned w32 x ≡ a
unsigned_is a x p = ap (cast_unsigned w32) (sym p.number) ∙ of_z-to_z w32 a p.bound

signed_fits : (a : ℕ) → a < 2 ^ 32 → fits_word (signed a) ≡ true
signed_fits a p = grind (arith, ints)

pub word_fits : (a : ℕ) (x : ℤ) → IsWordOf a x → fits_word x ≡ true
word_fits a x p = ap fits_word (sym p.number) ∙ signed_fits a p.bound

pub word_range : (a : ℕ) (x : ℤ) → IsWordOf a x → FitsSigned w32 x
word_range a x p = subst (FitsSigned w32) p.number (signed_range a p.bound)

pub word_wraps : (a : ℕ) (x : ℤ) → IsWordOf a x → wrapped x ≡ x
word_wraps a x p = int_wrap_fits w32 x (word_range a x p)

-- what fits is given, checked or not
fits_gives : (checked : Bool) (n : ℤ) → fits_word n ≡ true → computed checked n ≡ gives (wrapped n)
fits_gives true n e = simp e refl
fits_gives false n e = refl

pub word_gives : (checked : Bool) (a : ℕ) (n : ℤ) → IsWordOf a n → gives n ≡ computed checked n
word_gives checked a n p = ap gives (sym (word_wraps a n p)) ∙ sym (fits_gives checked n (word_fits a n p))

pub truth_is : (b : Bool) → IsWordOf (from_bool b) (truth b)
truth_is true = small_is 1 (omega arith)
truth_is false = small_is 0 (omega arith)

-- ---- sums

pub sum_is : (a b : ℕ) (x y : ℤ) → IsWordOf a x → IsWordOf b y → IsWordOf (alu_of Add a b) (wrapped (x +ℤ y))
unfolding alu_of
sum_is a b x y p q =
    record { number = wrapping_add-bits w32 a b p.bound q.bound ∙ ap₂ (λ u v. int_wrap w32 (u +ℤ v)) p.number q.number; bound = omega arith }

bools_differ : (s t : Bool) → takes Bne (from_bool s) (from_bool t) ≡ (if s then not t else t)
unfolding takes
bools_differ true true = refl
bools_differ true false = refl
bools_differ false true = refl
bools_differ false false = refl

sum_below : (a b : ℕ) → a < 2 ^ 32 → b < 2 ^ 32 → int_lt (signed ((a + b) % 2 ^ 32)) (signed a) ≡ (if fits_word (signed a +ℤ signed b) then int_lt (signed b) (pos 0) else not (int_lt (signed b) (pos 0)))
sum_below a b p q = grind (arith, ints)

differs_where : (s t fits : Bool) → s ≡ (if fits then t else not t) → (if s then not t else t) ≡ not fits
differs_where true true true e = refl
differs_where true false true e = absurd cc
differs_where true true false e = absurd cc
differs_where true false false e = refl
differs_where false true true e = absurd cc
differs_where false false true e = refl
differs_where false true false e = refl
differs_where false false false e = absurd cc

sum_differs : (a b : ℕ) → a < 2 ^ 32 → b < 2 ^ 32 → takes Bne (alu_of Slt (alu_of Add a b) a) (imm_of Slti b (pos 0)) ≡ not (fits_word (signed a +ℤ signed b))
unfolding alu_of imm_of
sum_differs a b p q =
    bools_differ (int_lt (signed ((a + b) % 2 ^ 32)) (signed a)) (int_lt (signed b) (pos 0))
    ∙ differs_where (int_lt (signed ((a + b) % 2 ^ 32)) (signed a)) (int_lt (signed b) (pos 0)) (fits_word (signed a +ℤ signed b)) (sum_below a b p q)

pub sum_test : (a b : ℕ) (x y : ℤ) → IsWordOf a x → IsWordOf b y → takes Bne (alu_of Slt (alu_of Add a b) a) (imm_of Slti b (pos 0)) ≡ not (fits_word (x +ℤ y))
sum_test a b x y p q = sum_differs a b p.bound q.bound ∙ ap₂ (λ u v. not (fits_word (u +ℤ v))) p.number q.number

-- ---- differences

pub difference_is : (a b : ℕ) (x y : ℤ) → IsWordOf a x → IsWordOf b y → IsWordOf (alu_of Sub a b) (wrapped (x -ℤ y))
unfolding alu_of
difference_is a b x y p q =
    record { number = wrapping_sub-bits w32 a b p.bound q.bound ∙ ap₂ (λ u v. int_wrap w32 (u -ℤ v)) p.number q.number; bound = omega arith }

difference_above : (a b : ℕ) → a < 2 ^ 32 → b < 2 ^ 32 → int_lt (signed a) (signed ((a + (2 ^ 32 - b)) % 2 ^ 32)) ≡ (if fits_word (signed a -ℤ signed b) then int_lt (signed b) (pos 0) else not (int_lt (signed b) (pos 0)))
difference_above a b p q = grind (arith, ints)

difference_differs : (a b : ℕ) → a < 2 ^ 32 → b < 2 ^ 32 → takes Bne (alu_of Slt a (alu_of Sub a b)) (imm_of Slti b (pos 0)) ≡ not (fits_word (signed a -ℤ signed b))
unfolding alu_of imm_of
difference_differs a b p q =
    bools_differ (int_lt (signed a) (signed ((a + (2 ^ 32 - b)) % 2 ^ 32))) (int_lt (signed b) (pos 0))
    ∙ differs_where (int_lt (signed a) (signed ((a + (2 ^ 32 - b)) % 2 ^ 32))) (int_lt (signed b) (pos 0)) (fits_word (signed a -ℤ signed b)) (difference_above a b p q)

pub difference_test : (a b : ℕ) (x y : ℤ) → IsWordOf a x → IsWordOf b y → takes Bne (alu_of Slt a (alu_of Sub a b)) (imm_of Slti b (pos 0)) ≡ not (fits_word (x -ℤ y))
difference_test a b x y p q = difference_differs a b p.bound q.bound ∙ ap₂ (λ u v. not (fits_word (u -ℤ v))) p.number q.number

-- ---- opposites

pub wrapped_is : (n : ℕ) → n < 2 ^ 32 → IsWordOf n (wrapped (pos n))
unfolding int_wrap
wrapped_is n p =
    let same : n % 2 ^ 32 ≡ n = omega arith in
    record { number = ap signed (sym same); bound = p }

opposite : (x : ℤ) → pos 0 -ℤ x ≡ neg_ℤ x
opposite x = omega (arith, ints)

pub opposite_is : (a : ℕ) (x : ℤ) → IsWordOf a x → IsWordOf (alu_of Sub 0 a) (wrapped (neg_ℤ x))
opposite_is a x p = subst (λ z. IsWordOf (alu_of Sub 0 a) (wrapped z)) (opposite x) (difference_is 0 a (pos 0) x (small_is 0 (omega arith)) p)

least_opposite : (a : ℕ) → a < 2 ^ 32 → nat_eq a (2 ^ 31) ≡ not (fits_word (neg_ℤ (signed a)))
least_opposite a p = grind (arith, ints, nat_tests)

pub opposite_test : (a : ℕ) (x : ℤ) → IsWordOf a x → takes Beq a (2 ^ 31) ≡ not (fits_word (neg_ℤ x))
unfolding takes
opposite_test a x p = least_opposite a p.bound ∙ ap (λ z. not (fits_word (neg_ℤ z))) p.number

-- ---- order

pub less_is : (a b : ℕ) (x y : ℤ) → IsWordOf a x → IsWordOf b y → alu_of Slt a b ≡ from_bool (int_lt x y)
unfolding alu_of
less_is a b x y p q = ap₂ (λ u v. from_bool (int_lt u v)) p.number q.number

pub not_is : (t : Bool) → imm_of Xori (from_bool t) (pos 1) ≡ from_bool (not t)
unfolding imm_of
not_is true = refl
not_is false = refl

pub at_most : (x y : ℤ) → not (int_lt y x) ≡ int_le x y
at_most x y = grind (arith, ints)
