-- Sets as words.
use Rattle.std.proofs.Common.{mul_assoc, ◌≡◌, ◌≢◌, ℕ, ℤ, zero, suc, pos, negsuc, ◌+◌, ◌-◌, ◌*◌, ◌/◌, ◌%◌, ◌^◌, ◌<◌, ◌≤◌, min, max, Bool, true, false, not, ◌&&◌, nat_eq, nat_lt, nat_le, inl, inr, refl, ap, ap₂, sym, ◌∙◌, subst, arith}
use Rattle.std.proofs.lemmas.Bool.{cases_lt, cases_eq}
use Rattle.std.proofs.lemmas.Bool.Decides.{nat_tests}
use Rattle.std.proofs.lemmas.Int.{ints, to_z-of_z}
use Rattle.std.proofs.lemmas.Nat.{and_comm, and_mask, and_le_l, mul-mod_first, one_shl, or_lt, pow-add}
use Rattle.std.proofs.lemmas.Nat.Bits.{bit_at-lt, bit_at-zero, bit_at-pow_same, bit_at-pow_other, bit_at_and, bit_at_or, bit_at_not, bit_at_ones, bit_at_mask_inside, bit_at_mask_below, ones_shl, same_from_bits_below}
use Rattle.std.specs.Int.{w32, bit_at, bit_not, cast_signed, cast_unsigned, from_bool, int_bit_not}
use Rattle.std.specs.Int.Bits.{bit_and, or_zero_r}
use Rattle.std.specs.Int.RustNames.{FitsSigned}
use Rattle.std.specs.Ordering.{int_eq}
use Rattle.std.specs.Prelude.{int_le}
use Rattle.op_base.proofs.Tests.{twice_not}
use Rattle.op_compute.proofs.WordBits.{and_is, complement_is, sign_none, sign_all, xor_ones}
use Rattle.op_compute.proofs.WordProducts.{zero_test}
use Rattle.op_compute.proofs.Words.{unsigned_is, small_is}
use Rattle.op_compute.specs.Meaning.{IsWordOf}
use Rattle.op_compute.specs.Straight.{alu_of, imm_of, shift_of, takes}
use Rattle.op_meaning.proofs.SetBits.{sets_are}
use Rattle.op_meaning.specs.Numbers.{between}
use Rattle.op_meaning.specs.Sets.{bit, bits_below, set_of, without, is_element}
use Rattle.op_rv.specs.Operation.{signed}
use Rattle.op_rv.specs.declared.instruction.AluOp.TheVariants.{And, Or, Sll, Srl}
use Rattle.op_rv.specs.declared.instruction.BranchOp.TheVariants.{Bne}
use Rattle.op_rv.specs.declared.instruction.ImmOp.TheVariants.{Addi, Sltiu, Xori}
use Rattle.op_rv.specs.declared.instruction.ShiftOp.TheVariants.{Slli, Srai}

-- ---- words by their bits

any_word : (n : ℕ) → cast_unsigned w32 (cast_signed w32 n) < 2 ^ 32
any_word n = grind (arith, ints)

any_range : (n : ℕ) → FitsSigned w32 (cast_signed w32 n)
any_range n = record { sfits = grind (arith, ints) }

same_bit : (m n : ℕ) → m < 2 → n < 2 → nat_eq m 1 ≡ nat_eq n 1 → m ≡ n
same_bit m n p q e = grind (arith, nat_tests)

-- a word whose bits are the elements
pub set_is : (v : ℕ) (test : ℕ → Bool) → v < 2 ^ 32 → ((i : ℕ) → i < 32 → nat_eq (bit_at v i) 1 ≡ test i) → IsWordOf v (set_of test)
set_is v test p bits =
    let whole = bits_below 32 test in
    let u = cast_unsigned w32 (cast_signed w32 whole) in
    let same : u ≡ v = same_from_bits_below 32 u v (any_word whole) p (λ i q. same_bit (bit_at u i) (bit_at v i) (bit_at-lt u i) (bit_at-lt v i) (sets_are.made test i q ∙ sym (bits i q))) in
    record { number = ap (cast_signed w32) (sym same) ∙ to_z-of_z w32 (cast_signed w32 whole) (any_range whole); bound = p }

-- ---- one element

one_bit : (a i : ℕ) → nat_eq (bit_at (2 ^ a) i) 1 ≡ nat_eq i a
one_bit a i =
    elim (cases_eq i a) [
      | inl same ↦ ap (λ j. nat_eq (bit_at (2 ^ a) j) 1) same ∙ ap (λ b. nat_eq b 1) (bit_at-pow_same a) ∙ sym (is_same i a same)
      | inr apart ↦ ap (λ b. nat_eq b 1) (bit_at-pow_other a i apart) ∙ sym (is_other i a apart)
    ]
  where
    is_same : (i a : ℕ) → i ≡ a → nat_eq i a ≡ true
    is_same i a e = grind (arith, nat_tests)

    is_other : (i a : ℕ) → i ≢ a → nat_eq i a ≡ false
    is_other i a e = grind (arith, nat_tests)

place : (a i : ℕ) → a < 2 ^ 32 → i < 32 → int_eq (pos i) (signed a) ≡ nat_eq i a
place a i p q = grind (arith, ints, nat_tests)

no_place : (a i : ℕ) → a < 2 ^ 32 → 32 ≤ a → i < 32 → nat_eq i a ≡ false
no_place a i p q r = grind (arith, nat_tests)

single_low : (a : ℕ) → a < 32 → alu_of Sll (imm_of Sltiu a (pos 32)) a ≡ 2 ^ a
unfolding alu_of imm_of
single_low a p =
    let yes : nat_lt a 32 ≡ true = grind (arith, nat_tests) in
    let same : a % 32 ≡ a = omega arith in
    ap (λ t. from_bool t * 2 ^ (a % 32) % 2 ^ 32) yes ∙ ap (λ k. 1 * 2 ^ k % 2 ^ 32) same ∙ one_shl a 32 p

single_high : (a : ℕ) → 32 ≤ a → alu_of Sll (imm_of Sltiu a (pos 32)) a ≡ 0
unfolding alu_of imm_of
single_high a p =
    let no : nat_lt a 32 ≡ false = grind (arith, nat_tests) in
    let none : 0 * 2 ^ (a % 32) % 2 ^ 32 ≡ 0 = omega arith in
    ap (λ t. from_bool t * 2 ^ (a % 32) % 2 ^ 32) no ∙ none

single_bits : (a i : ℕ) → a < 2 ^ 32 → i < 32 → nat_eq (bit_at (alu_of Sll (imm_of Sltiu a (pos 32)) a) i) 1 ≡ int_eq (pos i) (signed a)
single_bits a i p q =
    elim (cases_lt a 32) [
      | inl less ↦ ap (λ v. nat_eq (bit_at v i) 1) (single_low a less) ∙ one_bit a i ∙ sym (place a i p q)
      | inr most ↦ ap (λ v. nat_eq (bit_at v i) 1) (single_high a most) ∙ ap (λ b. nat_eq b 1) (bit_at-zero i) ∙ sym (no_place a i p most q) ∙ sym (place a i p q)
    ]

shl_bound : (a b : ℕ) → alu_of Sll a b < 2 ^ 32
unfolding alu_of
shl_bound a b = omega arith

pub single_is : (a : ℕ) (x : ℤ) → IsWordOf a x → IsWordOf (alu_of Sll (imm_of Sltiu a (pos 32)) a) (set_of (λ n. int_eq (pos n) x))
single_is a x p =
    let v = alu_of Sll (imm_of Sltiu a (pos 32)) a in
    set_is v (λ n. int_eq (pos n) x) (shl_bound (imm_of Sltiu a (pos 32)) a) (λ i q. single_bits a i p.bound q ∙ ap (λ z. int_eq (pos i) z) p.number)

-- ---- elements from one on

abbrev pub from_on : ℕ → ℕ
from_on a = alu_of Sll (shift_of Srai (imm_of Addi a (negsuc 31)) 31) a

mask_low : (a : ℕ) → a < 32 → shift_of Srai (imm_of Addi a (negsuc 31)) 31 ≡ 2 ^ 32 - 1
unfolding imm_of
mask_low a p = sign_all ((a + 4294967264) % 2 ^ 32) (omega arith) (omega arith)

mask_high : (a : ℕ) → 32 ≤ a → a < 2 ^ 31 → shift_of Srai (imm_of Addi a (negsuc 31)) 31 ≡ 0
unfolding imm_of
mask_high a p q = sign_none ((a + 4294967264) % 2 ^ 32) (omega arith)

shifted : (v a : ℕ) → a < 32 → alu_of Sll v a ≡ v * 2 ^ a % 2 ^ 32
unfolding alu_of
shifted v a p = let same : a % 32 ≡ a = omega arith in ap (λ k. v * 2 ^ k % 2 ^ 32) same

from_low : (a : ℕ) → a < 32 → from_on a ≡ 2 ^ 32 - 2 ^ a
from_low a p = ap (λ m. alu_of Sll m a) (mask_low a p) ∙ shifted (2 ^ 32 - 1) a p ∙ ones_shl 32 a (omega arith)

nothing_shifted : (a : ℕ) → alu_of Sll 0 a ≡ 0
unfolding alu_of
nothing_shifted a = omega arith

from_high : (a : ℕ) → 32 ≤ a → a < 2 ^ 31 → from_on a ≡ 0
from_high a p q = ap (λ m. alu_of Sll m a) (mask_high a p q) ∙ nothing_shifted a

-- the bits from a place on
mask_bit : (a i : ℕ) → i < 32 → nat_eq (bit_at (2 ^ 32 - 2 ^ a) i) 1 ≡ nat_le a i
mask_bit a i p =
    elim (cases_lt i a) [
      | inl less ↦ ap (λ b. nat_eq b 1) (bit_at_mask_below a 32 i less) ∙ sym (no i a less)
      | inr most ↦ ap (λ b. nat_eq b 1) (bit_at_mask_inside a 32 i most p) ∙ sym (yes i a most)
    ]
  where
    no : (i a : ℕ) → i < a → nat_le a i ≡ false
    no i a p = grind (arith, nat_tests)

    yes : (i a : ℕ) → a ≤ i → nat_le a i ≡ true
    yes i a p = grind (arith, nat_tests)

or_all : (v i : ℕ) → i < 32 → nat_eq (bit_at (alu_of Or v (2 ^ 32 - 1)) i) 1 ≡ true
unfolding alu_of
or_all v i p =
    let most : max (bit_at v i) 1 ≡ 1 = omega (arith, bit_at-lt v i) in
    ap (λ b. nat_eq b 1) (bit_at_or v (2 ^ 32 - 1) i ∙ ap (λ b. max (bit_at v i) b) (bit_at_ones 32 i p) ∙ most)

or_none : (v : ℕ) → alu_of Or v 0 ≡ v
unfolding alu_of
or_none v = or_zero_r v

unfoldable pub all_if_negative : ℕ → ℕ → ℕ
all_if_negative v a = alu_of Or v (shift_of Srai a 31)

negative_all : (v a i : ℕ) → 2 ^ 31 ≤ a → a < 2 ^ 32 → i < 32 → nat_eq (bit_at (all_if_negative v a) i) 1 ≡ true
unfolding all_if_negative
negative_all v a i p q r = ap (λ s. nat_eq (bit_at (alu_of Or v s) i) 1) (sign_all a p q) ∙ or_all v i r

negative_none : (v a : ℕ) → a < 2 ^ 31 → all_if_negative v a ≡ v
unfolding all_if_negative
negative_none v a p = ap (alu_of Or v) (sign_none a p) ∙ or_none v

above_low : (a i : ℕ) → a < 2 ^ 31 → int_le (signed a) (pos i) ≡ nat_le a i
above_low a i p = grind (arith, ints, nat_tests)

above_negative : (a i : ℕ) → 2 ^ 31 ≤ a → a < 2 ^ 32 → int_le (signed a) (pos i) ≡ true
above_negative a i p q = grind (arith, ints, nat_tests)

not_in : (a i : ℕ) → 32 ≤ a → i < 32 → nat_le a i ≡ false
not_in a i p q = grind (arith, nat_tests)

from_bits : (a i : ℕ) → a < 2 ^ 32 → i < 32 → nat_eq (bit_at (all_if_negative (from_on a) a) i) 1 ≡ int_le (signed a) (pos i)
from_bits a i p q =
    elim (cases_lt a (2 ^ 31)) [
      | inr negative ↦ negative_all (from_on a) a i negative p q ∙ sym (above_negative a i negative p)
      | inl positive ↦
          ap (λ v. nat_eq (bit_at v i) 1) (negative_none (from_on a) a positive)
          ∙ elim (cases_lt a 32) [
            | inl less ↦ ap (λ v. nat_eq (bit_at v i) 1) (from_low a less) ∙ mask_bit a i q
            | inr most ↦ ap (λ v. nat_eq (bit_at v i) 1) (from_high a most positive) ∙ ap (λ b. nat_eq b 1) (bit_at-zero i) ∙ sym (not_in a i most q)
          ]
          ∙ sym (above_low a i positive)
    ]

-- ---- elements behind one

double : (v : ℕ) → shift_of Slli v 1 ≡ v * 2 ^ 1 % 2 ^ 32
unfolding shift_of
double v = refl

behind_low : (b : ℕ) → b < 32 → shift_of Slli (from_on b) 1 ≡ 2 ^ 32 - 2 ^ (b + 1)
behind_low b p =
    let whole : (2 ^ 32 - 1) * 2 ^ (b + 1) % 2 ^ 32 ≡ 2 ^ 32 - 2 ^ (b + 1) = ones_shl 32 (b + 1) (omega arith) in
    let power : 2 ^ (b + 1) ≡ 2 ^ b * 2 = pow-add 2 b 1 in
    double (from_on b)
    ∙ ap (λ m. alu_of Sll m b * 2 ^ 1 % 2 ^ 32) (mask_low b p)
    ∙ ap (λ m. m * 2 ^ 1 % 2 ^ 32) (shifted (2 ^ 32 - 1) b p)
    ∙ mul-mod_first ((2 ^ 32 - 1) * 2 ^ b) 2 (2 ^ 32)
    ∙ ap (λ m. m % 2 ^ 32) (regroup (2 ^ 32 - 1) (2 ^ b) (2 ^ (b + 1)) power)
    ∙ whole
  where
    regroup : (k m n : ℕ) → n ≡ m * 2 → k * m * 2 ≡ k * n
    regroup k m n e = mul_assoc k m 2 ∙ ap (λ u. k * u) (sym e)

behind_high : (b : ℕ) → 32 ≤ b → b < 2 ^ 31 → shift_of Slli (from_on b) 1 ≡ 0
behind_high b p q = double (from_on b) ∙ ap (λ m. m * 2 ^ 1 % 2 ^ 32) (from_high b p q)

below_low : (b i : ℕ) → b < 2 ^ 31 → int_le (pos i) (signed b) ≡ not (nat_le (b + 1) i)
below_low b i p = grind (arith, ints, nat_tests)

below_negative : (b i : ℕ) → 2 ^ 31 ≤ b → b < 2 ^ 32 → int_le (pos i) (signed b) ≡ false
below_negative b i p q = grind (arith, ints, nat_tests)

not_behind : (b i : ℕ) → 32 ≤ b → i < 32 → nat_le (b + 1) i ≡ false
not_behind b i p q = grind (arith, nat_tests)

behind_bits : (b i : ℕ) → b < 2 ^ 32 → i < 32 → nat_eq (bit_at (all_if_negative (shift_of Slli (from_on b) 1) b) i) 1 ≡ not (int_le (pos i) (signed b))
behind_bits b i p q =
    let v = shift_of Slli (from_on b) 1 in
    elim (cases_lt b (2 ^ 31)) [
      | inr negative ↦ negative_all v b i negative p q ∙ ap not (sym (below_negative b i negative p))
      | inl positive ↦
          ap (λ u. nat_eq (bit_at u i) 1) (negative_none v b positive)
          ∙ elim (cases_lt b 32) [
            | inl less ↦ ap (λ u. nat_eq (bit_at u i) 1) (behind_low b less) ∙ mask_bit (b + 1) i q
            | inr most ↦ ap (λ u. nat_eq (bit_at u i) 1) (behind_high b most positive) ∙ ap (λ t. nat_eq t 1) (bit_at-zero i) ∙ sym (not_behind b i most q)
          ]
          ∙ twice_not (nat_le (b + 1) i)
          ∙ ap not (sym (below_low b i positive))
    ]

-- ---- all elements from one to another

complement_bit : (v i : ℕ) → v < 2 ^ 32 → i < 32 → nat_eq (bit_at (imm_of Xori v (negsuc 0)) i) 1 ≡ not (nat_eq (bit_at v i) 1)
unfolding imm_of
complement_bit v i p q = ap (λ u. nat_eq (bit_at u i) 1) (xor_ones v p) ∙ ap (λ b. nat_eq b 1) (bit_at_not w32 v i p q) ∙ turned (bit_at v i) (bit_at-lt v i)
  where
    turned : (b : ℕ) → b < 2 → nat_eq (1 - b) 1 ≡ not (nat_eq b 1)
    turned zero p = refl
    turned (suc zero) p = refl
    turned (suc (suc b)) p = absurd (omega arith)

and_bit : (a b i : ℕ) → nat_eq (bit_at (alu_of And a b) i) 1 ≡ (nat_eq (bit_at a i) 1 && nat_eq (bit_at b i) 1)
unfolding alu_of
and_bit a b i = ap (λ u. nat_eq u 1) (bit_at_and a b i) ∙ least_of (bit_at a i) (bit_at b i) (bit_at-lt a i) (bit_at-lt b i)
  where
    least_of : (x y : ℕ) → x < 2 → y < 2 → nat_eq (min x y) 1 ≡ (nat_eq x 1 && nat_eq y 1)
    least_of zero zero p q = refl
    least_of zero (suc zero) p q = refl
    least_of (suc zero) zero p q = refl
    least_of (suc zero) (suc zero) p q = refl
    least_of (suc (suc x)) y p q = absurd (omega arith)
    least_of x (suc (suc y)) p q = absurd (omega arith)

or_bound : (v a : ℕ) → v < 2 ^ 32 → a < 2 ^ 32 → all_if_negative v a < 2 ^ 32
unfolding all_if_negative alu_of
or_bound v a p q =
    elim (cases_lt a (2 ^ 31)) [
      | inl positive ↦ or_lt 32 v (shift_of Srai a 31) p (subst (λ s. s < 2 ^ 32) (sym (sign_none a positive)) (omega arith))
      | inr negative ↦ or_lt 32 v (shift_of Srai a 31) p (subst (λ s. s < 2 ^ 32) (sym (sign_all a negative q)) (omega arith))
    ]

double_bound : (v : ℕ) → shift_of Slli v 1 < 2 ^ 32
unfolding shift_of
double_bound v = omega arith

and_bound : (a b : ℕ) → a < 2 ^ 32 → alu_of And a b < 2 ^ 32
unfolding alu_of
and_bound a b p = omega (arith, and_le_l a b)

unfoldable pub span_of : ℕ → ℕ → ℕ
span_of a b = alu_of And (all_if_negative (from_on a) a) (imm_of Xori (all_if_negative (shift_of Slli (from_on b) 1) b) (negsuc 0))

pub span_is : (a b : ℕ) (x y : ℤ) → IsWordOf a x → IsWordOf b y → IsWordOf (span_of a b) (set_of (λ n. between x y (pos n)))
unfolding span_of
span_is a b x y p q =
    let u = all_if_negative (from_on a) a in
    let v = all_if_negative (shift_of Slli (from_on b) 1) b in
    let bound_u : u < 2 ^ 32 = or_bound (from_on a) a (shl_bound (shift_of Srai (imm_of Addi a (negsuc 31)) 31) a) p.bound in
    let bound_v : v < 2 ^ 32 = or_bound (shift_of Slli (from_on b) 1) b (double_bound (from_on b)) q.bound in
    set_is (span_of a b) (λ n. between x y (pos n)) (and_bound u (imm_of Xori v (negsuc 0)) bound_u)
    (λ i r.
    and_bit u (imm_of Xori v (negsuc 0)) i
    ∙ ap₂ (λ s t. s && t) (from_bits a i p.bound r ∙ ap (λ z. int_le z (pos i)) p.number)
    (complement_bit v i bound_v r ∙ ap not (behind_bits b i q.bound r) ∙ sym (twice_not (int_le (pos i) (signed b))) ∙ ap (λ z. int_le (pos i) z) q.number))

-- ---- whether an element is in a set

and_one : (n : ℕ) → bit_and 1 n ≡ n % 2
and_one n = and_comm 1 n ∙ and_mask n 1

and_nothing : (n : ℕ) → bit_and 0 n ≡ 0
and_nothing n = omega (arith, and_le_l 0 n)

lowest : (r : ℕ) → r < 2 → r ≡ from_bool (nat_eq r 1)
lowest zero p = refl
lowest (suc zero) p = refl
lowest (suc (suc r)) p = absurd (omega arith)

element_low : (a b : ℕ) (y : ℤ) → a < 32 → IsWordOf b y → alu_of And (imm_of Sltiu a (pos 32)) (alu_of Srl b a) ≡ from_bool (is_element (signed a) y)
unfolding alu_of imm_of
element_low a b y p q =
    let yes : nat_lt a 32 ≡ true = grind (arith, nat_tests) in
    let same : a % 32 ≡ a = omega arith in
    let number : signed a ≡ pos a = (small_is a (omega arith)).number in
    ap₂ (λ t k. bit_and (from_bool t) (b / 2 ^ k)) yes same
    ∙ and_one (b / 2 ^ a)
    ∙ lowest (b / 2 ^ a % 2) (omega arith)
    ∙ ap (λ u. from_bool (nat_eq (u / 2 ^ a % 2) 1)) (sym (unsigned_is b y q))
    ∙ ap (λ t. from_bool (t && bit y a)) (sym yes)
    ∙ ap (λ z. from_bool (is_element z y)) (sym number)

no_element : (a : ℕ) (y : ℤ) → 32 ≤ a → a < 2 ^ 32 → is_element (signed a) y ≡ false
no_element a y p q = grind (arith, ints, nat_tests)

element_high : (a b : ℕ) (y : ℤ) → 32 ≤ a → a < 2 ^ 32 → alu_of And (imm_of Sltiu a (pos 32)) (alu_of Srl b a) ≡ from_bool (is_element (signed a) y)
unfolding alu_of imm_of
element_high a b y p q =
    let no : nat_lt a 32 ≡ false = grind (arith, nat_tests) in
    ap (λ t. bit_and (from_bool t) (b / 2 ^ (a % 32))) no ∙ and_nothing (b / 2 ^ (a % 32)) ∙ ap from_bool (sym (no_element a y p q))

pub element_is : (a b : ℕ) (x y : ℤ) → IsWordOf a x → IsWordOf b y → alu_of And (imm_of Sltiu a (pos 32)) (alu_of Srl b a) ≡ from_bool (is_element x y)
element_is a b x y p q =
    elim (cases_lt a 32) [
      | inl less ↦ element_low a b y less q ∙ ap (λ z. from_bool (is_element z y)) p.number
      | inr most ↦ element_high a b y most p.bound ∙ ap (λ z. from_bool (is_element z y)) p.number
    ]

-- ---- elements of one set that another one lacks

pub without_is : (a b : ℕ) (x y : ℤ) → IsWordOf a x → IsWordOf b y → IsWordOf (alu_of And a (imm_of Xori b (negsuc 0))) (without x y)
without_is a b x y p q = and_is a (imm_of Xori b (negsuc 0)) x (int_bit_not w32 y) p (complement_is b y q)

any_complement : (n : ℕ) → n < 2 ^ 32 → IsWordOf (cast_unsigned w32 (cast_signed w32 n)) (cast_signed w32 n)
any_complement n p = record { number = to_z-of_z w32 (cast_signed w32 n) (any_range n); bound = any_word n }

complement_bound : (n : ℕ) → bit_not w32 n < 2 ^ 32
complement_bound n = omega arith

pub others_is : (all : ℤ) → IsWordOf (cast_unsigned w32 (int_bit_not w32 all)) (int_bit_not w32 all)
others_is all = any_complement (bit_not w32 (cast_unsigned w32 all)) (complement_bound (cast_unsigned w32 all))

both_ways : (a b : ℕ) → alu_of And a b ≡ alu_of And b a
unfolding alu_of
both_ways a b = and_comm a b

pub others_test : (a : ℕ) (x all : ℤ) → IsWordOf a x → takes Bne (alu_of And (cast_unsigned w32 (int_bit_not w32 all)) a) 0 ≡ not (int_eq (without x all) (pos 0))
unfolding takes
others_test a x all p =
    let others = cast_unsigned w32 (int_bit_not w32 all) in
    let is : IsWordOf (alu_of And a others) (without x all) = and_is a others x (int_bit_not w32 all) p (others_is all) in
    ap (λ v. not (nat_eq v 0)) (both_ways others a) ∙ ap not (zero_test (alu_of And a others) (without x all) is)
