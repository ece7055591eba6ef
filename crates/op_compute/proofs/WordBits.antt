-- Bits of words and of the numbers that they are.
use Rattle.std.proofs.Common.{◌≡◌, ◌≢◌, ℕ, ℤ, pos, negsuc, ◌-◌, ◌*◌, ◌/◌, ◌%◌, ◌^◌, ◌<◌, ◌≤◌, true, false, nat_lt, inl, inr, ap, ap₂, sym, ◌∙◌, arith}
use Rattle.std.proofs.lemmas.Bool.{cases_eq}
use Rattle.std.proofs.lemmas.Bool.Decides.{nat_tests}
use Rattle.std.proofs.lemmas.Int.{ints}
use Rattle.std.proofs.lemmas.Nat.{and_le_l, and_mask, or_lt, xor_lt}
use Rattle.std.specs.Int.{w32, from_bool, cast_unsigned, int_bit_and, int_bit_or, int_bit_xor, int_bit_not, bit_not}
use Rattle.std.specs.Int.Bits.{bit_and, bit_or, bit_xor, xor_add_and, xor_self}
use Rattle.std.specs.Ordering.{int_eq}
use Rattle.op_compute.proofs.Words.{unsigned_is}
use Rattle.op_compute.specs.Meaning.{IsWordOf}
use Rattle.op_compute.specs.Straight.{alu_of, imm_of, shift_of}
use Rattle.op_meaning.specs.Numbers.{exact}
use Rattle.op_rv.proofs.Numbers.{xor_apart}
use Rattle.op_rv.specs.Operation.{signed}
use Rattle.op_rv.specs.declared.instruction.AluOp.TheVariants.{And, Or, Xor, Sll, Srl}
use Rattle.op_rv.specs.declared.instruction.ImmOp.TheVariants.{Sltiu, Xori}
use Rattle.op_rv.specs.declared.instruction.ShiftOp.TheVariants.{Srai}
use Rattle.op_tree.specs.declared.operator.Operator.TheVariants.{Shl, Shr}

-- ---- operations on bits

pub and_is : (a b : ℕ) (x y : ℤ) → IsWordOf a x → IsWordOf b y → IsWordOf (alu_of And a b) (int_bit_and w32 x y)
unfolding alu_of
and_is a b x y p q =
    let below = p.bound in
    record {
      number = ap₂ (λ u v. signed (bit_and u v)) (sym (unsigned_is a x p)) (sym (unsigned_is b y q));
      bound = omega (arith, and_le_l a b);
    }

pub or_is : (a b : ℕ) (x y : ℤ) → IsWordOf a x → IsWordOf b y → IsWordOf (alu_of Or a b) (int_bit_or w32 x y)
unfolding alu_of
or_is a b x y p q =
    record {
      number = ap₂ (λ u v. signed (bit_or u v)) (sym (unsigned_is a x p)) (sym (unsigned_is b y q));
      bound = or_lt 32 a b p.bound q.bound;
    }

pub xor_is : (a b : ℕ) (x y : ℤ) → IsWordOf a x → IsWordOf b y → IsWordOf (alu_of Xor a b) (int_bit_xor w32 x y)
unfolding alu_of
xor_is a b x y p q =
    record {
      number = ap₂ (λ u v. signed (bit_xor u v)) (sym (unsigned_is a x p)) (sym (unsigned_is b y q));
      bound = xor_lt 32 a b p.bound q.bound;
    }

pub xor_ones : (a : ℕ) → a < 2 ^ 32 → bit_xor a (2 ^ 32 - 1) ≡ 2 ^ 32 - 1 - a
xor_ones a p = omega (arith, xor_add_and a (2 ^ 32 - 1), and_mask a 32)

pub complement_is : (a : ℕ) (x : ℤ) → IsWordOf a x → IsWordOf (imm_of Xori a (negsuc 0)) (int_bit_not w32 x)
unfolding imm_of
complement_is a x p =
    let ones : bit_xor a (2 ^ 32 - 1) ≡ 2 ^ 32 - 1 - a = xor_ones a p.bound in
    record { number = ap signed ones ∙ ap (λ u. signed (bit_not w32 u)) (sym (unsigned_is a x p)); bound = omega (arith, ones) }

-- ---- shifts

pub shl_is : (a b : ℕ) (x y : ℤ) → IsWordOf a x → IsWordOf b y → IsWordOf (alu_of Sll a b) (exact Shl x y)
unfolding alu_of
shl_is a b x y p q =
    record {
      number = ap₂ (λ u v. signed (u * 2 ^ (v % 32) % 2 ^ 32)) (sym (unsigned_is a x p)) (sym (unsigned_is b y q));
      bound = omega arith;
    }

divided : (a k : ℕ) → a / 2 ^ k ≤ a
divided a k = omega arith

pub shr_is : (a b : ℕ) (x y : ℤ) → IsWordOf a x → IsWordOf b y → IsWordOf (alu_of Srl a b) (exact Shr x y)
unfolding alu_of
shr_is a b x y p q =
    let bound = p.bound in
    record {
      number = ap₂ (λ u v. signed (u / 2 ^ (v % 32))) (sym (unsigned_is a x p)) (sym (unsigned_is b y q));
      bound = omega (arith, divided a (b % 32));
    }

-- all bits are the sign
pub sign_none : (a : ℕ) → a < 2 ^ 31 → shift_of Srai a 31 ≡ 0
unfolding shift_of
sign_none a p = grind (arith, ints, nat_tests)

pub sign_all : (a : ℕ) → 2 ^ 31 ≤ a → a < 2 ^ 32 → shift_of Srai a 31 ≡ 2 ^ 32 - 1
unfolding shift_of
sign_all a p q = grind (arith, ints, nat_tests)

-- ---- equality

one_number : (x : ℤ) → int_eq x x ≡ true
one_number x = grind (arith, ints)

two_numbers : (x y : ℤ) → x ≢ y → int_eq x y ≡ false
two_numbers x y p = grind (arith, ints)

same_bits : (a b : ℕ) (x y : ℤ) → IsWordOf a x → IsWordOf b y → nat_lt (bit_xor a b) 1 ≡ int_eq x y
same_bits a b x y p q =
    elim (cases_eq a b) [
      | inl same ↦
          let none : bit_xor a b ≡ 0 = ap (λ c. bit_xor a c) (sym same) ∙ xor_self a in
          let one : x ≡ y = sym p.number ∙ ap signed same ∙ q.number in
          ap (λ n. nat_lt n 1) none ∙ sym (one_number x) ∙ ap (λ z. int_eq x z) one
      | inr apart ↦
          let two : x ≢ y = λ one. apart (sym (unsigned_is a x p) ∙ ap (cast_unsigned w32) one ∙ unsigned_is b y q) in
          xor_apart a b apart ∙ sym (two_numbers x y two)
    ]

pub equal_is : (a b : ℕ) (x y : ℤ) → IsWordOf a x → IsWordOf b y → imm_of Sltiu (alu_of Xor a b) (pos 1) ≡ from_bool (int_eq x y)
unfolding alu_of imm_of
equal_is a b x y p q = ap from_bool (same_bits a b x y p q)
