-- Words as numbers with a sign, and how large numbers with a sign are.
use Rattle.std.proofs.Common.{rules, ◌≡◌, ◌≢◌, ◌<◌, ◌≤◌, ℕ, ℤ, pos, negsuc, neg_ℤ, zero, suc, ◌/◌, ◌^◌, false, int_div, int_lt, nat_lt, unsigned_abs, FitsSigned, div-le_self, arith}
use Rattle.std.proofs.lemmas.Bool.Decides.{nat_tests}
use Rattle.std.proofs.lemmas.Int.{ints}
use Rattle.std.proofs.lemmas.Nat.{and_le_l, and_le_r}
use Rattle.std.specs.Int.{w32}
use Rattle.std.specs.Int.Bits.{bit_xor, xor_add_and}
use Rattle.op_rv.specs.Operation.{signed}

pub signed_range : (a : ℕ) → a < 2 ^ 32 → FitsSigned w32 (signed a)
signed_range a small = search rules

pub abs_signed : (a : ℕ) → a < 2 ^ 32 → unsigned_abs (signed a) ≤ 2 ^ 31
abs_signed a small = omega (arith, ints)

pub abs_neg : (n : ℕ) → unsigned_abs (neg_ℤ (pos n)) ≤ n
abs_neg zero = omega arith
abs_neg (suc n) = omega arith

-- a quotient is no larger than what is divided
pub abs_div : (a b : ℤ) → unsigned_abs (int_div a b) ≤ unsigned_abs a
abs_div (pos a) (pos b) = div-le_self a b
abs_div (pos a) (negsuc b) =
    let less = div-le_self a (suc b) in
    let neg = abs_neg (a / suc b) in
    omega arith
abs_div (negsuc a) (pos b) =
    let less = div-le_self (suc a) b in
    let neg = abs_neg (suc a / b) in
    omega arith
abs_div (negsuc a) (negsuc b) = div-le_self (suc a) (suc b)

pub not_negative : (n : ℕ) → int_lt (pos n) (pos 0) ≡ false
not_negative n = grind (arith, nat_tests)

-- two words that differ, differ in some bit
pub xor_apart : (a b : ℕ) → a ≢ b → nat_lt (bit_xor a b) 1 ≡ false
xor_apart a b p = grind (arith, nat_tests, xor_add_and a b, and_le_l a b, and_le_r a b)
