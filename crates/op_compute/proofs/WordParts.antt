-- Parts of words, and where numbers lie.
use Rattle.std.proofs.Common.{◌≡◌, ℕ, ℤ, zero, suc, pos, negsuc, ◌+◌, ◌-◌, ◌*◌, ◌/◌, ◌%◌, ◌^◌, ◌<◌, ◌≤◌, ◌+ℤ◌, ◌-ℤ◌, unsigned_abs, Bool, true, false, not, nat_eq, nat_lt, inl, inr, refl, ap, ap₂, sym, ◌∙◌, subst, arith, if◌then◌else◌}
use Rattle.std.proofs.lemmas.Bool.{cases_lt}
use Rattle.std.proofs.lemmas.Bool.Decides.{nat_tests}
use Rattle.std.proofs.lemmas.Int.{ints, of_z-to_z}
use Rattle.std.proofs.lemmas.Nat.{and_mask}
use Rattle.std.specs.Int.{w8, w16, w32, from_bool, cast_signed, cast_unsigned, int_wrap, int_rem_euclid, int_wrapping_neg}
use Rattle.std.specs.Int.Bits.{bit_and, xor_zero_r}
use Rattle.std.specs.Int.RustNames.{FitsSigned}
use Rattle.std.specs.Ordering.{int_eq}
use Rattle.std.specs.Prelude.{int_lt}
use Rattle.op_base.proofs.Tests.{twice_not}
use Rattle.op_compute.proofs.WordBits.{sign_none, sign_all, xor_ones}
use Rattle.op_compute.proofs.Words.{unsigned_is, wrapped_is, number_is}
use Rattle.op_compute.specs.Meaning.{IsWordOf}
use Rattle.op_compute.specs.Ranges.{lower_end, higher_end}
use Rattle.op_compute.specs.Straight.{alu_of, imm_of, shift_of, takes}
use Rattle.op_core.specs.declared.types.IntegerKind.TheVariants.{Signed8, Unsigned8, Signed16, Unsigned16}
use Rattle.op_meaning.specs.Numbers.{between, fits_word, low_bits_of, upper_case, wrapped}
use Rattle.op_meaning.specs.Sets.{bit}
use Rattle.op_rv.specs.Operation.{signed, word_from}
use Rattle.op_rv.specs.declared.instruction.AluOp.TheVariants.{Sub, Xor}
use Rattle.op_rv.specs.declared.instruction.BranchOp.TheVariants.{Beq, Bltu}
use Rattle.op_rv.specs.declared.instruction.ImmOp.TheVariants.{Addi, Andi, Sltiu}
use Rattle.op_rv.specs.declared.instruction.ShiftOp.TheVariants.{Slli, Srai, Srli}

-- ---- without the sign

abs_low : (a : ℕ) → a < 2 ^ 31 → unsigned_abs (signed a) ≡ a
abs_low a p = grind (arith, ints)

abs_high : (a : ℕ) → 2 ^ 31 ≤ a → a < 2 ^ 32 → unsigned_abs (signed a) ≡ 2 ^ 32 - a
abs_high a p q = grind (arith, ints)

turned_low : (a : ℕ) → a < 2 ^ 32 → alu_of Sub (alu_of Xor a 0) 0 ≡ a
unfolding alu_of
turned_low a p = simp (xor_zero_r a) (omega arith)

turned_high : (a : ℕ) → 2 ^ 31 ≤ a → a < 2 ^ 32 → alu_of Sub (alu_of Xor a (2 ^ 32 - 1)) (2 ^ 32 - 1) ≡ 2 ^ 32 - a
unfolding alu_of
turned_high a p q = simp (xor_ones a q) (omega arith)

abs_word : (a : ℕ) → a < 2 ^ 32 → alu_of Sub (alu_of Xor a (shift_of Srai a 31)) (shift_of Srai a 31) ≡ unsigned_abs (signed a)
abs_word a p =
    elim (cases_lt a (2 ^ 31)) [
      | inl less ↦ ap (λ s. alu_of Sub (alu_of Xor a s) s) (sign_none a less) ∙ turned_low a p ∙ sym (abs_low a less)
      | inr most ↦ ap (λ s. alu_of Sub (alu_of Xor a s) s) (sign_all a most p) ∙ turned_high a most p ∙ sym (abs_high a most p)
    ]

abs_bound : (a : ℕ) → a < 2 ^ 32 → unsigned_abs (signed a) < 2 ^ 32
abs_bound a p = grind (arith, ints)

pub absolute_is : (a : ℕ) (x : ℤ) → IsWordOf a x → IsWordOf (alu_of Sub (alu_of Xor a (shift_of Srai a 31)) (shift_of Srai a 31)) (wrapped (pos (unsigned_abs x)))
absolute_is a x p =
    subst (λ z. IsWordOf (alu_of Sub (alu_of Xor a (shift_of Srai a 31)) (shift_of Srai a 31)) (wrapped (pos (unsigned_abs z)))) p.number
    (subst (λ v. IsWordOf v (wrapped (pos (unsigned_abs (signed a))))) (sym (abs_word a p.bound)) (wrapped_is (unsigned_abs (signed a)) (abs_bound a p.bound)))

least_abs : (a : ℕ) → a < 2 ^ 32 → nat_eq a (2 ^ 31) ≡ not (fits_word (pos (unsigned_abs (signed a))))
least_abs a p = grind (arith, ints, nat_tests)

pub absolute_test : (a : ℕ) (x : ℤ) → IsWordOf a x → takes Beq a (2 ^ 31) ≡ not (fits_word (pos (unsigned_abs x)))
unfolding takes
absolute_test a x p = least_abs a p.bound ∙ ap (λ z. not (fits_word (pos (unsigned_abs z)))) p.number

-- ---- truth

is_zero : (a : ℕ) → a < 2 ^ 32 → nat_lt a 1 ≡ int_eq (signed a) (pos 0)
is_zero a p = grind (arith, ints, nat_tests)

pub zero_is : (a : ℕ) (x : ℤ) → IsWordOf a x → imm_of Sltiu a (pos 1) ≡ from_bool (int_eq x (pos 0))
unfolding imm_of
zero_is a x p = ap from_bool (is_zero a p.bound ∙ ap (λ z. int_eq z (pos 0)) p.number)

lowest : (r : ℕ) → r < 2 → r ≡ from_bool (nat_eq r 1)
lowest zero p = refl
lowest (suc zero) p = refl
lowest (suc (suc r)) p = absurd (omega arith)

pub odd_is : (a : ℕ) (x : ℤ) → IsWordOf a x → imm_of Andi a (pos 1) ≡ from_bool (bit x 0)
unfolding imm_of
odd_is a x p =
    let same : a % 2 ≡ a / 1 % 2 = omega arith in
    and_mask a 1 ∙ lowest (a % 2) (omega arith) ∙ ap (λ r. from_bool (nat_eq r 1)) same ∙ ap (λ u. from_bool (nat_eq (u / 1 % 2) 1)) (sym (unsigned_is a x p))

-- ---- low bits

pub byte_is : (a : ℕ) (x : ℤ) → IsWordOf a x → IsWordOf (imm_of Andi a (pos 255)) (low_bits_of Unsigned8 x)
unfolding imm_of
byte_is a x p =
    let low : bit_and a 255 ≡ a % 256 = and_mask a 8 in
    subst (λ z. IsWordOf (bit_and a 255) (low_bits_of Unsigned8 z)) p.number
    (subst (λ v. IsWordOf v (low_bits_of Unsigned8 (signed a))) (sym low) (record { number = byte_number a p.bound; bound = omega arith }))
  where
    byte_number : (a : ℕ) → a < 2 ^ 32 → signed (a % 256) ≡ int_rem_euclid (signed a) (pos 256)
    byte_number a p = grind (arith, ints)

pub half_is : (a : ℕ) (x : ℤ) → IsWordOf a x → IsWordOf (shift_of Srli (shift_of Slli a 16) 16) (low_bits_of Unsigned16 x)
unfolding shift_of
half_is a x p =
    subst (λ z. IsWordOf (a * 2 ^ 16 % 2 ^ 32 / 2 ^ 16) (low_bits_of Unsigned16 z)) p.number (record { number = half_number a p.bound; bound = omega arith })
  where
    half_number : (a : ℕ) → a < 2 ^ 32 → signed (a * 2 ^ 16 % 2 ^ 32 / 2 ^ 16) ≡ int_rem_euclid (signed a) (pos 65536)
    half_number a p = grind (arith, ints)

-- a byte with its sign, in both ways
shifted_byte : (a : ℕ) → a < 2 ^ 32 → shift_of Srai (shift_of Slli a 24) 24 ≡ word_from (cast_signed w8 (a % 256))
unfolding shift_of
shifted_byte a p = grind (arith, ints, nat_tests)

wrapped_byte : (a : ℕ) → a < 2 ^ 32 → int_wrap w8 (signed a) ≡ cast_signed w8 (a % 256)
unfolding int_wrap
wrapped_byte a p = grind (arith, ints)

signed_byte_range : (b : ℕ) → b < 256 → FitsSigned w32 (cast_signed w8 b)
signed_byte_range b p = record { sfits = grind (arith, ints) }

pub signed_byte_is : (a : ℕ) (x : ℤ) → IsWordOf a x → IsWordOf (shift_of Srai (shift_of Slli a 24) 24) (low_bits_of Signed8 x)
signed_byte_is a x p =
    let byte = cast_signed w8 (a % 256) in
    let value : int_wrap w8 x ≡ byte = ap (int_wrap w8) (sym p.number) ∙ wrapped_byte a p.bound in
    subst (λ z. IsWordOf (shift_of Srai (shift_of Slli a 24) 24) z) (sym value)
    (subst (λ v. IsWordOf v byte) (sym (shifted_byte a p.bound)) (number_is byte (signed_byte_range (a % 256) (omega arith))))

shifted_half : (a : ℕ) → a < 2 ^ 32 → shift_of Srai (shift_of Slli a 16) 16 ≡ word_from (cast_signed w16 (a % 65536))
unfolding shift_of
shifted_half a p = grind (arith, ints, nat_tests)

wrapped_half : (a : ℕ) → a < 2 ^ 32 → int_wrap w16 (signed a) ≡ cast_signed w16 (a % 65536)
unfolding int_wrap
wrapped_half a p = grind (arith, ints)

signed_half_range : (h : ℕ) → h < 65536 → FitsSigned w32 (cast_signed w16 h)
signed_half_range h p = record { sfits = grind (arith, ints) }

pub signed_half_is : (a : ℕ) (x : ℤ) → IsWordOf a x → IsWordOf (shift_of Srai (shift_of Slli a 16) 16) (low_bits_of Signed16 x)
signed_half_is a x p =
    let half = cast_signed w16 (a % 65536) in
    let value : int_wrap w16 x ≡ half = ap (int_wrap w16) (sym p.number) ∙ wrapped_half a p.bound in
    subst (λ z. IsWordOf (shift_of Srai (shift_of Slli a 16) 16) z) (sym value)
    (subst (λ v. IsWordOf v half) (sym (shifted_half a p.bound)) (number_is half (signed_half_range (a % 65536) (omega arith))))

-- ---- upper case

is_letter : (a : ℕ) → a < 2 ^ 32 → nat_lt ((a + 4294967199) % 2 ^ 32) 26 ≡ between (pos 97) (pos 122) (signed a)
is_letter a p = grind (arith, ints, nat_tests)

turned_letter : (a : ℕ) → a < 2 ^ 32 → (letter : Bool) → between (pos 97) (pos 122) (signed a) ≡ letter → signed ((a + (2 ^ 32 - from_bool letter * 2 ^ 5 % 2 ^ 32)) % 2 ^ 32) ≡ (if letter then signed a -ℤ pos 32 else signed a)
turned_letter a p true e = grind (arith, ints)
turned_letter a p false e = grind (arith, ints)

upper_word : (a : ℕ) → a < 2 ^ 32 → IsWordOf (alu_of Sub a (shift_of Slli (imm_of Sltiu (imm_of Addi a (negsuc 96)) (pos 26)) 5)) (upper_case (signed a))
unfolding alu_of imm_of shift_of
upper_word a p =
    let letter = between (pos 97) (pos 122) (signed a) in
    record { number = ap (λ t. signed ((a + (2 ^ 32 - from_bool t * 2 ^ 5 % 2 ^ 32)) % 2 ^ 32)) (is_letter a p) ∙ turned_letter a p letter refl; bound = omega arith }

pub upper_is : (a : ℕ) (x : ℤ) → IsWordOf a x → IsWordOf (alu_of Sub a (shift_of Slli (imm_of Sltiu (imm_of Addi a (negsuc 96)) (pos 26)) 5)) (upper_case x)
upper_is a x p = subst (λ z. IsWordOf (alu_of Sub a (shift_of Slli (imm_of Sltiu (imm_of Addi a (negsuc 96)) (pos 26)) 5)) (upper_case z)) p.number (upper_word a p.bound)

-- ---- ranges

-- how far a word is above another one
abbrev pub gap : ℕ → ℕ → ℕ
gap a low = (a + (2 ^ 32 - low)) % 2 ^ 32

words_between : (a l h : ℕ) → a < 2 ^ 32 → l < 2 ^ 32 → h < 2 ^ 32 → int_lt (signed h) (signed l) ≡ false → nat_lt (unsigned_abs (signed h -ℤ signed l)) (gap a l) ≡ not (between (signed l) (signed h) (signed a))
words_between a l h p q r e = grind (arith, ints, nat_tests)

pub range_test : (a l h : ℕ) (x low high : ℤ) → IsWordOf a x → IsWordOf l low → IsWordOf h high → int_lt high low ≡ false → takes Bltu (unsigned_abs (high -ℤ low)) (gap a l) ≡ not (between low high x)
unfolding takes
range_test a l h x low high p q r e =
    let less : int_lt (signed h) (signed l) ≡ false = ap₂ int_lt r.number q.number ∙ e in
    ap₂ (λ u v. nat_lt (unsigned_abs (v -ℤ u)) (gap a l)) (sym q.number) (sym r.number)
    ∙ words_between a l h p.bound q.bound r.bound less
    ∙ (λ i. not (between (q.number i) (r.number i) (p.number i)))

-- what is in a range lies between its ends among the numbers of 32 bits
pub ends_between : (low high x : ℤ) → fits_word x ≡ true → between low high x ≡ between (lower_end low) (higher_end high) x
ends_between low high x p = grind (arith, ints)

pub none_between : (low high x : ℤ) → int_lt high low ≡ true → between low high x ≡ false
none_between low high x e = grind (arith, ints)

pub in_front : (x distance low high : ℤ) → between low high (x +ℤ distance) ≡ between (low -ℤ distance) (high -ℤ distance) x
in_front x distance low high = grind (arith, ints)

-- the ends of a range that has a number are numbers of 32 bits
pub lower_is : (low high : ℤ) → int_lt (higher_end high) (lower_end low) ≡ false → IsWordOf (word_from (lower_end low)) (lower_end low)
lower_is low high e = number_is (lower_end low) (record { sfits = grind (arith, ints) })

pub higher_is : (low high : ℤ) → int_lt (higher_end high) (lower_end low) ≡ false → IsWordOf (word_from (higher_end high)) (higher_end high)
higher_is low high e = number_is (higher_end high) (record { sfits = grind (arith, ints) })

-- the word of an opposite
pub opposite_word : (l : ℕ) (low : ℤ) → IsWordOf l low → word_from (int_wrapping_neg w32 low) ≡ (2 ^ 32 - l) % 2 ^ 32
opposite_word l low p =
    of_z-to_z w32 ((2 ^ 32 - cast_unsigned w32 low) % 2 ^ 32) (omega arith) ∙ ap (λ u. (2 ^ 32 - u) % 2 ^ 32) (unsigned_is l low p)

pub gap_of : (a l : ℕ) → (a + (2 ^ 32 - l) % 2 ^ 32) % 2 ^ 32 ≡ gap a l
gap_of a l = omega arith

pub gap_zero : (a : ℕ) → a < 2 ^ 32 → gap a 0 ≡ a
gap_zero a p = omega arith

-- the sum with a number, where the range of the result is one of 32 bits
sum_word : (a d : ℕ) → a < 2 ^ 32 → d < 2 ^ 32 → fits_word (signed a +ℤ signed d) ≡ true → signed ((a + d) % 2 ^ 32) ≡ signed a +ℤ signed d
sum_word a d p q e = grind (arith, ints)

pub sum_with_is : (a d : ℕ) (x distance : ℤ) → IsWordOf a x → IsWordOf d distance → fits_word (x +ℤ distance) ≡ true → IsWordOf ((a + d) % 2 ^ 32) (x +ℤ distance)
sum_with_is a d x distance p q e =
    let fits : fits_word (signed a +ℤ signed d) ≡ true = ap₂ (λ u v. fits_word (u +ℤ v)) p.number q.number ∙ e in
    record { number = sum_word a d p.bound q.bound fits ∙ ap₂ (λ u v. u +ℤ v) p.number q.number; bound = omega arith }

pub between_fits : (low high n : ℤ) → fits_word low ≡ true → fits_word high ≡ true → between low high n ≡ true → fits_word n ≡ true
between_fits low high n p q e = grind (arith, ints)
