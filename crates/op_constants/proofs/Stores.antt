-- What a store of a word leaves is what its kind keeps of the number.
use Rattle.std.proofs.Common.{◌≡◌, ◌<◌, ◌≤◌, ℕ, zero, suc, ◌+◌, ◌-◌, ◌*◌, ◌/◌, ◌%◌, ◌^◌, get_or, false, nat_lt, refl, sym, ap, ◌∙◌, subst, arith, inl, inr}
use Rattle.std.specs.Prelude.{ℤ, pos, negsuc, unsigned_abs, ◌⊎◌, FitsSigned, if◌then◌else◌}
use Rattle.std.specs.Int.{w8, w16, w32, bytes_low_first, cast_signed, cast_unsigned, int_rem_euclid, int_wrap}
use Rattle.std.proofs.lemmas.Bool.{cases_lt}
use Rattle.std.proofs.lemmas.Bool.Decides.{nat_tests}
use Rattle.std.proofs.lemmas.Int.{int_wrap_fits, to_z-of_z, to_z_pos}
use Rattle.op_core.specs.Sizes.{integer_size}
use Rattle.op_core.specs.declared.types.IntegerKind.{IntegerKind}
use Rattle.op_core.specs.declared.types.IntegerKind.TheVariants.{Signed8, Unsigned8, Signed16, Unsigned16, Signed32}
use Rattle.op_meaning.specs.Numbers.{low_bits_of}
use Rattle.op_rv.proofs.Numbers.{signed_range}
use Rattle.op_rv.specs.Operation.{signed, extended_byte, extended_half}
use Rattle.op_rv.specs.State.{half_at, with_bytes}
use Rattle.op_rv.specs.Step.{load_value, store_size_of}
use Rattle.op_rv.proofs.Memory.{with_bytes-within, word_at-stored}
use Rattle.op_constants.specs.Lies.{load_op, store_op, number_there}

-- ---- words with a sign

abbrev is_low : ℕ → Type 0
is_low word = (word < 2147483648) ⊎ (2147483648 ≤ word)

negative : (word : ℕ) → 2147483648 ≤ word → signed word ≡ negsuc (4294967296 - suc word)
negative word high = let t : nat_lt word 2147483648 ≡ false = grind (arith, nat_tests) in ap (λ b. if b then pos word else negsuc (4294967296 - suc word)) t

pub byte_fits : (n : ℕ) → n < 2 ^ 8 → FitsSigned w32 (cast_signed w8 n)
byte_fits n fits = by (cases_lt n 128)
  where
    by : (n < 128) ⊎ (128 ≤ n) → FitsSigned w32 (cast_signed w8 n)
    by (inl low) = subst (FitsSigned w32) (sym (to_z_pos w8 n low)) (record { sfits = omega arith })
    by (inr high) =
        let t : nat_lt n 128 ≡ false = grind (arith, nat_tests) in
        let e : cast_signed w8 n ≡ negsuc (256 - suc n) = ap (λ b. if b then pos n else negsuc (256 - suc n)) t in
        subst (FitsSigned w32) (sym e) (record { sfits = omega arith })

pub half_fits : (n : ℕ) → n < 2 ^ 16 → FitsSigned w32 (cast_signed w16 n)
half_fits n fits = by (cases_lt n 32768)
  where
    by : (n < 32768) ⊎ (32768 ≤ n) → FitsSigned w32 (cast_signed w16 n)
    by (inl low) = subst (FitsSigned w32) (sym (to_z_pos w16 n low)) (record { sfits = omega arith })
    by (inr high) =
        let t : nat_lt n 32768 ≡ false = grind (arith, nat_tests) in
        let e : cast_signed w16 n ≡ negsuc (65536 - suc n) = ap (λ b. if b then pos n else negsuc (65536 - suc n)) t in
        subst (FitsSigned w32) (sym e) (record { sfits = omega arith })

-- ---- the rest of a word with a sign is the rest of the word

rest_of_byte : (word : ℕ) → word < 2 ^ 32 → int_rem_euclid (signed word) (pos 256) ≡ pos (word % 256)
rest_of_byte word fits = by (cases_lt word 2147483648)
  where
    by : (word < 2147483648) ⊎ (2147483648 ≤ word) → int_rem_euclid (signed word) (pos 256) ≡ pos (word % 256)
    by (inl low) = ap (λ z. int_rem_euclid z (pos 256)) (to_z_pos w32 word low)
    by (inr high) =
        let rest : 256 - 1 - (4294967296 - suc word) % 256 ≡ word % 256 = omega arith in
        ap (λ z. int_rem_euclid z (pos 256)) (negative word high) ∙ ap pos rest

rest_of_half : (word : ℕ) → word < 2 ^ 32 → int_rem_euclid (signed word) (pos 65536) ≡ pos (word % 65536)
rest_of_half word fits = by (cases_lt word 2147483648)
  where
    by : (word < 2147483648) ⊎ (2147483648 ≤ word) → int_rem_euclid (signed word) (pos 65536) ≡ pos (word % 65536)
    by (inl low) = ap (λ z. int_rem_euclid z (pos 65536)) (to_z_pos w32 word low)
    by (inr high) =
        let rest : 65536 - 1 - (4294967296 - suc word) % 65536 ≡ word % 65536 = omega arith in
        ap (λ z. int_rem_euclid z (pos 65536)) (negative word high) ∙ ap pos rest

-- ---- what is there

-- a number of fewer bits is one of a word
widened_byte : (n : ℕ) → n < 2 ^ 8 → signed (extended_byte n) ≡ cast_signed w8 n
widened_byte n fits = to_z-of_z w32 (cast_signed w8 n) (byte_fits n fits)

widened_half : (n : ℕ) → n < 2 ^ 16 → signed (extended_half n) ≡ cast_signed w16 n
widened_half n fits = to_z-of_z w32 (cast_signed w16 n) (half_fits n fits)

byte_there : (memory : ℕ → ℕ) (a n word : ℕ) → 0 < n → with_bytes memory a (bytes_low_first 0 n word) a ≡ word % 256
byte_there memory a zero word some = absurd (omega arith)
byte_there memory a (suc n) word some =
    let e : a - a ≡ 0 = omega arith in
    with_bytes-within memory a (bytes_low_first 0 (suc n) word) a (omega arith) (omega arith) ∙ ap (λ i. get_or (bytes_low_first 0 (suc n) word) i 0) e

second_there : (memory : ℕ → ℕ) (a word : ℕ) → with_bytes memory a (bytes_low_first 0 2 word) (a + 1) ≡ word / 256 % 256
second_there memory a word =
    let e : a + 1 - a ≡ 1 = omega arith in
    with_bytes-within memory a (bytes_low_first 0 2 word) (a + 1) (omega arith) (omega arith) ∙ ap (λ i. get_or (bytes_low_first 0 2 word) i 0) e

half_there : (memory : ℕ → ℕ) (a word : ℕ) → half_at (with_bytes memory a (bytes_low_first 0 2 word)) a ≡ word % 65536
half_there memory a word =
    let b0 = byte_there memory a 2 word (omega arith) in
    let b1 = second_there memory a word in
    omega arith

-- the number that a store by its kind leaves
pub stored : (kind : IntegerKind) (memory : ℕ → ℕ) (a word : ℕ) → word < 2 ^ 32 → number_there kind (with_bytes memory a (bytes_low_first 0 (store_size_of (store_op kind)) word)) a ≡ low_bits_of kind (signed word)
unfolding int_wrap
stored Signed8 memory a word fits =
    ap (λ b. signed (extended_byte b)) (byte_there memory a 1 word (omega arith)) ∙ widened_byte (word % 256) (omega arith) ∙ sym (ap (λ z. cast_signed w8 (unsigned_abs z)) (rest_of_byte word fits))
stored Unsigned8 memory a word fits =
    ap signed (byte_there memory a 1 word (omega arith)) ∙ to_z_pos w32 (word % 256) (omega arith) ∙ sym (rest_of_byte word fits)
stored Signed16 memory a word fits =
    ap (λ h. signed (extended_half h)) (half_there memory a word) ∙ widened_half (word % 65536) (omega arith) ∙ sym (ap (λ z. cast_signed w16 (unsigned_abs z)) (rest_of_half word fits))
stored Unsigned16 memory a word fits =
    ap signed (half_there memory a word) ∙ to_z_pos w32 (word % 65536) (omega arith) ∙ sym (rest_of_half word fits)
stored Signed32 memory a word fits = ap signed (word_at-stored memory a word fits) ∙ sym (int_wrap_fits w32 (signed word) (signed_range word fits))
