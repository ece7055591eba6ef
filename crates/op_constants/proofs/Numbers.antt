-- Numbers in bytes.
use Rattle.std.proofs.Common.{◌≡◌, ◌<◌, ℕ, suc, ◌+◌, ◌-◌, ◌*◌, ◌/◌, ◌%◌, ◌^◌, get_or, refl, sym, ap, ◌∙◌, arith}
use Rattle.std.specs.Prelude.{ℤ, pos, negsuc}
use Rattle.std.specs.Int.{w8, w16, w32, cast_signed, cast_unsigned}
use Rattle.std.proofs.lemmas.Int.{ints, to_z-of_z}
use Rattle.op_core.specs.Sizes.{integer_range, integer_size}
use Rattle.op_core.specs.Typing.{Within}
use Rattle.op_core.specs.declared.types.IntegerKind.{IntegerKind}
use Rattle.op_core.specs.declared.types.IntegerKind.TheVariants.{Signed8, Unsigned8, Signed16, Unsigned16, Signed32}
use Rattle.op_rv.specs.Operation.{signed, extended_byte, extended_half}
use Rattle.op_rv.specs.Step.{load_value}
use Rattle.op_constants.specs.FirstBytes.{number_bytes}
use Rattle.op_constants.specs.Lies.{load_op, number_there}
use Rattle.op_constants.proofs.Lying.{number-same}

-- ---- zeros

pub zero_there : (kind : IntegerKind) (memory : ℕ → ℕ) (a : ℕ) → ((x : ℕ) → x < integer_size kind → memory (a + x) ≡ 0) → pos 0 ≡ number_there kind memory a
zero_there kind memory a none = sym (ap signed (number-same kind (λ x. 0) memory 0 a none ∙ by kind))
  where
    by : (k : IntegerKind) → load_value (load_op k) (λ x. 0) 0 ≡ 0
    by Signed8 = refl
    by Unsigned8 = refl
    by Signed16 = refl
    by Unsigned16 = refl
    by Signed32 = refl

-- ---- the low bytes of a number of the kind

abbrev word : ℤ → ℕ
word n = cast_unsigned w32 n

low_byte : (n : ℤ) → Within (integer_range Signed8) n → cast_signed w8 (word n % 256) ≡ n
low_byte (pos m) fits = omega (arith, ints, fits)
low_byte (negsuc m) fits =
    let small : m < 128 = omega (arith, ints, fits) in
    let e : (4294967296 - suc m) % 256 ≡ 256 - suc m = omega arith in
    ap (cast_signed w8) e ∙ to_z-of_z w8 (negsuc m) (record { sfits = small })

low_half : (n : ℤ) → Within (integer_range Signed16) n → cast_signed w16 (word n % 65536) ≡ n
low_half (pos m) fits = omega (arith, ints, fits)
low_half (negsuc m) fits =
    let small : m < 32768 = omega (arith, ints, fits) in
    let e : (4294967296 - suc m) % 65536 ≡ 65536 - suc m = omega arith in
    ap (cast_signed w16) e ∙ to_z-of_z w16 (negsuc m) (record { sfits = small })

plain_byte : (n : ℤ) → Within (integer_range Unsigned8) n → signed (word n % 256) ≡ n
plain_byte (pos m) fits = omega (arith, ints, fits)
plain_byte (negsuc m) fits = absurd (omega (arith, ints, fits))

plain_half : (n : ℤ) → Within (integer_range Unsigned16) n → signed (word n % 65536) ≡ n
plain_half (pos m) fits = omega (arith, ints, fits)
plain_half (negsuc m) fits = absurd (omega (arith, ints, fits))

whole_word : (n : ℤ) → Within (integer_range Signed32) n → signed (word n % 4294967296) ≡ n
whole_word (pos m) fits = omega (arith, ints, fits)
whole_word (negsuc m) fits =
    let small : m < 2147483648 = omega (arith, ints, fits) in
    let e : (4294967296 - suc m) % 4294967296 ≡ 4294967296 - suc m = omega arith in
    ap signed e ∙ to_z-of_z w32 (negsuc m) (record { sfits = small })

-- a number that is one of bytes or half words is one of words
widened_byte : (n : ℤ) → Within (integer_range Signed8) n → signed (word n) ≡ n
widened_byte (pos m) fits = omega (arith, ints, fits)
widened_byte (negsuc m) fits = omega (arith, ints, fits)

widened_half : (n : ℤ) → Within (integer_range Signed16) n → signed (word n) ≡ n
widened_half (pos m) fits = omega (arith, ints, fits)
widened_half (negsuc m) fits = omega (arith, ints, fits)

-- where the low bytes of a number are, the number is
pub number_lies : (kind : IntegerKind) (n : ℤ) (memory : ℕ → ℕ) (a : ℕ) → Within (integer_range kind) n → ((x : ℕ) → x < integer_size kind → memory (a + x) ≡ get_or (number_bytes kind n) x 0) → n ≡ number_there kind memory a
number_lies kind n memory a fits there = by kind fits there
  where
    here : memory (a + 0) ≡ word n % 256 → memory a ≡ word n % 256
    here e = let at : a ≡ a + 0 = omega arith in ap memory at ∙ e

    half : memory (a + 0) ≡ word n % 256 → memory (a + 1) ≡ word n / 256 % 256 → memory a + 2 ^ 8 * memory (a + 1) ≡ word n % 65536
    half e f = let b0 = here e in omega (arith, b0, f)

    by : (k : IntegerKind) → Within (integer_range k) n → ((x : ℕ) → x < integer_size k → memory (a + x) ≡ get_or (number_bytes k n) x 0) → n ≡ number_there k memory a
    by Signed8 fits there = sym (ap (λ b. signed (extended_byte b)) (here (there 0 (omega arith))) ∙ ap (λ z. signed (word z)) (low_byte n fits) ∙ widened_byte n fits)
    by Unsigned8 fits there = sym (ap signed (here (there 0 (omega arith))) ∙ plain_byte n fits)
    by Signed16 fits there = sym (ap (λ b. signed (extended_half b)) (half (there 0 (omega arith)) (there 1 (omega arith))) ∙ ap (λ z. signed (word z)) (low_half n fits) ∙ widened_half n fits)
    by Unsigned16 fits there = sym (ap signed (half (there 0 (omega arith)) (there 1 (omega arith))) ∙ plain_half n fits)
    by Signed32 fits there =
        let b0 = here (there 0 (omega arith)) in
        let b1 : memory (a + 1) ≡ word n / 256 % 256 = there 1 (omega arith) in
        let b2 : memory (a + 2) ≡ word n / 65536 % 256 = there 2 (omega arith) in
        let b3 : memory (a + 3) ≡ word n / 16777216 % 256 = there 3 (omega arith) in
        let all : memory a + 2 ^ 8 * memory (a + 1) + 2 ^ 16 * memory (a + 2) + 2 ^ 24 * memory (a + 3) ≡ word n % 4294967296 = omega (arith, b0, b1, b2, b3) in
        sym (ap signed all ∙ whole_word n fits)
