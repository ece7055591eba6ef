-- Zeros in memory are what variables begin with.
use Rattle.std.proofs.Common.{◌≡◌, ◌<◌, ◌≤◌, ℕ, zero, suc, ◌+◌, List, [], ◌∷◌, true, nat_eq, get_or, refl, ap, ◌∙◌, arith}
use Rattle.std.proofs.lemmas.Bool.{and_parts}
use Rattle.std.proofs.lemmas.Bool.Decides.{nat_tests}
use Rattle.std.specs.Prelude.{pos}
use Rattle.op_core.specs.Sizes.{type_at}
use Rattle.op_core.specs.declared.ids.TypeId.{TypeId}
use Rattle.op_core.specs.declared.program.Core.{Core}
use Rattle.op_core.specs.declared.types.IntegerKind.TheVariants.{Signed32}
use Rattle.op_meaning.specs.Shapes.{Shape, single, composite, of_chars, of_elements, of_instance, part_type, shape_of, zero_by, zero_within}
use Rattle.op_meaning.specs.Values.{number, number_in}
use Rattle.op_constants.specs.FirstBytes.{are_zeros}
use Rattle.op_constants.specs.Lies.{Arrangement, one_number, in_parts, bytes_in, IsArranged, Lies, arrangement_by, arrangement_within, part_offset}
use Rattle.op_constants.specs.Offsets.{size_in}
use Rattle.op_constants.proofs.Numbers.{zero_there}

-- each of the bytes of a value that begins as zero
pub zeros_read : (bytes : List ℕ) → are_zeros bytes ≡ true → (k : ℕ) → get_or bytes k 0 ≡ 0
zeros_read [] none k = refl
zeros_read (b ∷ bytes) none zero = let first = (and_parts (nat_eq b 0) (are_zeros bytes) none).0 in grind (arith, nat_tests, first)
zeros_read (b ∷ bytes) none (suc k) = zeros_read bytes (and_parts (nat_eq b 0) (are_zeros bytes) none).1 k

abbrev pub AreZeros : (ℕ → ℕ) → ℕ → ℕ → Type 0
AreZeros memory a n = (x : ℕ) → x < n → memory (a + x) ≡ 0

pub zeros_within : (memory : ℕ → ℕ) (a n offset m : ℕ) → AreZeros memory a n → offset + m ≤ n → AreZeros memory (a + offset) m
zeros_within memory a n offset m none room x low = let e : a + offset + x ≡ a + (offset + x) = omega arith in ap memory e ∙ none (offset + x) (omega arith)

-- the number 0 has parts that are 0, and so on
pub nothing_lies : (l : Arrangement) (memory : ℕ → ℕ) (a : ℕ) → IsArranged l → AreZeros memory a (bytes_in l) → Lies l (number (pos 0)) memory a
nothing_lies (one_number kind) memory a is none = zero_there kind memory a none
nothing_lies (in_parts size count offset part) memory a is none = λ k low.
    nothing_lies (part k) memory (a + offset k) (is.0 k low).0 (zeros_within memory a size (offset k) (bytes_in (part k)) none (is.0 k low).1)

pub zero-number : (m : ℕ) (core : Core) (of : TypeId) → number_in (zero_within m core of) ≡ pos 0
zero-number zero core of = refl
zero-number (suc m) core of = by (shape_of core of)
  where
    by : (s : Shape) → number_in (zero_by (zero_within m core) core (type_at core of) s) ≡ pos 0
    by (single kind) = refl
    by composite = refl
    by of_chars = refl
    by of_elements = refl
    by (of_instance holds) = refl

-- however many types are looked at, zeros are what a variable of the type begins with
pub zero_lies : (n m : ℕ) (core : Core) (of : TypeId) (memory : ℕ → ℕ) (a : ℕ) → IsArranged (arrangement_within n core of) → AreZeros memory a (bytes_in (arrangement_within n core of)) → Lies (arrangement_within n core of) (zero_within m core of) memory a
zero_lies zero m core of memory a is none = zero-number m core of ∙ zero_there Signed32 memory a none
zero_lies (suc n) zero core of memory a is none = nothing_lies (arrangement_within (suc n) core of) memory a is none
zero_lies (suc n) (suc m) core of memory a is none = by (λ k b. zero_lies n m core (part_type core (type_at core of) k) memory b) (shape_of core of) is none
  where
    inner : ℕ → Arrangement
    inner k = arrangement_within n core (part_type core (type_at core of) k)

    whole : Shape → Arrangement
    whole s = arrangement_by (arrangement_within n core) core (size_in core of) (type_at core of) s

    by : ((k b : ℕ) → IsArranged (inner k) → AreZeros memory b (bytes_in (inner k)) → Lies (inner k) (zero_within m core (part_type core (type_at core of) k)) memory b) → (s : Shape) → IsArranged (whole s) → AreZeros memory a (bytes_in (whole s)) → Lies (whole s) (zero_by (zero_within m core) core (type_at core of) s) memory a
    by parts (single kind) is none = zero_there kind memory a none
    by parts composite is none = λ k low.
        parts k (a + part_offset core (type_at core of) k) (is.0 k low).0 (zeros_within memory a (size_in core of) (part_offset core (type_at core of) k) (bytes_in (inner k)) none (is.0 k low).1)
    by parts of_chars is none = zero_there Signed32 memory a none
    by parts of_elements is none = zero_there Signed32 memory a none
    by parts (of_instance holds) is none = zero_there Signed32 memory a none
