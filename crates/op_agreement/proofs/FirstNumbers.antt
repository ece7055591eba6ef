-- First values that are numbers: such a number is one of its kind, which keeps all of it.
use Rattle.std.proofs.Common.{◌≡◌, ◌<◌, ℕ, ℤ, ◌+◌, ◌-◌, List, length, Option, Some, None, refl, sym, ap, ◌∙◌, subst, arith, get_or}
use Rattle.std.specs.Prelude.{pos, negsuc, false, slice_get}
use Rattle.std.specs.Int.{w32, bytes_low_first, cast_unsigned}
use Rattle.std.specs.Int.RustNames.{FitsSigned}
use Rattle.std.specs.Option.{option_map}
use Rattle.std.proofs.lemmas.Int.{ints}
use Rattle.op_compute.proofs.Words.{number_is}
use Rattle.op_constants.proofs.Numbers.{number_lies}
use Rattle.op_constants.proofs.Stores.{stored}
use Rattle.op_constants.specs.FirstBytes.{first_number, number_of_constant}
use Rattle.op_constants.specs.FirstFits.{FirstFits, NumberFits}
use Rattle.op_constants.specs.Lies.{store_op}
use Rattle.op_constants.specs.Literals.{first_of_row}
use Rattle.op_constants.specs.Shapes.{is_composite}
use Rattle.op_core.specs.Initial.{FirstValue, constant, parts, first_value_of}
use Rattle.op_core.specs.Sizes.{integer_range}
use Rattle.op_core.specs.Typing.{Within}
use Rattle.op_core.specs.declared.ids.TypeId.{TypeId}
use Rattle.op_core.specs.declared.program.Core.{Core}
use Rattle.op_core.specs.declared.routine.Variable.{Variable}
use Rattle.op_core.specs.declared.types.IntegerKind.TheVariants.{Signed8, Unsigned8, Signed16, Unsigned16, Signed32}
use Rattle.op_core.specs.declared.types.IntegerKind.{IntegerKind}
use Rattle.op_meaning.specs.Numbers.{low_bits_of}
use Rattle.op_meaning.specs.Shapes.{Shape, single, composite, of_chars, of_elements, of_instance, shape_of, variables_of}
use Rattle.op_meaning.specs.Statements.{kind_by}
use Rattle.op_mir.specs.View.{first_at}
use Rattle.op_rv.proofs.Memory.{with_bytes-within}
use Rattle.op_rv.specs.Operation.{word_from}
use Rattle.op_rv.specs.State.{with_bytes}
use Rattle.op_rv.specs.Step.{store_size_of}

-- ---- numbers of a kind

-- it is one of 32 bits
pub number_fits : (kind : IntegerKind) (n : ℤ) → Within (integer_range kind) n → FitsSigned w32 n
number_fits Signed8 (pos m) fits = record { sfits = omega (arith, ints, fits) }
number_fits Signed8 (negsuc m) fits = record { sfits = omega (arith, ints, fits) }
number_fits Unsigned8 (pos m) fits = record { sfits = omega (arith, ints, fits) }
number_fits Unsigned8 (negsuc m) fits = record { sfits = omega (arith, ints, fits) }
number_fits Signed16 (pos m) fits = record { sfits = omega (arith, ints, fits) }
number_fits Signed16 (negsuc m) fits = record { sfits = omega (arith, ints, fits) }
number_fits Unsigned16 (pos m) fits = record { sfits = omega (arith, ints, fits) }
number_fits Unsigned16 (negsuc m) fits = record { sfits = omega (arith, ints, fits) }
number_fits Signed32 (pos m) fits = record { sfits = omega (arith, ints, fits) }
number_fits Signed32 (negsuc m) fits = record { sfits = omega (arith, ints, fits) }

-- memory of zeros
nothing : ℕ → ℕ
nothing x = 0

-- bytes that are stored there
byte_of : (bytes : List ℕ) (x : ℕ) → x < length bytes → with_bytes nothing 0 bytes (0 + x) ≡ get_or bytes x 0
byte_of bytes x low =
    let e : 0 + x - 0 ≡ x = omega arith in
    with_bytes-within nothing 0 bytes (0 + x) (omega arith) (omega arith) ∙ ap (λ i. get_or bytes i 0) e

-- its kind keeps all of it
pub number_kept : (kind : IntegerKind) (n : ℤ) → Within (integer_range kind) n → low_bits_of kind n ≡ n
number_kept kind n fits =
    let is = number_is n (number_fits kind n fits) in
    let left = stored kind nothing 0 (word_from n) is.bound in
    sym (by kind fits ∙ left ∙ ap (low_bits_of kind) is.number)
  where
    bytes : IntegerKind → List ℕ
    bytes kind = bytes_low_first 0 (store_size_of (store_op kind)) (cast_unsigned w32 n)

    by : (kind : IntegerKind) → Within (integer_range kind) n → n ≡ Rattle.op_constants.specs.Lies.number_there kind (with_bytes nothing 0 (bytes_low_first 0 (store_size_of (store_op kind)) (cast_unsigned w32 n))) 0
    by Signed8 fits = number_lies Signed8 n (with_bytes nothing 0 (bytes Signed8)) 0 fits (λ x low. byte_of (bytes Signed8) x low)
    by Unsigned8 fits = number_lies Unsigned8 n (with_bytes nothing 0 (bytes Unsigned8)) 0 fits (λ x low. byte_of (bytes Unsigned8) x low)
    by Signed16 fits = number_lies Signed16 n (with_bytes nothing 0 (bytes Signed16)) 0 fits (λ x low. byte_of (bytes Signed16) x low)
    by Unsigned16 fits = number_lies Unsigned16 n (with_bytes nothing 0 (bytes Unsigned16)) 0 fits (λ x low. byte_of (bytes Unsigned16) x low)
    by Signed32 fits = number_lies Signed32 n (with_bytes nothing 0 (bytes Signed32)) 0 fits (λ x low. byte_of (bytes Signed32) x low)

-- each kind has zero
zero_fits : (kind : IntegerKind) → Within (integer_range kind) (pos 0)
zero_fits Signed8 = (record { le = tt }, record { le = tt })
zero_fits Unsigned8 = (record { le = tt }, record { le = tt })
zero_fits Signed16 = (record { le = tt }, record { le = tt })
zero_fits Unsigned16 = (record { le = tt }, record { le = tt })
zero_fits Signed32 = (record { le = tt }, record { le = tt })

-- ---- first values

-- a first value of what has no parts is a number of its kind
pub first_fits : (core : Core) (of : TypeId) (v : FirstValue) (s : Shape) → shape_of core of ≡ s → is_composite s ≡ false → FirstFits core of v → Within (integer_range (kind_by s)) (first_number v)
first_fits core of (parts vs) s shape whole fits = zero_fits (kind_by s)
first_fits core of (constant c) s shape whole fits = by s whole (subst (λ s. NumberFits s (number_of_constant c)) shape fits)
  where
    none : number_of_constant c ≡ pos 0 → Within (integer_range Signed32) (number_of_constant c)
    none e = subst (Within (integer_range Signed32)) (sym e) (zero_fits Signed32)

    by : (s : Shape) → is_composite s ≡ false → NumberFits s (number_of_constant c) → Within (integer_range (kind_by s)) (number_of_constant c)
    by (single kind) whole fits = fits
    by composite whole fits = absurd cc
    by of_chars whole fits = none fits
    by of_elements whole fits = none fits
    by (of_instance holds) whole fits = none fits

-- what a variable of a routine begins with is the same in both codes
pub first_is : (core : Core) (r v : ℕ) → first_at core r v ≡ first_of_row (slice_get core.variables ((variables_of core r).first + v))
first_is core r v = by (slice_get core.variables ((variables_of core r).first + v)) refl
  where
    row_by : (x : Variable) (o : Option FirstValue) → option_map (λ i. first_value_of i.value) x.first_value ≡ o → slice_get core.variables ((variables_of core r).first + v) ≡ Some x → first_at core r v ≡ first_of_row (slice_get core.variables ((variables_of core r).first + v))
    row_by x None e is = rw is (rw e refl)
    row_by x (Some i) e is = rw is (rw e refl)

    by : (o : Option Variable) → slice_get core.variables ((variables_of core r).first + v) ≡ o → first_at core r v ≡ first_of_row (slice_get core.variables ((variables_of core r).first + v))
    by None e = rw e refl
    by (Some x) e = row_by x (option_map (λ i. first_value_of i.value) x.first_value) refl e
