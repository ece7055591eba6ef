-- Which bytes a first value is in memory. (Free Pascal Reference Guide, "Initialized variables" and "Typed constants"; RISC-V
-- Unprivileged ISA manual, "Load and Store Instructions": the lowest byte stands first.)
use Rattle.std.specs.Prelude.{ℕ, ◌-◌, ℤ, pos, Bool, nat_eq, List, [], ◌∷◌, ◌++◌, length, take, replicate, Option, Some}
use Rattle.std.specs.Int.{w32, bytes_low_first, cast_unsigned}
use Rattle.std.specs.List.{list_all}
use Rattle.op_core.specs.Initial.{FirstValue, constant, parts, FirstValues, no_values, values}
use Rattle.op_core.specs.Sizes.{type_at, extent_of, integer_size}
use Rattle.op_core.specs.declared.constant.Const.{Const}
use Rattle.op_core.specs.declared.constant.Const.TheVariants.{Ordinal, Text, Set, Nil}
use Rattle.op_core.specs.declared.ids.TypeId.{TypeId}
use Rattle.op_core.specs.declared.program.Core.{Core}
use Rattle.op_core.specs.declared.types.CoreType.{CoreType}
use Rattle.op_core.specs.declared.types.CoreType.TheVariants.{Record, Array}
use Rattle.op_core.specs.declared.types.Field.{Field}
use Rattle.op_core.specs.declared.types.IntegerKind.{IntegerKind}
use Rattle.op_core.specs.Rows.{rows}
use Rattle.op_meaning.specs.Sets.{set_of_elements}
use Rattle.op_meaning.specs.Shapes.{Shape, single, shape_of}
use Rattle.op_constants.specs.Offsets.{size_in, begin_behind, end_behind}

-- so many bytes: what is more is cut, and zeros are behind what is less
abbrev pub fitted : ℕ → List ℕ → List ℕ
fitted n bytes = take n bytes ++ replicate {A = ℕ} (n - length bytes) 0

-- ---- numbers

-- the low bytes of a number, the lowest first
abbrev pub number_bytes : IntegerKind → ℤ → List ℕ
number_bytes kind n = bytes_low_first 0 (integer_size kind) (cast_unsigned w32 n)

-- a constant as a number; what is none is 0
abbrev pub number_of_constant : Const → ℤ
number_of_constant (Ordinal n) = n
number_of_constant (Text bytes) = pos 0
number_of_constant (Set es) = set_of_elements es
number_of_constant Nil = pos 0

abbrev pub first_number : FirstValue → ℤ
first_number (constant c) = number_of_constant c
first_number (parts vs) = pos 0

abbrev pub number_by : Shape → ℤ → List ℕ
number_by (single kind) n = number_bytes kind n
number_by _ n = []

-- ---- parts

-- of the fields of a record, of the elements of an array; nothing for what has no parts
abbrev parts_by : Core → Option CoreType → (List Field → List ℕ) → (TypeId → List ℕ) → List ℕ
parts_by core (Some (Record fields)) of_fields of_elements = of_fields (rows core.fields fields)
parts_by core (Some (Array index element)) of_fields of_elements = of_elements element
parts_by core _ of_fields of_elements = []

-- The bytes of a value of the type: a number, or the parts, each where it begins, with zeros between them. A value of another form has
-- zeros.
abbrev mutual
  pub first_bytes : Core → TypeId → FirstValue → List ℕ
  first_bytes core of (constant c) = fitted (size_in core of) (number_by (shape_of core of) (number_of_constant c))
  first_bytes core of (parts vs) = fitted (size_in core of) (parts_by core (type_at core of) (λ fs. fields_bytes core 0 fs vs) (λ element. elements_bytes core element vs))

  -- those of the fields from this one on, which stands behind so many bytes
  pub fields_bytes : Core → ℕ → List Field → FirstValues → List ℕ
  fields_bytes core end fs no_values = []
  fields_bytes core end [] (values v vs) = []
  fields_bytes core end (f ∷ fs) (values v vs) =
      replicate {A = ℕ} (begin_behind end (extent_of core f.of) - end) 0 ++ first_bytes core f.of v ++ fields_bytes core (end_behind end (extent_of core f.of)) fs vs

  pub elements_bytes : Core → TypeId → FirstValues → List ℕ
  elements_bytes core element no_values = []
  elements_bytes core element (values v vs) = first_bytes core element v ++ elements_bytes core element vs

-- a variable that begins with these bytes begins as zero
abbrev pub are_zeros : List ℕ → Bool
are_zeros bytes = list_all (λ b. nat_eq b 0) bytes

-- those of a value that has parts, of a type of this form
abbrev pub parts_bytes : Core → Option CoreType → FirstValues → List ℕ
parts_bytes core t vs = parts_by core t (λ fs. fields_bytes core 0 fs vs) (λ element. elements_bytes core element vs)

-- what a value has, before it is cut or zeros come behind it
abbrev pub content : Core → TypeId → FirstValue → List ℕ
content core of (constant c) = number_by (shape_of core of) (number_of_constant c)
content core of (parts vs) = parts_bytes core (type_at core of) vs
