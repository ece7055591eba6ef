-- First values that a variable of a type can have: each number is one of its kind.
use Rattle.std.specs.Prelude.{◌≡◌, ℕ, suc, ℤ, pos}
use Rattle.op_core.specs.Initial.{FirstValue, constant, parts, FirstValues, no_values, values}
use Rattle.op_core.specs.Sizes.{integer_range, type_at}
use Rattle.op_core.specs.Typing.{Within}
use Rattle.op_core.specs.declared.ids.TypeId.{TypeId}
use Rattle.op_core.specs.declared.program.Core.{Core}
use Rattle.op_meaning.specs.Shapes.{Shape, single, composite, shape_of, part_type}
use Rattle.op_constants.specs.FirstBytes.{number_of_constant}

-- what has no number of its own is not given one
abbrev pub NumberFits : Shape → ℤ → Type 0
NumberFits (single kind) n = Within (integer_range kind) n
NumberFits composite n = Unit {0}
NumberFits _ n = n ≡ pos 0

abbrev mutual
  pub FirstFits : Core → TypeId → FirstValue → Type 0
  FirstFits core of (constant c) = NumberFits (shape_of core of) (number_of_constant c)
  FirstFits core of (parts vs) = EachFits core (part_type core (type_at core of)) vs

  -- the types are those of the parts from this one on
  pub EachFits : Core → (ℕ → TypeId) → FirstValues → Type 0
  EachFits core types no_values = Unit {0}
  EachFits core types (values v vs) = FirstFits core (types 0) v × EachFits core (λ j. types (suc j)) vs
