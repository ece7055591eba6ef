-- First values beside the rows of their variables, and in these rows.
use Rattle.std.specs.Prelude.{◌≡◌, List, [], ◌∷◌, Option, Some, None, map, slice_set}
use Rattle.std.specs.Option.{option_map}
use Rattle.op_check_unit.specs.declared.first_value.Begun.{Begun}
use Rattle.op_core.specs.Initial.{FirstValue, first_value_of}
use Rattle.op_core.specs.declared.ids.VariableId.{VariableId}
use Rattle.op_core.specs.declared.program.Core.{Core}
use Rattle.op_core.specs.declared.routine.Variable.{Variable}

abbrev pub begins_so : Begun → VariableId × FirstValue
begins_so b = (b.variable, first_value_of b.value)

abbrev pub bare_variable : Variable → Variable
bare_variable v = record v { first_value = None }

abbrev pub without_first_values : Core → Core
without_first_values core = record core { variables = map bare_variable core.variables }

abbrev pub begins_with : Variable → Option FirstValue
begins_with v = option_map (λ i. first_value_of i.value) v.first_value

abbrev pub begun : List (VariableId × FirstValue) → List (Option FirstValue) → List (Option FirstValue)
begun [] xs = xs
begun (b ∷ bs) xs = slice_set (begun bs xs) b.0.0 (Some b.1)

-- the same program, with these first values in the rows of their variables
pub record Begins (bs : List (VariableId × FirstValue)) (old new : Core) : Type 0 where
  pub others : without_first_values new ≡ without_first_values old
  pub values : map begins_with new.variables ≡ begun bs (map begins_with old.variables)
