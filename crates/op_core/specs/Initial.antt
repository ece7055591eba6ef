-- First values as values: what an `Initial` says, wherever it lies in memory.
use Rattle.std.specs.Prelude.{}
use Rattle.op_core.specs.declared.constant.Const.{Const}
use Rattle.op_core.specs.declared.constant.Initial.{Initial, Row_of-Initial, end_of-Initial, more_of-Initial}
use Rattle.op_core.specs.declared.constant.Initial.TheVariants.{Value, Parts'}

mutual
  pub data FirstValue : Type 0 where
    constant : (value : Const) → FirstValue
    parts : (parts : FirstValues) → FirstValue

  pub data FirstValues : Type 0 where
    no_values : FirstValues
    values : (first : FirstValue) (others : FirstValues) → FirstValues

abbrev mutual
  pub first_value_of : Initial → FirstValue
  first_value_of (Value v) = constant v
  first_value_of (Parts' _ row) = parts (initial_row row)

  pub initial_row : {n : _} → Row_of-Initial n → FirstValues
  initial_row end_of-Initial = no_values
  initial_row (more_of-Initial i rest) = values (first_value_of i) (initial_row rest)
