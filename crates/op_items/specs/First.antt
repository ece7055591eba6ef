-- What the variable of a routine begins with ("Initialized variables" of the Free Pascal Reference Guide).
use Rattle.std.specs.Prelude.{ℕ, Option, Some, None}
use Rattle.op_core.specs.Initial.{FirstValue}
use Rattle.op_core.specs.declared.program.Core.{Core}
use Rattle.op_meaning.specs.Actions.{begin_with}
use Rattle.op_meaning.specs.Items.{Items, none, only, act}
use Rattle.op_meaning.specs.Shapes.{type_of_local}

abbrev pub first_item : Core → ℕ → ℕ → Option FirstValue → Items
first_item core r v None = none
first_item core r v (Some value) = only (act (begin_with v (type_of_local core r v) value))
