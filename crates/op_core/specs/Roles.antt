-- What may be written by its role (Free Pascal Reference Guide, "Constant parameters" and "Typed constants").
use Rattle.std.specs.Prelude.{Bool, true, false}
use Rattle.op_core.specs.declared.routine.Role.{Role}
use Rattle.op_core.specs.declared.routine.Role.TheVariants.{Constant, Parameter, Object}
use Rattle.op_tree.specs.declared.heading.ParameterMode.TheVariants.{Const_}

abbrev pub is_written : Role → Bool
is_written Constant = false
is_written (Parameter Const_) = false
is_written Object = false
is_written _ = true
