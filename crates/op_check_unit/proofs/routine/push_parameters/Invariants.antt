use Rattle.std.proofs.Common.{◌≡◌, ◌++◌, drop, map}
use Rattle.op_check_unit.specs.Routines.{parameter_variable}
use Rattle.op_check_unit.proofs.routine.push_parameters.Given as goal

abbrev pub invariant-loop-parameter : goal.invariant-loop-parameter
invariant-loop-parameter l = l.variables ++ map parameter_variable (drop l.parameter-index l.parameters) ≡ l.fn.variables ++ map parameter_variable l.parameters
