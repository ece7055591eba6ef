use Rattle.std.proofs.Common.{◌≡◌, ◌++◌, drop}
use Rattle.op_check_unit.specs.Routines.{parameter_names}
use Rattle.op_check_unit.proofs.routine.enter_parameters.Given as goal

abbrev pub invariant-loop-parameter : goal.invariant-loop-parameter
invariant-loop-parameter l = l.visible ++ parameter_names l.next (drop l.parameter-index l.parameters) ≡ l.fn.visible ++ parameter_names l.fn.first l.parameters
