use Rattle.std.proofs.Common.{◌≡◌, drop}
use Rattle.op_check_unit.specs.System.{with_types}
use Rattle.op_check_unit.proofs.system.enter_types.Given as goal

abbrev pub invariant-loop-of : goal.invariant-loop-of
invariant-loop-of l = with_types (drop l.of-index l.types) l.core ≡ with_types l.types l.fn.core
