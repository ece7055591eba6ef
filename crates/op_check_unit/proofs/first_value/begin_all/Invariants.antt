use Rattle.std.proofs.Common.{◌≡◌, map, vec_len}
use Rattle.op_check_unit.specs.FirstValues.{begins_so, begins_with, begun, without_first_values}
use Rattle.op_check_unit.proofs.first_value.begin_all.Given as goal

abbrev pub invariant-loop-begun : goal.invariant-loop-begun
invariant-loop-begun l = (without_first_values l.core ≡ without_first_values l.fn.core) × (begun (map begins_so l.values.items) (map begins_with l.core.variables) ≡ begun (map begins_so l.fn.values.items) (map begins_with l.fn.core.variables))

abbrev pub decreases-loop-begun : goal.decreases-loop-begun
decreases-loop-begun l = vec_len l.values
