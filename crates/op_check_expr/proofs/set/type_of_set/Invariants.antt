use Rattle.std.proofs.Common.{Some, drop, map}
use Rattle.op_check_expr.proofs.Following.{Completes}
use Rattle.op_check_expr.specs.Constructors.{member_of, type_of_set}
use Rattle.op_types.specs.Operators.{empty_set}
use Rattle.op_check_expr.proofs.set.type_of_set.Given as goal

-- the members that are left give the whole
abbrev pub invariant-loop-member : goal.invariant-loop-member
invariant-loop-member l = Completes (type_of_set l.core (Some empty_set) (map member_of l.members)) (type_of_set l.core l.of (map member_of (drop l.member-index l.members))) l.fn.sink l.sink
