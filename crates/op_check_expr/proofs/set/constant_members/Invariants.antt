use Rattle.std.proofs.Common.{Some, map}
use Rattle.op_check_expr.proofs.Following.{Completes}
use Rattle.op_check_expr.specs.Constructors.{constant_members, member_of}
use Rattle.op_check_expr.proofs.set.constant_members.Given as goal
use Rattle.op_types.specs.ConstantParts.{no_members}

-- the members that are left give the whole
abbrev pub invariant-loop-member : goal.invariant-loop-member
invariant-loop-member l = Completes (constant_members l.setting.core.now (Some no_members) (map member_of l.fn.members.items)) (constant_members l.setting.core.now l.set (map member_of l.member-iterator.rest.items)) l.fn.sink l.sink
