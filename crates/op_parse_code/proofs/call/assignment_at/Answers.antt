use Rattle.std.proofs.Common.{ap}
use Rattle.op_parse_code.proofs.Calls.{assignment_here}
use Rattle.op_tree.specs.Terminal.{terminals}
use Rattle.op_parse_code.proofs.call.assignment_at.Goals as goal

pub returns-clause-stands : goal.returns-clause-stands
returns-clause-stands c = rw c.position_of.ensures (assignment_here _ _ _ _ _ _ c.in_ok-after.ensures.mark.1 (ap terminals c.in_ok-first.ensures.cases.0))
