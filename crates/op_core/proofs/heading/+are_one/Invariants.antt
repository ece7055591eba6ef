use Rattle.std.proofs.Common.{length}
use Rattle.op_core.proofs.heading.+are_one.Given as goal

abbrev pub decreases-are_one : goal.decreases-are_one
decreases-are_one l = length l.steps.now
