use Rattle.std.proofs.Common.{length}
use Rattle.op_check_unit.proofs.heading.+are_same_parameters.Given as goal

abbrev pub decreases-are_same_parameters : goal.decreases-are_same_parameters
decreases-are_same_parameters l = length l.a.now
