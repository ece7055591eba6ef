use Rattle.std.proofs.Common.{length}
use Rattle.op_types.proofs.assign.+descends_within.Given as goal

abbrev pub decreases-descends_within : goal.decreases-descends_within
decreases-descends_within l = length l.steps.now
