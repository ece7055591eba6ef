use Rattle.std.proofs.Common.{length}
use Rattle.op_types.proofs.assign.+extends_within.Given as goal

abbrev pub decreases-extends_within : goal.decreases-extends_within
decreases-extends_within l = length l.steps.now
