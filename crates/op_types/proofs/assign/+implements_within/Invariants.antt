use Rattle.std.proofs.Common.{length}
use Rattle.op_types.proofs.assign.+implements_within.Given as goal

abbrev pub decreases-implements_within : goal.decreases-implements_within
decreases-implements_within l = length l.steps.now
