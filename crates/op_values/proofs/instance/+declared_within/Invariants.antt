use Rattle.std.proofs.Common.{length}
use Rattle.op_values.proofs.instance.+declared_within.Given as goal

abbrev pub decreases-declared_within : goal.decreases-declared_within
decreases-declared_within l = length l.steps.now
