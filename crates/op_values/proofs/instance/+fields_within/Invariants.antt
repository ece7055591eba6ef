use Rattle.std.proofs.Common.{length}
use Rattle.op_values.proofs.instance.+fields_within.Given as goal

abbrev pub decreases-fields_within : goal.decreases-fields_within
decreases-fields_within l = length l.steps.now
