use Rattle.std.proofs.Common.{length}
use Rattle.op_scan.proofs.Strings.{PartsSoFar}
use Rattle.op_scan.proofs.string.parts.Given as goal

-- what the parts so far stand for has been put at the end
abbrev pub invariant-loop-after : goal.invariant-loop-after
invariant-loop-after l = PartsSoFar l.bytes l.rest l.fn.value.items l.value.items

abbrev pub decreases-loop-after : goal.decreases-loop-after
decreases-loop-after l = length l.rest
