use Rattle.std.proofs.Common.{length}
use Rattle.op_scan.proofs.Quoting.{QuotedSoFar}
use Rattle.op_scan.proofs.string.quoted.Given as goal

-- what the bytes so far stand for has been put at the end
abbrev pub invariant-loop-byte : goal.invariant-loop-byte
invariant-loop-byte l = QuotedSoFar l.bytes l.rest l.fn.value.items l.value.items

abbrev pub decreases-loop-byte : goal.decreases-loop-byte
decreases-loop-byte l = length l.rest
