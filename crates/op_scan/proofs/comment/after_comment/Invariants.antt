use Rattle.std.proofs.Common.{length}
use Rattle.op_scan.proofs.Outer.{Continues}
use Rattle.op_scan.proofs.comment.after_comment.Given as goal

-- what is left closes the comments that are open
abbrev pub invariant-loop-byte : goal.invariant-loop-byte
invariant-loop-byte l = Continues l.fn.first l.fn.bytes l.outer.items l.marks l.rest

abbrev pub decreases-loop-byte : goal.decreases-loop-byte
decreases-loop-byte l = length l.rest
