use Rattle.std.proofs.Common.{length, drop}
use Rattle.op_scan.proofs.Scanning.{ScanSoFar}
use Rattle.op_scan.specs.Scan.{mark_length}
use Rattle.op_scan.proofs.scanner.scan.Given as goal

-- what is left of the text decides
abbrev pub invariant-loop-rest : goal.invariant-loop-rest
invariant-loop-rest l = ScanSoFar l.file (mark_length l.bytes) (drop (mark_length l.bytes) l.bytes) l.rest l.first l.place l.switches l.tokens.items

abbrev pub decreases-loop-rest : goal.decreases-loop-rest
decreases-loop-rest l = length l.rest
