use Rattle.op_scan.proofs.Places.{PlaceSoFar}
use Rattle.op_scan.proofs.place.place_behind.Given as goal

-- the place of this byte
abbrev pub invariant-loop-byte : goal.invariant-loop-byte
invariant-loop-byte l = PlaceSoFar l.fn.place l.bytes l.byte-index l.here
