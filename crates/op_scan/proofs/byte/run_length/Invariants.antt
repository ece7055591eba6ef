use Rattle.std.proofs.Common.{◌≡◌, ◌+◌, drop}
use Rattle.std.specs.List.{prefix_len}
use Rattle.op_scan.specs.Byte.{is_of}
use Rattle.op_scan.proofs.byte.run_length.Given as goal

-- the bytes so far are of the kind
abbrev pub invariant-loop-byte : goal.invariant-loop-byte
invariant-loop-byte l =
    (l.length ≡ l.byte-index) × (prefix_len (is_of l.kind) l.bytes ≡ l.byte-index + prefix_len (is_of l.kind) (drop l.byte-index l.bytes))
