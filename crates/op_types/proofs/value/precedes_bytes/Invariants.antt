use Rattle.std.proofs.Common.{◌≡◌, drop}
use Rattle.op_types.specs.Values.{precedes_bytes}
use Rattle.op_types.proofs.value.precedes_bytes.Given as goal

-- what is left tells
abbrev pub invariant-loop-i : goal.invariant-loop-i
invariant-loop-i l = precedes_bytes (drop l.i l.a) (drop l.i l.b) ≡ precedes_bytes l.a l.b
