use Rattle.std.proofs.Common.{◌≡◌, length}
use Rattle.op_lower.specs.Lowers.{AreRoutines}
use Rattle.op_lower.proofs.program.routines.Given as goal

abbrev pub invariant-loop-number : goal.invariant-loop-number
invariant-loop-number l = record { count : length l.routines.items ≡ l.number; each : AreRoutines l.core l.routines.items }
