use Rattle.std.proofs.Common.{◌≤◌, drop, length}
use Rattle.op_core.proofs.FieldIndex.{FindsFrom}
use Rattle.op_core.proofs.fields.positions_of.Given as goal

-- the fields that were gone through are found
abbrev pub invariant-loop-at : goal.invariant-loop-at
invariant-loop-at l = record { within : l.at ≤ length l.fields; found : FindsFrom l.at (drop l.at l.fields) l.positions }

abbrev pub decreases-loop-at : goal.decreases-loop-at
decreases-loop-at l = l.at
