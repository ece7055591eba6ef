use Rattle.std.proofs.Common.{◌≡◌, drop}
use Rattle.op_mir.specs.Valid.{are_valid_from}
use Rattle.op_mir.proofs.validity.all_routines.Given as goal

abbrev pub invariant-loop-r : goal.invariant-loop-r
invariant-loop-r l = are_valid_from l.core l.mir l.r (drop l.r l.routines) ≡ are_valid_from l.core l.mir 0 l.routines
