use Rattle.std.proofs.Common.{◌≡◌, drop}
use Rattle.op_link.specs.Placing.{items_in_routines, left_of}
use Rattle.op_link.proofs.count.left_by_routines.Given as goal

abbrev pub invariant-loop-routine : goal.invariant-loop-routine
invariant-loop-routine l =
    left_of l.room (items_in_routines (drop l.routine-index l.routines)) ≡ left_of l.fn.room (items_in_routines l.routines)
