use Rattle.std.proofs.Common.{◌≡◌, ◌≤◌, ◌++◌, map}
use Rattle.std.specs.List.{All}
use Rattle.op_low.specs.Valid.{most_registers}
use Rattle.op_select.specs.Selection.{object_routine_of}
use Rattle.op_select.proofs.routine.object_routines.Given as goal

abbrev pub invariant-loop-routine : goal.invariant-loop-routine
invariant-loop-routine l =
    (l.routines.items ++ map object_routine_of l.routine-iterator.rest.items ≡ map object_routine_of l.initial.routine-iterator.rest.items)
    × All (λ r. r.registers ≤ most_registers) l.routine-iterator.rest.items
