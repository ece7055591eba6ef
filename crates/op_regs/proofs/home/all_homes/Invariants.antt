use Rattle.std.proofs.Common.{◌≡◌, ◌<◌, ℕ, List, Some, length, slice_get}
use Rattle.op_low.specs.declared.code.Routine.{Routine}
use Rattle.op_regs.specs.Homes.{AreHomes}
use Rattle.op_regs.specs.declared.home.Home.{Home}
use Rattle.op_regs.proofs.home.all_homes.Given as goal

-- those of the routines in front
abbrev pub invariant-loop-routine : goal.invariant-loop-routine
invariant-loop-routine l = record {
  each : length l.homes.items ≡ l.routine-index;
  homes_at : (k : ℕ) (routine : Routine) (of : List Home) → k < l.routine-index → slice_get l.routines k ≡ Some routine → slice_get l.homes.items k ≡ Some of → AreHomes routine of;
}
