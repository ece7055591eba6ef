use Rattle.std.proofs.Common.{◌≡◌, length}
use Rattle.op_regs.specs.Marking.{AreLive, unmarked}
use Rattle.op_regs.proofs.liveness.live_at.Given as goal

abbrev pub invariant-loop : goal.invariant-loop
invariant-loop l = record {
  each : length l.marks.items ≡ length l.lines;
  live : AreLive l.lines l.marks.items;
}

abbrev pub decreases-loop : goal.decreases-loop
decreases-loop l = unmarked l.marks.items
