use Rattle.std.proofs.Common.{◌≤◌, length}
use Rattle.op_regs.specs.Marking.{AreMarked}
use Rattle.op_regs.proofs.liveness.pass.Given as goal

abbrev pub invariant-loop-left : goal.invariant-loop-left
invariant-loop-left l = record {
  within : l.left ≤ length l.lines;
  marked : AreMarked l.lines l.fn.marks.items l.marks.items l.changes l.left;
}

abbrev pub decreases-loop-left : goal.decreases-loop-left
decreases-loop-left l = l.left
