use Rattle.op_regs.specs.Intervals.{HasMarksBelow}
use Rattle.op_regs.proofs.interval.interval_in.Given as goal

abbrev pub invariant-loop-position : goal.invariant-loop-position
invariant-loop-position l = HasMarksBelow l.marks l.position l.run
