use Rattle.op_regs.specs.Intervals.{AreIntervals}
use Rattle.op_regs.proofs.interval.intervals_of.Given as goal

-- those of the registers in front
abbrev pub invariant-loop-number : goal.invariant-loop-number
invariant-loop-number l = AreIntervals l.fn.routine.blocks l.number l.spans.items
