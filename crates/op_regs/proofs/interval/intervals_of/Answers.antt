use Rattle.std.proofs.Common.{subst}
use Rattle.op_regs.specs.Intervals.{IsInterval}
use Rattle.op_regs.proofs.IntervalLemmas.{interval_more}
use Rattle.op_regs.proofs.interval.intervals_of.Goals as goal

pub loop-number-preserved : goal.loop-number-preserved
loop-number-preserved c =
    interval_more c.args.routine.now.blocks c.loop-number.spans.items c.push.new.self.items c.loop-number.number c.in_ok-interval_of.field-0 c.loop-number.invariant
    (subst (λ blocks. IsInterval blocks (record { 0 = c.loop-number.number }) c.in_ok-interval_of.field-0) c.as_slice-blocks.ensures c.in_ok-interval_of.ensures)
    c.in_ok-push.ensures.items
