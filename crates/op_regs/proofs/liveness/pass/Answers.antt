use Rattle.std.proofs.Common.{◌-◌, arith}
use Rattle.op_regs.proofs.MarkLemmas.{pass_begins, pass_goes_on}
use Rattle.op_regs.proofs.liveness.pass.Goals as goal

pub loop-left-init : goal.loop-left-init
loop-left-init c = record { within = omega arith; marked = pass_begins c.args.lines.now c.args.marks.now.items c.requires }

pub loop-left-preserved : goal.loop-left-preserved
loop-left-preserved c = record {
  within = omega arith;
  marked =
      pass_goes_on c.args.lines.now c.args.marks.now.items c.loop-left.marks.items c.mark-changes.new.marks.items c.loop-left.changes c.mark-changes.result c.loop-left.left (c.loop-left.left - 1)
      c.loop-left.invariant.marked (omega arith) (omega (arith, c.loop-left.invariant.within, c.loop-left-test.true)) c.mark-changes.ensures.marks c.mark-changes.ensures.changes;
}
