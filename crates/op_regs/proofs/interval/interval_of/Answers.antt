use Rattle.std.proofs.Common.{length, subst, ap, ◌∙◌}
use Rattle.op_regs.specs.Intervals.{HasMarksBelow}
use Rattle.op_regs.specs.Lines.{lines_of}
use Rattle.op_regs.specs.Marking.{MarkLive}
use Rattle.op_regs.proofs.IntervalLemmas.{interval_is}
use Rattle.op_regs.proofs.interval.interval_of.Goals as goal

pub returns : goal.returns
returns c =
    interval_is c.args.blocks.now c.args.register c.in_ok-lines.lines.items c.in_ok-marks.marks.items c.interval_in.result
    (c.in_ok-lines.ensures ∙ ap (λ starts. lines_of starts c.args.register c.args.blocks.now) c.requires)
    (subst (λ lines. MarkLive lines c.in_ok-marks.marks.items) c.as_slice.ensures.value c.in_ok-marks.ensures.live)
    (subst (λ marks. HasMarksBelow marks (length marks) c.interval_in.result) c.as_slice-2.ensures.value c.interval_in.ensures)
