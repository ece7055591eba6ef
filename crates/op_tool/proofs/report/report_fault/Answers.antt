use Rattle.std.proofs.Common.{inr, ap, ◌∙◌, ◌++◌, refl, subst}
use Rattle.op_base.specs.Outside.{appended, AppendsFront}
use Rattle.op_listing.specs.Digits.{eight_digits}
use Rattle.op_tool.specs.Effects.{line, ReportIs}
use Rattle.op_tool.specs.ImageRun.{fault_front}
use Rattle.op_tool.specs.declared.finish.Finish.TheVariants as finish
use Rattle.op_tool.proofs.Saying.{front_of_front, reports_behind}
use Rattle.op_tool.proofs.report.report_fault.Goals as goal

pub returns-in-Done-clause-says : goal.returns-in-Done-clause-says
returns-in-Done-clause-says g c =
    let first = fault_front c.args.kind in
    let more = line (eight_digits c.args.pc) in
    let says = subst (λ bytes. ReportIs (finish.Faulted c.args.kind c.args.pc) bytes c.report.result (g.E.Sink.written c.put.new.self) (g.E.Sink.written c.report.new.err) (g.E.Sink.faults c.put.new.self) (g.E.Sink.faults c.report.new.err)) c.fault_end.ensures c.report.ensures.says in
    reports_behind (finish.Faulted c.args.kind c.args.pc) c.report.result first more _ _ _ _ _ _ (c.in-Done.ensures.done refl ∙ ap (appended _) c.fault_front.ensures) c.in-Done.ensures.counts says

pub returns-in-Failed-clause-says : goal.returns-in-Failed-clause-says
returns-in-Failed-clause-says g c =
    let first = fault_front c.args.kind in
    let more = line (eight_digits c.args.pc) in
    let front = subst (λ bytes. AppendsFront (g.E.Sink.written c.args.err.now) bytes (g.E.Sink.written c.put.new.self)) c.fault_front.ensures (c.in-Failed.ensures.front refl) in
    inr (refl, front_of_front _ _ first more (first ++ more) refl front, c.in-Failed.ensures.failed refl)
