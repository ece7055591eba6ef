use Rattle.std.proofs.Common.{ap, inl, inr, refl, subst, ◌∙◌}
use Rattle.op_base.specs.Outside.{AppendsFront, appended}
use Rattle.op_tool.specs.Owes.{call}
use Rattle.op_command.specs.Reading.{asked_of}
use Rattle.op_tool.specs.declared.finish.Finish.TheVariants.{Ended}
use Rattle.op_tool.proofs.Failing.{says_build_error}
use Rattle.op_tool.proofs.Saying.{says_written, says_written_in_part}
use Rattle.op_tool.proofs.driver.build.Goals as goal

pub returns-in-Done-clause-says : goal.returns-in-Done-clause-says
returns-in-Done-clause-says g c words left count =
    let made = c.in-Ok.ensures.made in
    says_written _ (Ended 0) _ left (g.W.Sink.written c.args.out.now) (g.W.Sink.written c.put.new.self) (g.E.Sink.written c.args.err.now) _ (λ same. cc) (λ input. inr (refl, made, (refl, refl, refl))) (c.in-Done.ensures.done refl ∙ ap (appended (g.W.Sink.written c.args.out.now)) c.as_slice.ensures.value)

pub returns-in-Failed-clause-says : goal.returns-in-Failed-clause-says
returns-in-Failed-clause-says g c words left count =
    let made = c.in-Ok.ensures.made in
    let front = subst (λ bytes. AppendsFront (g.W.Sink.written c.args.out.now) bytes (g.W.Sink.written c.put.new.self)) c.as_slice.ensures.value (c.in-Failed.ensures.front refl) in
    says_written_in_part _ (Ended 0) _ left (g.W.Sink.written c.args.out.now) (g.W.Sink.written c.put.new.self) (g.E.Sink.written c.args.err.now) _ (λ input. inr (refl, made, (refl, refl, refl))) front (inl (c.in-Failed.ensures.failed refl))

pub returns-in-Err-clause-says : goal.returns-in-Err-clause-says
returns-in-Err-clause-says g c words left count =
    says_build_error (call words (g.F.Files.stored c.args.files.now) (g.F.Files.faults c.args.files.now) (g.F.Files.faults c.compile.new.files) count count c.args.image.now.items) (asked_of c.args.command.now) c.in-Err.error c.report_error.result _ _ _ _ _ _ _ _ _ c.in-Err.ensures.failed refl c.requires.empty c.report_error.ensures.says
