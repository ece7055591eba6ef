use Rattle.std.proofs.Common.{[], inl, refl}
use Rattle.op_tool.specs.Owes.{call}
use Rattle.op_tool.specs.declared.finish.Finish.TheVariants.{Ended}
use Rattle.op_tool.proofs.Failing.{says_check_error}
use Rattle.op_tool.proofs.Saying.{says_written, says_written_in_part}
use Rattle.op_tool.proofs.Told.{check_told}
use Rattle.op_tool.proofs.driver.check.Goals as goal

pub returns-in-Done-clause-says : goal.returns-in-Done-clause-says
returns-in-Done-clause-says g c words left count =
    says_written _ (Ended 0) _ left (g.W.Sink.written c.args.out.now) (g.W.Sink.written c.put.new.self) (g.E.Sink.written c.args.err.now) _ (λ same. cc) (λ input. (refl, (refl, (c.in-Ok.field-0, c.in-Ok.ensures.made), (refl, refl, refl)))) (c.in-Done.ensures.done refl)

pub returns-in-Ok-clause-says : goal.returns-in-Ok-clause-says
returns-in-Ok-clause-says g c words left count =
    says_written_in_part _ (Ended 0) _ left (g.W.Sink.written c.args.out.now) (g.W.Sink.written c.put.new.self) (g.E.Sink.written c.args.err.now) _ (λ input. (refl, (refl, (c.in-Ok.field-0, c.in-Ok.ensures.made), (refl, refl, refl)))) (c.in-Failed.ensures.front refl) (inl (c.in-Failed.ensures.failed refl))

pub returns-clause-says : goal.returns-clause-says
returns-clause-says g c words left count =
    says_check_error (call words (g.F.Files.stored c.args.files.now) (g.F.Files.faults c.args.files.now) (g.F.Files.faults c.checked.new.files) count count []) c.args.file.now c.in-Err.error c.report_error.result _ _ _ _ _ _ _ _ _ c.in-Err.ensures.failed refl refl c.report_error.ensures.says

pub report_error-requires : goal.report_error-requires
report_error-requires g c = check_told (g.F.Files.stored c.args.files.now) c.args.file.now (g.F.Files.faults c.args.files.now) (g.F.Files.faults c.checked.new.files) c.in-Err.error c.in-Err.ensures.failed
