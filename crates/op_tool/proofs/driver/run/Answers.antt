use Rattle.std.proofs.Common.{codes, refl, inl, subst, sym}
use Rattle.op_base.specs.FileAnswer.{Answers}
use Rattle.op_tool.specs.Effects.{line}
use Rattle.op_tool.specs.ImageRun.{OwesImage}
use Rattle.op_tool.specs.Owes.{IsFile}
use Rattle.op_tool.specs.declared.finish.Finish.TheVariants as finish
use Rattle.op_tool.proofs.RunningFiles.{run_owes}
use Rattle.op_tool.proofs.Saying.{says_also, says_bad_image, says_no_memory, says_refused, says_report}
use Rattle.op_tool.proofs.Told.{missing_told}
use Rattle.op_tool.proofs.driver.run.Goals as goal

pub returns-in-Ok-Found-clause-says : goal.returns-in-Ok-Found-clause-says
returns-in-Ok-Found-clause-says g c words =
    let answers = subst (Answers (g.F.Files.stored c.args.files.now) c.args.command.now.operand.now 100663296 (g.F.Files.faults c.args.files.now) (g.F.Files.faults c.read.new.self)) c.in-Ok-Found.field-0-is c.in-Ok-Found.ensures.answers in
    let is = subst (IsFile (g.F.Files.stored c.args.files.now) c.args.command.now.operand.now) (sym c.into_vec.ensures) answers.1 in
    says_also (OwesImage c.as_slice.result.now c.args.command.now.steps (g.R.Source.faults c.args.input.now) (g.R.Source.faults c.run_image.new.input)) _ c.run_image.result _ _ (run_owes words (g.F.Files.stored c.args.files.now) (g.F.Files.faults c.args.files.now) (g.F.Files.faults c.read.new.self) (g.R.Source.faults c.args.input.now) (g.R.Source.faults c.run_image.new.input) c.args.command.now.steps c.as_slice.result.now c.into_vec.result.items c.args.command.now.operand.now c.as_slice.ensures.value is) c.run_image.ensures.says

pub returns-in-Ok-Long-clause-says : goal.returns-in-Ok-Long-clause-says
returns-in-Ok-Long-clause-says g c words =
    let answers = subst (Answers (g.F.Files.stored c.args.files.now) c.args.command.now.operand.now 100663296 (g.F.Files.faults c.args.files.now) (g.F.Files.faults c.read.new.self)) c.in-Ok-Long.field-0-is c.in-Ok-Long.ensures.answers in
    says_bad_image _ 1 c.report_bad_image.result _ _ _ _ _ _ _ _ _ (λ done only. inl (c.requires, answers, refl, only)) (λ done only. (inl c.requires, only)) c.report_bad_image.ensures.says

pub returns-in-Ok-Missing-clause-says : goal.returns-in-Ok-Missing-clause-says
returns-in-Ok-Missing-clause-says g c words =
    let answers = subst (Answers (g.F.Files.stored c.args.files.now) c.args.command.now.operand.now 100663296 (g.F.Files.faults c.args.files.now) (g.F.Files.faults c.read.new.self)) c.in-Ok-Missing.field-0-is c.in-Ok-Missing.ensures.answers in
    says_refused _ c.args.command.now.operand.now c.as_bytes.result.now _ c.report_refusal.result _ _ _ _ _ _ _ _ _ c.as_bytes.ensures.value (λ done only. (c.requires, refl, refl, answers, only)) (λ done only. (inl c.requires, only)) c.report_refusal.ensures.says

pub returns-in-Ok-Failed-clause-says : goal.returns-in-Ok-Failed-clause-says
returns-in-Ok-Failed-clause-says g c words =
    let answers = subst (Answers (g.F.Files.stored c.args.files.now) c.args.command.now.operand.now 100663296 (g.F.Files.faults c.args.files.now) (g.F.Files.faults c.read.new.self)) c.in-Ok-Failed.field-0-is c.in-Ok-Failed.ensures.answers in
    says_report _ finish.ReadFault c.report.result (line (codes "opc: read fault")) _ _ _ _ _ _ _ _ _ (λ same. cc) (λ input. inl (c.requires, (answers, refl, (refl, refl, refl)))) c.report.ensures.says

pub returns-in-Err-clause-says : goal.returns-in-Err-clause-says
returns-in-Err-clause-says g c words =
    says_no_memory _ c.report_no_memory.result _ _ _ _ _ _ _ _ _ (λ done only. (inl c.requires, only)) c.report_no_memory.ensures.says

pub report_refusal-requires : goal.report_refusal-requires
report_refusal-requires g c = missing_told
