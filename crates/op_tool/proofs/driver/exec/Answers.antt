use Rattle.std.proofs.Common.{refl}
use Rattle.op_tool.specs.ImageRun.{OwesImage}
use Rattle.op_tool.specs.Owes.{call}
use Rattle.op_command.specs.Reading.{asked_of}
use Rattle.op_tool.proofs.Executing.{exec_made}
use Rattle.op_tool.proofs.Failing.{says_exec_error}
use Rattle.op_tool.proofs.Saying.{says_also}
use Rattle.op_tool.proofs.driver.exec.Goals as goal

pub returns-in-Ok-clause-says : goal.returns-in-Ok-clause-says
returns-in-Ok-clause-says g c words =
    let owes = exec_made words (g.F.Files.stored c.args.files.now) (g.F.Files.faults c.args.files.now) (g.F.Files.faults c.compile.new.files) (g.R.Source.faults c.args.input.now) (g.R.Source.faults c.run_image.new.input) c.as_slice.result.now _ (asked_of c.args.command.now) c.as_slice.ensures.value c.in-Ok.ensures.made in
    says_also (OwesImage c.as_slice.result.now c.args.command.now.steps (g.R.Source.faults c.args.input.now) (g.R.Source.faults c.run_image.new.input)) _ c.run_image.result _ _ owes c.run_image.ensures.says

pub returns-in-Err-clause-says : goal.returns-in-Err-clause-says
returns-in-Err-clause-says g c words =
    says_exec_error (call words (g.F.Files.stored c.args.files.now) (g.F.Files.faults c.args.files.now) (g.F.Files.faults c.compile.new.files) (g.R.Source.faults c.args.input.now) (g.R.Source.faults c.args.input.now) c.args.image.now.items) (asked_of c.args.command.now) c.in-Err.error c.report_error.result _ _ _ _ _ _ _ _ _ c.in-Err.ensures.failed refl c.requires.empty c.report_error.ensures.says
