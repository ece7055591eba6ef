use Rattle.std.proofs.Common.{subst}
use Rattle.op_emu.specs.Runs.{IsNotLoaded}
use Rattle.op_tool.specs.ImageRun.{OwesImage}
use Rattle.op_tool.proofs.Running.{run_ended, run_failed, run_spent, run_faulted, run_not_read}
use Rattle.op_tool.proofs.Saying.{says_bad_image, says_no_memory}
use Rattle.op_tool.proofs.image_run.run_image.Goals as goal

pub returns-in-Ended-clause-says : goal.returns-in-Ended-clause-says
returns-in-Ended-clause-says g c =
    run_ended c.args.image.now c.args.steps c.in-Ok.machine c.in-Ok.ensures.loaded c.in-Ended.status c.run.new.self _ _ c.in-Ended.ensures.stands (c.in-Ended.ensures.runs c.in-Ok.ensures.loaded.fresh)

pub returns-in-Spent-clause-says : goal.returns-in-Spent-clause-says
returns-in-Spent-clause-says g c =
    run_spent c.args.image.now c.args.steps c.in-Ok.machine c.in-Ok.ensures.loaded c.ranges.steps.fits c.run.new.self c.report.result _ _ _ _ _ _ _ _ _ _ _ _ _ _ c.in-Spent.ensures.stands c.in-Spent.ensures.counts.2 (c.in-Spent.ensures.runs c.in-Ok.ensures.loaded.fresh) c.report.ensures.says

pub returns-in-Fault-clause-says : goal.returns-in-Fault-clause-says
returns-in-Fault-clause-says g c =
    run_faulted c.args.image.now c.args.steps c.in-Ok.machine c.in-Ok.ensures.loaded c.in-Fault.kind c.in-Fault.pc c.run.new.self c.report_fault.result _ _ _ _ _ _ _ _ _ _ _ _ _ _ c.in-Fault.ensures.stands c.in-Fault.ensures.counts.2 (c.in-Fault.ensures.runs c.in-Ok.ensures.loaded.fresh) c.report_fault.ensures.says

pub returns-in-ReadFault-clause-says : goal.returns-in-ReadFault-clause-says
returns-in-ReadFault-clause-says g c =
    run_not_read c.args.image.now c.args.steps c.in-Ok.machine c.in-Ok.ensures.loaded c.run.new.self c.report-in-ReadFault.result _ _ _ _ _ _ _ _ _ _ _ _ _ _ c.in-ReadFault.ensures.counts.2 (c.in-ReadFault.ensures.runs c.in-Ok.ensures.loaded.fresh) c.report-in-ReadFault.ensures.says

pub returns-in-Err-NoMemory-clause-says : goal.returns-in-Err-NoMemory-clause-says
returns-in-Err-NoMemory-clause-says g c =
    says_no_memory (OwesImage c.args.image.now c.args.steps (g.R.Source.faults c.args.input.now) (g.R.Source.faults c.args.input.now)) c.report_no_memory.result _ _ _ _ _ _ _ _ _ (λ done only. only) c.report_no_memory.ensures.says

pub returns-in-Ok-clause-says : goal.returns-in-Ok-clause-says
returns-in-Ok-clause-says g c =
    run_failed c.args.image.now c.args.steps c.in-Ok.machine c.in-Ok.ensures.loaded c.run.new.self _ _ (c.in-WriteFault.ensures.runs c.in-Ok.ensures.loaded.fresh)

pub returns-clause-says : goal.returns-clause-says
returns-clause-says g c =
    says_bad_image (OwesImage c.args.image.now c.args.steps (g.R.Source.faults c.args.input.now) (g.R.Source.faults c.args.input.now)) c.in-Err-Bad.condition c.report_bad_image.result _ _ _ _ _ _ _ _ _ (λ done only. (subst (IsNotLoaded c.args.image.now) c.in-Err-Bad.field-0-is c.in-Err-Bad.ensures.refused, only)) (λ done only. only) c.report_bad_image.ensures.says
