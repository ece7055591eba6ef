use Rattle.std.proofs.Common.{sym}
use Rattle.op_rv.specs.Step.{act, running_step}
use Rattle.op_rv.specs.declared.fault.FaultKind.TheVariants.{Fetch, Illegal}
use Rattle.op_emu.proofs.ActsLemmas.{StepIs-same, Acts-fault, running_step-row, running_step-illegal, running_step-fetch}
use Rattle.op_emu.proofs.hart.Hart.step.Goals as goal

pub returns-in-None-clause-acts : goal.returns-in-None-clause-acts
returns-in-None-clause-acts g c =
    Acts-fault running_step c.args.self.now Fetch _ _ _ (λ x o e. running_step-fetch _ c.in-None.ensures)

pub returns-in-Some-decode-clause-acts : goal.returns-in-Some-decode-clause-acts
returns-in-Some-decode-clause-acts g c =
    let fetched = c.in-Some.ensures in
    StepIs-same (act c.in-Some-decode.i) running_step c.perform.result c.args.self.now c.perform.new.self _ _ (λ x o e. running_step-row _ c.in-Some-decode.i c.in-Some.word fetched.0 fetched.1 (sym c.in-Some-decode.ensures.exact)) c.perform.ensures.acts

pub returns-in-None-decode-clause-acts : goal.returns-in-None-decode-clause-acts
returns-in-None-decode-clause-acts g c =
    let fetched = c.in-Some.ensures in
    Acts-fault running_step c.args.self.now Illegal _ _ _ (λ x o e. running_step-illegal _ c.in-Some.word fetched.0 fetched.1 (sym c.in-None-decode.ensures.exact))
