use Rattle.op_emu.proofs.ActsLemmas.{StepIs-running}
use Rattle.op_emu.proofs.machine.Machine.step.Goals as goal

pub returns-clause-acts : goal.returns-clause-acts
returns-clause-acts g c =
    λ _. StepIs-running c.step-stepped.result c.args.self.now.hart c.step-stepped.new.self _ _ c.step-stepped.ensures.acts
