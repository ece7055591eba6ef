use Rattle.std.proofs.Common.{◌≡◌, ◌%◌, ◌∙◌, ap, sym, arith, refl}
use Rattle.op_rv.proofs.Environment.{environment_call-exit, environment_call-read, environment_call-write}
use Rattle.op_rv.specs.declared.fault.FaultKind.TheVariants.{Call}
use Rattle.op_rv.specs.State.{Running, Ended}
use Rattle.op_rv.specs.Environment.{environment_call, read_call, write_call, exit_call}
use Rattle.op_emu.specs.Acts.{moment, state_of}
use Rattle.op_emu.proofs.ActsLemmas.{StepIs-same, Acts-fault, environment_call-other, Acts-quiet}
use Rattle.op_emu.proofs.hart.Hart.call.Goals as goal

pub returns-in-63-clause-acts : goal.returns-in-63-clause-acts
returns-in-63-clause-acts g c =
    StepIs-same read_call environment_call c.read.result c.args.self.now c.read.new.self _ _ (λ x o e. environment_call-read _ (sym c.get.ensures ∙ c.in-63.is)) (c.read.ensures.acts _ _ _ _ _ _)

pub returns-in-64-clause-acts : goal.returns-in-64-clause-acts
returns-in-64-clause-acts g c =
    StepIs-same write_call environment_call c.write.result c.args.self.now c.write.new.self _ _ (λ x o e. environment_call-write _ (sym c.get.ensures ∙ c.in-64.is)) c.write.ensures.acts

pub returns-in-93-clause-acts : goal.returns-in-93-clause-acts
unfolding exit_call
returns-in-93-clause-acts g c =
    let old = c.args.self.now in
    Acts-quiet environment_call (moment old Running) _ _ _ _ refl (λ x o e.
    environment_call-exit _ (sym c.get.ensures ∙ c.in-93.is) ∙ ap (λ k. state_of (moment old (Ended (k % 256))) x o e) (sym c.get-in-93.ensures))

pub returns-in_default-clause-acts : goal.returns-in_default-clause-acts
returns-in_default-clause-acts g c =
    Acts-fault environment_call c.args.self.now Call _ _ _ (λ x o e.
    environment_call-other _ (λ is. let at : c.get.result ≡ 63 = c.get.ensures ∙ is in omega arith) (λ is. let at : c.get.result ≡ 64 = c.get.ensures ∙ is in omega arith) (λ is. let at : c.get.result ≡ 93 = c.get.ensures ∙ is in omega arith))
