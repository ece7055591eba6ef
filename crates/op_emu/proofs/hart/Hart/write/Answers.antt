use Rattle.std.proofs.Common.{◌≡◌, ◌∙◌, sym, arith}
use Rattle.op_rv.specs.declared.fault.FaultKind.TheVariants.{Call}
use Rattle.op_rv.specs.Environment.{write_call}
use Rattle.op_emu.proofs.ActsLemmas.{StepIs-out, StepIs-err, Acts-fault, write_call-other}
use Rattle.op_emu.proofs.hart.Hart.write.Goals as goal

pub returns-in-1-clause-acts : goal.returns-in-1-clause-acts
returns-in-1-clause-acts g c =
    StepIs-out c.write_to.result c.args.self.now c.write_to.new.self _ _ _ _ _ (sym c.get.ensures ∙ c.in-1.is) c.write_to.ensures.acts

pub returns-in-2-clause-acts : goal.returns-in-2-clause-acts
returns-in-2-clause-acts g c =
    StepIs-err c.write_to-in-2.result c.args.self.now c.write_to-in-2.new.self _ _ _ _ _ (sym c.get.ensures ∙ c.in-2.is) c.write_to-in-2.ensures.acts

pub returns-in_default-clause-acts : goal.returns-in_default-clause-acts
returns-in_default-clause-acts g c =
    Acts-fault write_call c.args.self.now Call _ _ _ (λ x o e.
    write_call-other _ (λ is. let at : c.get.result ≡ 1 = c.get.ensures ∙ is in omega arith) (λ is. let at : c.get.result ≡ 2 = c.get.ensures ∙ is in omega arith))
