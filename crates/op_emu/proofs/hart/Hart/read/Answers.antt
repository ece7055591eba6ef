use Rattle.std.proofs.Common.{◌≡◌, ◌∙◌, sym, arith}
use Rattle.op_rv.specs.declared.fault.FaultKind.TheVariants.{Call}
use Rattle.op_rv.specs.Environment.{read_call}
use Rattle.op_emu.proofs.ActsLemmas.{Acts-fault, read_call-other}
use Rattle.op_emu.proofs.hart.Hart.read.Goals as goal

pub read_input-requires : goal.read_input-requires
read_input-requires g c = sym c.get.ensures ∙ c.in-0.is

pub returns-in_default-clause-acts : goal.returns-in_default-clause-acts
returns-in_default-clause-acts g c =
    λ o e oc oc' ec ec'.
    Acts-fault read_call c.args.self.now Call _ _ _ (λ x out err.
    read_call-other _ (λ is. let at : c.get.result ≡ 0 = c.get.ensures ∙ is in omega arith))
