use Rattle.op_managed.proofs.SameCode.{all_manage}
use Rattle.op_managed.proofs.passes.middle.Goals as goal

pub returns-clause-manages : goal.returns-clause-manages
returns-clause-manages c = all_manage c.args.core.now c.lower.result c.lower.ensures
