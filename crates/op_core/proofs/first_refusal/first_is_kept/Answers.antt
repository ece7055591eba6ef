use Rattle.op_core.proofs.First.{first_is}
use Rattle.op_core.proofs.first_refusal.first_is_kept.Goals as goal

pub returns : goal.returns
returns c = first_is
