use Rattle.op_low.proofs.MachineLemmas.{stopped_halts}
use Rattle.op_low.proofs.theorems.stopped_machine_halts.Goals as goal

pub returns : goal.returns
returns c = stopped_halts
