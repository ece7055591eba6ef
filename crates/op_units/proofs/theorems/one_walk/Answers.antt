use Rattle.op_units.proofs.OneWalk.{one_walk}
use Rattle.op_units.proofs.theorems.one_walk.Goals as goal

pub returns : goal.returns
returns c = one_walk
