use Rattle.op_simulation.proofs.Points.{agreement}
use Rattle.op_simulation.proofs.theorems.runs_agree.Goals as goal

pub returns : goal.returns
returns g c = record { agree = agreement g.L.Layer.matching }
