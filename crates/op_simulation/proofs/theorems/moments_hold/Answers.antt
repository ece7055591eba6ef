use Rattle.op_simulation.proofs.Points.{moments_between, moment_of}
use Rattle.op_simulation.proofs.theorems.moments_hold.Goals as goal

pub returns : goal.returns
returns g c = record { between = moments_between g.L.Layer.matching; always = moment_of g.L.Layer.matching }
