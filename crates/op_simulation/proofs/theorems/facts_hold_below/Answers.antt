use Rattle.op_simulation.proofs.Points.{always_below}
use Rattle.op_simulation.proofs.theorems.facts_hold_below.Goals as goal

pub returns : goal.returns
returns g c = always_below g.L.WatchedLayer.matching g.L.WatchedLayer.holds
