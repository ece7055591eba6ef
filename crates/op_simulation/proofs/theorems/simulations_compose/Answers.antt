use Rattle.op_simulation.proofs.Composition.{compose}
use Rattle.op_simulation.proofs.theorems.simulations_compose.Goals as goal

pub returns : goal.returns
returns g c = compose g.L.TwoLayers.upper g.L.TwoLayers.lower
