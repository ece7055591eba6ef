use Rattle.op_simulation.proofs.Composition.{weaken}
use Rattle.op_simulation.proofs.theorems.simulation_restated.Goals as goal

pub returns : goal.returns
returns g c = weaken g.L.Restated.strong g.L.Restated.weak
