use Rattle.op_simulation.proofs.Paths.{stretch_of_path}
use Rattle.op_simulation.proofs.theorems.path_is_stretch.Goals as goal

pub returns : goal.returns
returns g c = stretch_of_path g.L.Layer.matching
