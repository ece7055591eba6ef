use Rattle.op_simulation.proofs.Paths.{path_step, path_join}
use Rattle.op_simulation.proofs.theorems.paths_join.Goals as goal

pub returns : goal.returns
returns g c =
    let system = g.W.Watched.system in
    let holds = g.W.Watched.holds in
    record { step = path_step system holds; join = path_join system holds }
