use Rattle.op_simulation.proofs.Runs.{always_here, always_next}
use Rattle.op_simulation.proofs.theorems.facts_stay.Goals as goal

pub returns : goal.returns
returns g c =
    let system = g.W.Watched.system in
    record { here = always_here system g.W.Watched.holds; next = always_next system g.W.Watched.holds }
