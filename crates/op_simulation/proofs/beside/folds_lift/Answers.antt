use Rattle.op_simulation.proofs.Lifting.{lift}
use Rattle.op_simulation.proofs.beside.folds_lift.Goals as goal

pub returns : goal.returns
returns g c = record { lift = λ equal some follows. lift g.L.FoldedLayer.matching g.L.FoldedLayer.fold equal some follows }
