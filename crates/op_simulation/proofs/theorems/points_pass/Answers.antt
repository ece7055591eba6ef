use Rattle.op_simulation.proofs.Points.{point_rises, point_passes, between_points}
use Rattle.op_simulation.proofs.theorems.points_pass.Goals as goal

pub returns : goal.returns
returns g c =
    let matching = g.L.Layer.matching in
    record { rise = point_rises matching; pass = point_passes matching; between = between_points matching }
