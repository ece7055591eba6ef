use Rattle.op_simulation.proofs.Points.{end_is_above, end_trace_is_above}
use Rattle.op_simulation.proofs.theorems.ends_are_above.Goals as goal

pub returns : goal.returns
returns g c = record { state = end_is_above g.L.Layer.matching; shown = end_trace_is_above g.L.Layer.matching }
