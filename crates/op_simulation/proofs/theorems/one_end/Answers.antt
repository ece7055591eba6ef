use Rattle.op_simulation.proofs.Runs.{one_end, one_trace}
use Rattle.op_simulation.proofs.theorems.one_end.Goals as goal

pub returns : goal.returns
returns g c = record { state = one_end g.M.Machine.system; shown = one_trace g.M.Machine.system }
