use Rattle.op_optimize.proofs.Stepping.{shortens_through}
use Rattle.op_optimize.proofs.theorems.shortenings_compose.Goals as goal

pub returns : goal.returns
returns c = shortens_through
