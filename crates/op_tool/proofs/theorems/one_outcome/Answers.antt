use Rattle.op_tool.proofs.OneOutcome.{one_outcome}
use Rattle.op_tool.proofs.theorems.one_outcome.Goals as goal

pub returns : goal.returns
returns c = one_outcome
