use Rattle.op_mir.proofs.Following.{code_follows, code_agrees}
use Rattle.op_mir.proofs.theorems.code_goes_along.Goals as goal

pub returns : goal.returns
returns c = record { follows = code_follows; agrees = code_agrees }
