use Rattle.op_select.proofs.Following.{selected_follows}
use Rattle.op_select.proofs.theorems.selected_code_goes_along.Goals as goal

pub returns : goal.returns
returns c = selected_follows
