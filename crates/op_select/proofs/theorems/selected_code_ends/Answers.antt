use Rattle.op_select.proofs.Beginning.{ends_alike}
use Rattle.op_select.proofs.theorems.selected_code_ends.Goals as goal

pub returns : goal.returns
returns c = ends_alike
