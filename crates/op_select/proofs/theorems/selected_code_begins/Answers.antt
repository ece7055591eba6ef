use Rattle.op_select.proofs.Beginning.{begins}
use Rattle.op_select.proofs.theorems.selected_code_begins.Goals as goal

pub returns : goal.returns
returns c = begins
