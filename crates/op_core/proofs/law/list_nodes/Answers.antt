use Rattle.op_core.proofs.Nodes.{list_nodes}
use Rattle.op_core.proofs.law.list_nodes.Goals as goal

pub returns : goal.returns
returns c = list_nodes
