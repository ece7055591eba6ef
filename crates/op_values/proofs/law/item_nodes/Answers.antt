use Rattle.op_values.proofs.Nodes.{item_nodes}
use Rattle.op_values.proofs.law.item_nodes.Goals as goal

pub returns : goal.returns
returns c = item_nodes
