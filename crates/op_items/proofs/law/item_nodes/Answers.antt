use Rattle.op_items.proofs.Nodes.{item_nodes}
use Rattle.op_items.proofs.law.item_nodes.Goals as goal

pub returns : goal.returns
returns c = item_nodes
