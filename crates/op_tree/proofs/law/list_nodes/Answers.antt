use Rattle.op_tree.proofs.Rows.{list_nodes}
use Rattle.op_tree.proofs.law.list_nodes.Goals as goal

pub returns : goal.returns
returns c = list_nodes
