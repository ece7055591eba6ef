use Rattle.op_core.proofs.Nodes.{list_nodes}
use Rattle.op_check_stmt.proofs.node.block_of.Goals as goal

pub returns : goal.returns
returns c = list_nodes.block_says c.args.statements
