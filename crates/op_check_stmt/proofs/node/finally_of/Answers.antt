use Rattle.op_core.proofs.Nodes.{list_nodes}
use Rattle.op_check_stmt.proofs.node.finally_of.Goals as goal

pub returns : goal.returns
returns c = list_nodes.finally_says c.args.body c.args.finalization
