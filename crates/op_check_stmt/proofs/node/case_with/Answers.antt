use Rattle.op_core.proofs.Nodes.{list_nodes}
use Rattle.op_check_stmt.proofs.node.case_with.Goals as goal

pub returns : goal.returns
returns c = list_nodes.case_says c.args.selector c.args.branches c.args.otherwise
