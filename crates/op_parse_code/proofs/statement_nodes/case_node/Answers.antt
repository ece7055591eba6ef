use Rattle.op_tree.proofs.Rows.{case_of_says}
use Rattle.op_parse_code.proofs.statement_nodes.case_node.Goals as goal

pub returns : goal.returns
returns c = case_of_says c.args.selector c.args.branches
