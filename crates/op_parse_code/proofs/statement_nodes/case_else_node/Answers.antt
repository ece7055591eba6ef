use Rattle.op_tree.proofs.Rows.{case_else_says}
use Rattle.op_parse_code.proofs.statement_nodes.case_else_node.Goals as goal

pub returns : goal.returns
returns c = case_else_says c.args.selector c.args.branches c.args.otherwise
