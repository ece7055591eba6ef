use Rattle.op_tree.proofs.Rows.{block_says}
use Rattle.op_parse_code.proofs.statement_nodes.block_node.Goals as goal

pub returns : goal.returns
returns c = block_says c.args.statements
