use Rattle.op_tree.proofs.Rows.{repeat_until_says}
use Rattle.op_parse_code.proofs.statement_nodes.repeat_node.Goals as goal

pub returns : goal.returns
returns c = repeat_until_says c.args.body c.args.condition
