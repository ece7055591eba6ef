use Rattle.op_tree.proofs.Rows.{designated_says}
use Rattle.op_parse_code.proofs.nodes.designator_node.Goals as goal

pub returns : goal.returns
returns c = designated_says c.args.designator
