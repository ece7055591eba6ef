use Rattle.op_tree.proofs.Rows.{record_type_says}
use Rattle.op_parse_decl.proofs.nodes.record_node.Goals as goal

pub returns : goal.returns
returns c = record_type_says c.args.position c.args.packed c.args.fields
