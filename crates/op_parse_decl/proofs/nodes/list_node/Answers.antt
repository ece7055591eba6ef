use Rattle.std.proofs.Common.{ap, ◌∙◌}
use Rattle.op_tree.proofs.Rows.{list_value_says}
use Rattle.op_tree.specs.Initial.{list}
use Rattle.op_tree.specs.Lists.{initials_of}
use Rattle.op_parse_decl.proofs.nodes.list_node.Goals as goal

pub returns : goal.returns
returns c = list_value_says c.args.position c.insert.new.self ∙ ap (λ z. list c.args.position (initials_of z)) c.in_ok-insert.ensures.items
