use Rattle.std.proofs.Common.{ap, ◌∙◌}
use Rattle.op_tree.proofs.Rows.{record_value_says}
use Rattle.op_tree.specs.Initial.{record_}
use Rattle.op_tree.specs.Lists.{field_initials_of}
use Rattle.op_parse_decl.proofs.nodes.record_value_node.Goals as goal

pub returns : goal.returns
returns c = record_value_says c.args.position c.insert.new.self ∙ ap (λ z. record_ c.args.position (field_initials_of z)) c.in_ok-insert.ensures.items
