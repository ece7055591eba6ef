use Rattle.std.proofs.Common.{ap, ◌∙◌}
use Rattle.op_tree.proofs.Rows.{index_says}
use Rattle.op_tree.specs.Expression.{index}
use Rattle.op_tree.specs.Lists.{expressions_of}
use Rattle.op_parse_code.proofs.nodes.index_node.Goals as goal

pub returns : goal.returns
returns c = index_says c.args.position c.fitted-indices.result ∙ ap (λ xs. index c.args.position (expressions_of xs)) c.fitted-indices.ensures
