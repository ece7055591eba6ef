use Rattle.std.proofs.Common.{ap, ◌∙◌}
use Rattle.op_tree.proofs.Rows.{literal_says}
use Rattle.op_tree.specs.Expression.{literal}
use Rattle.op_tree.specs.Statement.{selectors_of}
use Rattle.op_parse_code.proofs.nodes.literal_node.Goals as goal

pub returns : goal.returns
returns c = literal_says c.args.text c.args.position c.fitted-selectors.result ∙ ap (λ xs. literal c.args.text c.args.position (selectors_of xs)) c.fitted-selectors.ensures
