use Rattle.std.proofs.Common.{ap, ◌∙◌}
use Rattle.op_tree.proofs.Rows.{set_says}
use Rattle.op_tree.specs.Expression.{set}
use Rattle.op_tree.specs.Statement.{elements_of}
use Rattle.op_parse_code.proofs.nodes.set_node.Goals as goal

pub returns : goal.returns
returns c = set_says c.args.position c.fitted-elements.result ∙ ap (λ xs. set c.args.position (elements_of xs)) c.fitted-elements.ensures
