use Rattle.std.proofs.Common.{ap, ◌∙◌}
use Rattle.op_tree.proofs.Rows.{call_says}
use Rattle.op_tree.specs.Expression.{call}
use Rattle.op_tree.specs.Lists.{arguments_of}
use Rattle.op_parse_code.proofs.nodes.call_node.Goals as goal

pub returns : goal.returns
returns c = call_says c.fitted-arguments.result ∙ ap (λ xs. call (arguments_of xs)) c.fitted-arguments.ensures
