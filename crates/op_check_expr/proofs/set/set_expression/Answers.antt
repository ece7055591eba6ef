use Rattle.std.proofs.Common.{ap, ◌∙◌}
use Rattle.op_core.proofs.Nodes.{list_nodes}
use Rattle.op_core.specs.Expression.{expression, no_steps}
use Rattle.op_check_expr.proofs.set.set_expression.Goals as goal

pub returns : goal.returns
returns c = c.«new».ensures ∙ ap (λ r. expression r c.args.of no_steps) (list_nodes.set_says c.args.elements)
