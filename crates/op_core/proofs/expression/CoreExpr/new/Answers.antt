use Rattle.std.proofs.Common.{ap, ◌∙◌}
use Rattle.op_core.proofs.Nodes.{expr_made}
use Rattle.op_core.specs.Expression.{expression, root_of}
use Rattle.op_core.specs.Nodes.{steps_of}
use Rattle.op_core.proofs.expression.CoreExpr.new.Goals as goal

pub returns : goal.returns
returns c = expr_made _ _ _ ∙ ap (λ xs. expression (root_of c.args.root) c.args.of (steps_of xs)) c.new-steps.ensures.items
