use Rattle.std.proofs.Common.{ap, sym, ◌∙◌}
use Rattle.op_core.proofs.Nodes.{expr_made, list_nodes}
use Rattle.op_core.specs.Expression.{expression, root_of}
use Rattle.op_core.specs.Nodes.{steps_of}
use Rattle.op_core.specs.declared.expression.CoreExpr.{out-CoreExpr}
use Rattle.op_check_expr.proofs.tree.with_room.Goals as goal

pub returns : goal.returns
returns c =
    expr_made (out-CoreExpr c.args.e).root (out-CoreExpr c.args.e).of c.make_room.new.list
    ∙ ap (λ xs. expression (root_of (out-CoreExpr c.args.e).root) (out-CoreExpr c.args.e).of (steps_of xs)) c.make_room.ensures
    ∙ sym (list_nodes.expr_says c.args.e)
