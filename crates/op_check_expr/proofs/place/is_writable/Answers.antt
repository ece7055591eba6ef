use Rattle.std.proofs.Common.{ap, sym, ◌∙◌}
use Rattle.op_core.specs.Expression.{expr_of}
use Rattle.op_check_expr.specs.Places.{is_writable_root, leads}
use Rattle.op_check_expr.specs.Scopes.{here_of}
use Rattle.op_check_expr.proofs.Steps.{root_said}
use Rattle.op_check_expr.proofs.place.is_writable.Goals as goal

pub returns : goal.returns
returns c =
    c.leads.ensures
    ∙ ap (λ b. leads c.args.chars c.args.scope.core.now b (expr_of c.args.e.now)) (c.is_writable_root.ensures ∙ ap (is_writable_root (here_of c.args.scope)) (sym (root_said c.args.e.now)))
