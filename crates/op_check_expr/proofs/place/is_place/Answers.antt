use Rattle.std.proofs.Common.{ap, sym, ◌∙◌}
use Rattle.op_core.specs.Expression.{expr_of}
use Rattle.op_check_expr.specs.Places.{leads}
use Rattle.op_check_expr.proofs.Steps.{place_leads}
use Rattle.op_check_expr.proofs.place.is_place.Goals as goal

pub returns : goal.returns
returns c = c.leads.ensures ∙ ap (λ b. leads c.args.chars c.args.core.now b (expr_of c.args.e.now)) c.is_variable.ensures ∙ sym (place_leads c.args.chars c.args.core.now c.args.e.now)
