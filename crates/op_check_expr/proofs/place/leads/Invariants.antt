use Rattle.std.proofs.Common.{◌≡◌, drop}
use Rattle.op_core.specs.Expression.{expr_of}
use Rattle.op_core.specs.Nodes.{steps_of}
use Rattle.op_core.specs.Typing.{is_place_after}
use Rattle.op_check_expr.specs.Places.{leads}
use Rattle.op_check_expr.proofs.place.leads.Given as goal

-- the steps that are left tell the same as all
abbrev pub invariant-loop-step : goal.invariant-loop-step
invariant-loop-step l = record {
  whole : is_place_after l.chars l.core l.of (steps_of (drop l.step-index l.step-items)) l.so_far ≡ leads l.chars l.core l.initial.so_far (expr_of l.e);
}
