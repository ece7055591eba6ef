use Rattle.std.proofs.Common.{◌∙◌}
use Rattle.op_check_expr.proofs.Steps.{leads_next, leads_whole}
use Rattle.op_check_expr.proofs.place.leads.Goals as goal

pub loop-step-init : goal.loop-step-init
loop-step-init c = record {
  whole = leads_whole c.args.chars c.args.core.now c.args.so_far c.args.e.now c.deref-step-items.result.now c.deref-step-items.ensures.value;
}

pub loop-step-preserved : goal.loop-step-preserved
loop-step-preserved c = record {
  whole = leads_next c.args.chars c.args.core.now c.loop-step.of c.deref-step-items.result.now c.loop-step.step-index c.step-item.result c.loop-step.so_far c.leads_on-so_far.result c.type_at.result c.loop-step-test.true c.step-item.is c.type_at.ensures c.leads_on-so_far.ensures ∙ c.loop-step.invariant.whole;
}
