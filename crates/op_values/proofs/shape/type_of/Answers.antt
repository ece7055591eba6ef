use Rattle.std.proofs.Common.{length, ap, sym, ◌∙◌}
use Rattle.op_values.proofs.Steps.{type_behind, type_alone}
use Rattle.op_values.proofs.shape.type_of.Goals as goal

pub returns-in-Some : goal.returns-in-Some
returns-in-Some c = sym (type_behind c.args.e.now c.in-Some.field-0-1.now c.in-Some.step.now (sym c.deref.ensures.value ∙ c.in-Some.ensures.cases.0))

pub returns-in-None : goal.returns-in-None
returns-in-None c = sym (type_alone c.args.e.now (ap length (sym c.deref.ensures.value) ∙ c.in-None.ensures.cases))
