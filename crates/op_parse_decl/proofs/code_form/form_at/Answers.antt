use Rattle.std.proofs.Common.{ap}
use Rattle.op_tree.specs.Terminal.{terminals}
use Rattle.op_parse_decl.proofs.code_form.form_at.Goals as goal

pub returns-then-is_fraction : goal.returns-then-is_fraction
returns-then-is_fraction c = c.is_fraction.ensures c.if-is_fraction.true _ _ (ap terminals c.in_ok-rest.ensures.cases.0)

pub returns-then-is_specialized : goal.returns-then-is_specialized
returns-then-is_specialized c = c.is_specialized.ensures c.if-is_specialized.true _ _ (ap terminals c.in_ok-rest.ensures.cases.0)
