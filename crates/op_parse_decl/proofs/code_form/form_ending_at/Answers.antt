use Rattle.std.proofs.Common.{ap}
use Rattle.op_parse_decl.proofs.CodeForms.{tail_form, tail_more, tail_none}
use Rattle.op_tree.specs.Terminal.{terminals}
use Rattle.op_parse_decl.proofs.code_form.form_ending_at.Goals as goal

pub loop-behind-init : goal.loop-behind-init
loop-behind-init c = tail_none _

pub returns-in-Some-form_at : goal.returns-in-Some-form_at
returns-in-Some-form_at c = tail_form c.loop-behind.invariant c.in-Some-form_at.ensures

pub loop-behind-preserved : goal.loop-behind-preserved
loop-behind-preserved c = tail_more c.loop-behind.invariant (ap terminals c.in-Some.ensures.cases.0)
