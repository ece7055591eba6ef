use Rattle.op_tree.specs.Terminal.{terminals}
use Rattle.std.proofs.Common.{sym, ◌∙◌}
use Rattle.op_units.proofs.Forms.{found, goes_on_in, none_left}
use Rattle.op_units.proofs.form.first_form.Goals as goal

pub returns-in-Some-form_at : goal.returns-in-Some-form_at
returns-in-Some-form_at c = found (terminals c.args.tokens.now) (terminals c.loop-behind.rest.now) c.in-Some-form_at.refusal c.loop-behind.invariant (sym c.form_at.ensures ∙ c.in-Some-form_at.is)

pub loop-behind-preserved : goal.loop-behind-preserved
loop-behind-preserved c = goes_on_in (terminals c.args.tokens.now) c.loop-behind.rest.now c.in-Some.field-0-0.now c.in-Some.behind.now c.form_at.result c.in-Some.ensures.cases.0 c.form_at.ensures c.in_default-form_at.is c.loop-behind.invariant

pub returns : goal.returns
returns c = none_left (terminals c.args.tokens.now) c.loop-behind.rest.now c.in_default.ensures.cases c.loop-behind.invariant
