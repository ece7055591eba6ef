use Rattle.std.proofs.Common.{sym, ◌∙◌}
use Rattle.op_operators.proofs.Nils.{nil_by_steps, no_nil}
use Rattle.op_operators.proofs.nil.is_nil.Goals as goal

pub returns-then-not-begins_nil : goal.returns-then-not-begins_nil
returns-then-not-begins_nil c = no_nil c.args.e.now (sym c.begins_nil.ensures ∙ c.if-not-begins_nil.true)

pub returns : goal.returns
returns c = c.stays_nil.ensures ∙ nil_by_steps c.args.e.now c.deref.result.now c.deref.ensures.value (sym c.begins_nil.ensures ∙ c.if-not-begins_nil.false)
