use Rattle.std.proofs.Common.{sym, ◌∙◌}
use Rattle.op_types.proofs.Assigning.{assignable_by, is_assignable}
use Rattle.op_types.proofs.assign.assignable.Goals as goal

pub returns-clause-means : goal.returns-clause-means
returns-clause-means c = λ h. is_assignable c.args.core.now c.args.from c.args.to (sym c.is_assignable.ensures ∙ h)

pub returns-clause-whole : goal.returns-clause-whole
returns-clause-whole c = λ ends h. c.is_assignable.ensures ∙ assignable_by c.args.core.now c.args.from c.args.to ends h
