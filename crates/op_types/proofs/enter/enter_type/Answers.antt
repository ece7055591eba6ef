use Rattle.std.proofs.Common.{sym, subst}
use Rattle.op_core.specs.Sizes.{KeepsExtents}
use Rattle.op_types.proofs.Extents.{entered_keeps}
use Rattle.op_types.proofs.enter.enter_type.Goals as goal

pub returns-clause-kept : goal.returns-clause-kept
returns-clause-kept c = λ k b. subst KeepsExtents (sym c.in_ok-id.ensures.rows) (entered_keeps c.args.core.now c.args.of k b)
