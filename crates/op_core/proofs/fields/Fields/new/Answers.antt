use Rattle.std.proofs.Common.{sym, subst}
use Rattle.op_core.proofs.FieldIndex.{none_yet}
use Rattle.op_core.specs.FieldNames.{AreFound}
use Rattle.op_core.proofs.fields.Fields.new.Goals as goal

pub invariant_of-result : goal.invariant_of-result
invariant_of-result c = subst (λ fs. AreFound fs c.new-2.result) (sym c.new.ensures) (none_yet c.new-2.result c.new-2.ensures.empty)
