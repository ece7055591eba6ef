use Rattle.std.proofs.Common.{◌+◌, drop, sym, ap, ◌∙◌}
use Rattle.op_core.specs.declared.types.CoreType.TheVariants.{Integer}
use Rattle.op_core.specs.declared.types.IntegerKind.TheVariants.{Signed8}
use Rattle.op_types.proofs.Folding.{next_at}
use Rattle.op_types.specs.Entering.{with_types}
use Rattle.op_types.proofs.enter.enter_all.Goals as goal

pub loop-of-preserved : goal.loop-of-preserved
loop-of-preserved c =
    ap (λ x. with_types x (drop (c.loop-of.of-index + 1) c.args.types.now)) c.in_ok-push_type.ensures.row
    ∙ ap (with_types c.loop-of.core) (sym (next_at c.args.types.now c.loop-of.of-index (Integer Signed8) c.loop-of-test.true))
    ∙ c.loop-of.invariant
