use Rattle.std.proofs.Common.{sym, ap, subst, ◌∙◌}
use Rattle.op_core.specs.Sizes.{KeepsExtents}
use Rattle.op_core.specs.Types.{predefined}
use Rattle.op_types.proofs.Extents.{keeps_all, kept_of_none}
use Rattle.op_types.specs.Entering.{with_types}
use Rattle.op_types.proofs.enter.predefined.Goals as goal

pub returns : goal.returns
returns c = record {
  types = ap (λ x. x.types) (c.in_ok-enter_all.ensures ∙ ap (λ x. with_types x predefined) c.new-core.ensures);
  kept = subst KeepsExtents (sym c.in_ok-enter_all.ensures) (keeps_all c.new-core.result predefined ((λ fs is n. tt, (λ fs is n. tt, (λ fs is n. tt, (λ fs is n. tt, (λ fs is n. tt, (λ fs is n. tt, (λ fs is n. tt, (λ fs is n. tt, (λ fs is n. tt, (λ fs is n. tt, (λ fs is n. tt, (λ fs is n. tt, (λ fs is n. tt, (λ fs is n. tt, (λ fs is n. tt, (λ fs is n. tt, tt))))))))))))))))) (kept_of_none c.new-core.result c.new-core.ensures));
}
