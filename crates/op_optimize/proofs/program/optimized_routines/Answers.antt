use Rattle.std.proofs.Common.{◌≡◌, [], ◌∷◌, ◌++◌, subst, sym, ap, ◌∙◌, append_assoc, append-nil}
use Rattle.std.proofs.lemmas.List.{nil_from_length}
use Rattle.op_optimize.specs.Each.{Each, NoneLeft}
use Rattle.op_optimize.specs.Optimizing.{OptimizesRoutine}
use Rattle.op_optimize.proofs.Gathering.{each_behind}
use Rattle.op_optimize.proofs.program.optimized_routines.Goals as goal

pub loop-routine-init : goal.loop-routine-init
loop-routine-init c = (c.into_iter-routine-iterator.ensures.into_iter_gives.0 ∙ c.into_vec-routine-items.ensures, subst (Each OptimizesRoutine []) (sym c.new-made.ensures.items) NoneLeft)

pub loop-routine-preserved : goal.loop-routine-preserved
loop-routine-preserved c =
    let step : c.loop-routine.routine-iterator.rest.items ≡ c.in-Some.routine ∷ c.next.new.self.rest.items = c.in-Some.ensures.steps.0 in (
      append_assoc c.loop-routine.yielded (c.in-Some.routine ∷ []) c.next.new.self.rest.items ∙ ap (λ rs. c.loop-routine.yielded ++ rs) (sym step) ∙ c.loop-routine.invariant.0,
      subst (Each OptimizesRoutine _) (sym c.in_ok-push.ensures.items) (each_behind c.loop-routine.yielded c.loop-routine.made.items c.in-Some.routine c.in_ok-optimized.field-0 c.loop-routine.invariant.1 c.in_ok-optimized.ensures),
    )

pub returns : goal.returns
returns c =
    let none : c.loop-routine.routine-iterator.rest.items ≡ [] = nil_from_length c.loop-routine.routine-iterator.rest.items (sym c.loop-routine.routine-iterator.rest.ok.0 ∙ c.in-None.ensures.steps.0) in
    subst (λ rs. Each OptimizesRoutine rs c.loop-routine.made.items) (sym (append-nil c.loop-routine.yielded) ∙ ap (λ rs. c.loop-routine.yielded ++ rs) (sym none) ∙ c.loop-routine.invariant.0) c.loop-routine.invariant.1
