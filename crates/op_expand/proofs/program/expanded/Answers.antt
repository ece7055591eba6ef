use Rattle.std.proofs.Common.{ap, ◌+◌, ◌∙◌}
use Rattle.op_expand.proofs.SameCharges.{low_is, routines_are}
use Rattle.op_rt_text.specs.Runtime.{runtime_routines}
use Rattle.op_expand.proofs.program.expanded.Goals as goal

pub returns : goal.returns
returns c =
    low_is _ _ _ _ _ _ _ _
    (c.from.ensures ∙ routines_are c.args.literals.now c.args.core.now c.args.charges.now c.args.mir runtime_routines c.in_ok-low.low.items c.push_routines.new.low.items c.push_routine.new.low.items c.push_closing_routine.new.low.items c.args.stack c.in_ok-id.id.0 c.requires c.in_ok-low.ensures c.in_ok-id.ensures.routines c.in_ok-id.ensures.next c.in_ok-push_routine.ensures c.in_ok-push_closing_routine.ensures)
    (c.in_ok-sum.ensures ∙ ap (λ n. 9 + n) c.in_ok-id.ensures.next)
    (c.in_ok-small.ensures ∙ c.len.ensures)
    (c.from-2.ensures ∙ c.in_ok-globals.ensures)
