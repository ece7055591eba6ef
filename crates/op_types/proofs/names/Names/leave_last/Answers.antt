use Rattle.op_types.proofs.Index.{left_agrees, present}
use Rattle.op_types.proofs.names.Names.leave_last.Goals as goal

pub unreachable-requires : goal.unreachable-requires
unreachable-requires c = present _ _ _ c.in-Some.last c.in-Some.ensures.items c.self.invariant c.in-Err.ensures.absent

pub invariant_of-self : goal.invariant_of-self
invariant_of-self c = left_agrees _ _ _ _ c.in-Some.last c.in-Some.ensures.items c.self.invariant c.in-Ok.ensures.updates

pub invariant_of-self-in-Ok-2 : goal.invariant_of-self-in-Ok-2
invariant_of-self-in-Ok-2 c = left_agrees _ _ _ _ c.in-Some.last c.in-Some.ensures.items c.self.invariant c.in-Ok.ensures.updates

pub invariant_of-self-in-Ok-3 : goal.invariant_of-self-in-Ok-3
invariant_of-self-in-Ok-3 c = left_agrees _ _ _ _ c.in-Some.last c.in-Some.ensures.items c.self.invariant c.in-Ok.ensures.updates

pub invariant_of-self-in-Ok-4 : goal.invariant_of-self-in-Ok-4
invariant_of-self-in-Ok-4 c = left_agrees _ _ _ _ c.in-Some.last c.in-Some.ensures.items c.self.invariant c.in-Ok.ensures.updates

pub invariant_of-self-in-Ok-5 : goal.invariant_of-self-in-Ok-5
invariant_of-self-in-Ok-5 c = left_agrees _ _ _ _ c.in-Some.last c.in-Some.ensures.items c.self.invariant c.in-Ok.ensures.updates
