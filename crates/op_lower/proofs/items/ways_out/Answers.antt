use Rattle.op_lower.proofs.MadeLemmas.{three_put}
use Rattle.op_lower.proofs.items.ways_out.Goals as goal

pub returns-clause-blocks : goal.returns-clause-blocks
returns-clause-blocks c = λ core r. three_put core r _ _ _ _ _ _ _ _ _ _ _ c.in_ok-block.ensures.blocks c.in_ok-put.ensures.blocks c.in_ok-put-2.ensures.blocks c.in_ok-put-3.ensures.blocks (c.in_ok-leave.ensures core r) (c.in_ok-leave-2.ensures core r) (c.in_ok-leave-3.ensures core r)
