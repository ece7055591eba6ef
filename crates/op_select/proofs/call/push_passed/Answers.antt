use Rattle.std.proofs.Common.{arith}
use Rattle.op_select.proofs.Loops.{passed_none, passed_more}
use Rattle.op_select.proofs.call.push_passed.Goals as goal

pub loop-k-init : goal.loop-k-init
loop-k-init c = (omega arith, passed_none _ _ _)

pub loop-k-preserved : goal.loop-k-preserved
loop-k-preserved c =
    (omega arith, passed_more _ _ _ _ _ _ _ c.loop-k-test.true c.loop-k.invariant.0 c.loop-k.invariant.1 c.in_ok-push_passed_one.ensures)
