use Rattle.std.proofs.Common.{◌∙◌, arith, to_z-of_z}
use Rattle.op_types.proofs.Members.{no_more, one_more}
use Rattle.op_types.specs.Sets.{between}
use Rattle.op_types.proofs.set.between.Goals as goal

pub loop-n-preserved : goal.loop-n-preserved
loop-n-preserved c = one_more c.loop-n.set.items c.push_if.new.set.items c.loop-n.n c.is_between.result _ _ c.loop-n-test.true c.is_between.ensures c.in_ok-push_if.ensures c.loop-n.invariant

pub returns : goal.returns
returns c = no_more c.loop-n.set.items c.loop-n.n _ _ (omega (arith, c.loop-n-test.false, c.loop-n.auto.n-end)) c.loop-n.invariant ∙ (λ i. between (to_z-of_z c.ranges.low i) (to_z-of_z c.ranges.high i))
