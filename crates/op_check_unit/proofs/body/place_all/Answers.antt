use Rattle.std.proofs.Common.{◌∙◌}
use Rattle.op_check_unit.proofs.Placing.{one_placed}
use Rattle.op_check_unit.proofs.body.place_all.Goals as goal

pub loop-body-preserved : goal.loop-body-preserved
loop-body-preserved c =
    let p = c.in_ok-place.ensures in
    (p.others ∙ c.loop-body.invariant.0, one_placed c.pop.new.self.items c.loop-body.bodies.items c.in-Some.body c.loop-body.core c.place.new.core c.in-Some.ensures.items p ∙ c.loop-body.invariant.1)
