use Rattle.std.proofs.Common.{◌∙◌}
use Rattle.op_check_unit.proofs.Rows.{one_begun}
use Rattle.op_check_unit.proofs.first_value.begin_all.Goals as goal

pub loop-begun-preserved : goal.loop-begun-preserved
loop-begun-preserved c =
    let p = c.in_ok-begin.ensures in
    (p.others ∙ c.loop-begun.invariant.0, one_begun c.pop.new.self.items c.loop-begun.values.items c.in-Some.begun c.loop-begun.core c.begin.new.core c.in-Some.ensures.items p ∙ c.loop-begun.invariant.1)
