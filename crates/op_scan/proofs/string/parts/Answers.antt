use Rattle.op_scan.proofs.Strings.{parts_begin, parts_more, parts_end}
use Rattle.op_scan.proofs.string.parts.Goals as goal

pub loop-after-init : goal.loop-after-init
loop-after-init c = parts_begin _ _

pub loop-after-preserved : goal.loop-after-preserved
loop-after-preserved c = parts_more _ _ _ _ _ _ c.loop-after.invariant (rw c.in-Some.is at c.in_ok-after.ensures)

pub returns : goal.returns
returns c =
    let n = rw c.in_default.is at c.in_ok-after.ensures in
    rw n.1 (parts_end _ _ _ _ c.loop-after.invariant n.0)
