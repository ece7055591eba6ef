use Rattle.std.proofs.Common.{◌≡◌, ◌≤◌}
use Rattle.op_optimize.specs.Values.{power_below}
use Rattle.op_optimize.proofs.value.power_of.Given as goal

-- those that are left tell it
abbrev pub invariant-loop-left : goal.invariant-loop-left
invariant-loop-left l = (power_below l.left l.fn.n ≡ power_below 32 l.fn.n) × (l.left ≤ 32)

abbrev pub decreases-loop-left : goal.decreases-loop-left
decreases-loop-left l = l.left
