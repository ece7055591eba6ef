use Rattle.std.proofs.Common.{◌≡◌}
use Rattle.op_optimize.specs.Liveness.{covers_below}
use Rattle.op_optimize.proofs.dataflow.covers_below.Given as goal

-- those that are left tell it
abbrev pub invariant-loop-left : goal.invariant-loop-left
invariant-loop-left l = covers_below l.live (record { 0 = l.place }) l.code l.left ≡ covers_below l.fn.live (record { 0 = l.fn.place }) l.fn.code l.fn.count

abbrev pub decreases-loop-left : goal.decreases-loop-left
decreases-loop-left l = l.left
