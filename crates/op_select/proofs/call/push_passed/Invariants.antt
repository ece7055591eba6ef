use Rattle.std.proofs.Common.{◌≡◌, ◌++◌, ◌≤◌, drop, length}
use Rattle.op_select.specs.Frames.{passed}
use Rattle.op_select.proofs.call.push_passed.Given as goal

abbrev pub invariant-loop-k : goal.invariant-loop-k
invariant-loop-k l =
    (l.k ≤ length l.arguments)
    × (l.items.items ≡ l.fn.items.items ++ passed l.routine l.k (drop l.k l.arguments))

abbrev pub decreases-loop-k : goal.decreases-loop-k
decreases-loop-k l = l.k
