use Rattle.std.proofs.Common.{◌≡◌}
use Rattle.op_optimize.specs.Renaming.{are_apart}
use Rattle.op_optimize.proofs.harmless.are_apart.Given as goal

-- those that are left tell it
abbrev pub invariant-loop-left : goal.invariant-loop-left
invariant-loop-left l = are_apart l.live l.names l.instruction l.behind l.to l.left ≡ are_apart l.fn.live l.fn.names l.fn.instruction l.fn.behind l.fn.to l.fn.registers

abbrev pub decreases-loop-left : goal.decreases-loop-left
decreases-loop-left l = l.left
