use Rattle.std.proofs.Common.{◌≡◌, length, take}
use Rattle.op_types.specs.Names.{all_of}
use Rattle.op_types.proofs.visible.Visible.leave.Given as goal

-- what is there begins as the whole does
abbrev pub invariant-loop-self : goal.invariant-loop-self
invariant-loop-self l =
    (l.self-inside.count ≡ length (all_of l.self-inside.stretches.items)) × (take l.count (all_of l.self-inside.stretches.items) ≡ take l.count l.fn.self)

abbrev pub decreases-loop-self : goal.decreases-loop-self
decreases-loop-self l = length l.self-inside.stretches.items
