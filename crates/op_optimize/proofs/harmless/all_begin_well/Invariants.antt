use Rattle.std.proofs.Common.{◌≡◌}
use Rattle.op_optimize.specs.Renaming.{all_begin_well}
use Rattle.op_optimize.proofs.harmless.all_begin_well.Given as goal

-- those that are left tell it
abbrev pub invariant-loop-left : goal.invariant-loop-left
invariant-loop-left l = all_begin_well l.live l.names l.parameters l.registers l.left ≡ all_begin_well l.fn.live l.fn.names l.fn.parameters l.fn.registers l.fn.count

abbrev pub decreases-loop-left : goal.decreases-loop-left
decreases-loop-left l = l.left
