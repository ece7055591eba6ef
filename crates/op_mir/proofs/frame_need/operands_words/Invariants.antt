use Rattle.std.proofs.Common.{◌≡◌, ◌+◌, ◌-◌, ◌^◌, ◌≤◌, min, drop}
use Rattle.std.specs.List.{sum_by}
use Rattle.op_mir.specs.FrameNeed.{operand_words}
use Rattle.op_mir.proofs.frame_need.operands_words.Given as goal

abbrev pub invariant-loop-operand : goal.invariant-loop-operand
invariant-loop-operand l = record { fits : l.sum ≤ 2 ^ 64 - 1; gives : min (l.sum + sum_by operand_words (drop l.operand-index l.operands)) (2 ^ 64 - 1) ≡ min (1 + sum_by operand_words l.operands) (2 ^ 64 - 1) }
