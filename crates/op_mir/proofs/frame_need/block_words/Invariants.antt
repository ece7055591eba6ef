use Rattle.std.proofs.Common.{◌≡◌, ◌-◌, ◌^◌, max, min, take}
use Rattle.op_mir.specs.FrameNeed.{instruction_words, most_words}
use Rattle.op_mir.proofs.frame_need.block_words.Given as goal

abbrev pub invariant-loop-instruction : goal.invariant-loop-instruction
invariant-loop-instruction l = l.most ≡ most_words (λ i. min (instruction_words i) (2 ^ 64 - 1)) (take l.instruction-index l.instruction-items)
