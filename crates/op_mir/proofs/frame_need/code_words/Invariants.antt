use Rattle.std.proofs.Common.{◌≡◌, ◌-◌, ◌^◌, max, min, take}
use Rattle.std.specs.List.{fold}
use Rattle.op_mir.specs.FrameNeed.{instruction_words, most_words}
use Rattle.op_mir.proofs.frame_need.code_words.Given as goal

abbrev pub invariant-loop-block : goal.invariant-loop-block
invariant-loop-block l = l.most ≡ most_words (λ b. most_words (λ i. min (instruction_words i) (2 ^ 64 - 1)) b.code) (take l.block-index l.blocks)
