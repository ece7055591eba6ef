use Rattle.std.proofs.Common.{◌≡◌, ◌+◌, ◌-◌, ◌^◌, ◌≤◌, min, drop}
use Rattle.std.specs.List.{sum_by}
use Rattle.op_mir.specs.FrameNeed.{given_words, receiver_words}
use Rattle.op_mir.proofs.frame_need.call_words.Given as goal

abbrev pub invariant-loop-given : goal.invariant-loop-given
invariant-loop-given l = record { fits : l.sum ≤ 2 ^ 64 - 1; gives : min (l.sum + sum_by given_words (drop l.given-index l.given-items)) (2 ^ 64 - 1) ≡ min (1 + receiver_words l.call.receiver + sum_by given_words l.given-items) (2 ^ 64 - 1) }
