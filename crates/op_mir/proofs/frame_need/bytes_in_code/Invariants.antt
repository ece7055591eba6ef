use Rattle.std.proofs.Common.{◌≡◌, ◌+◌, ◌-◌, ◌^◌, ◌≤◌, min, length}
use Rattle.std.specs.List.{flat_map}
use Rattle.op_mir.specs.FrameNeed.{bytes_before, roots_named, roots_of_instruction}
use Rattle.op_mir.proofs.frame_need.bytes_in_code.Given as goal

abbrev pub invariant-loop-instruction : goal.invariant-loop-instruction
invariant-loop-instruction l =
    record {
      fits : l.sum ≤ 2 ^ 64 - 1;
      gives :
          min (l.sum + bytes_before l.core (flat_map roots_of_instruction l.rest) (roots_named l.behind)) (2 ^ 64 - 1)
          ≡ min (bytes_before l.core (flat_map roots_of_instruction l.code) (roots_named l.behind)) (2 ^ 64 - 1);
    }

abbrev pub decreases-loop-instruction : goal.decreases-loop-instruction
decreases-loop-instruction l = length l.rest
