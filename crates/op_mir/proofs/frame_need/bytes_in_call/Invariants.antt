use Rattle.std.proofs.Common.{◌≡◌, ◌+◌, ◌-◌, ◌^◌, ◌≤◌, ◌++◌, min, length}
use Rattle.std.specs.List.{flat_map}
use Rattle.op_mir.specs.FrameNeed.{bytes_before, roots_named, roots_of_given, roots_of_instruction, roots_of_receiver}
use Rattle.op_mir.proofs.frame_need.bytes_in_call.Given as goal

abbrev pub invariant-loop-given : goal.invariant-loop-given
invariant-loop-given l =
    record {
      fits : l.sum ≤ 2 ^ 64 - 1;
      gives :
          min (l.sum + bytes_before l.core (flat_map roots_of_given l.rest) (roots_of_receiver l.call.receiver ++ (flat_map roots_of_instruction l.others ++ roots_named l.behind))) (2 ^ 64 - 1)
          ≡ min (bytes_before l.core (flat_map roots_of_given l.call.given ++ roots_of_receiver l.call.receiver) (flat_map roots_of_instruction l.others ++ roots_named l.behind)) (2 ^ 64 - 1);
    }

abbrev pub decreases-loop-given : goal.decreases-loop-given
decreases-loop-given l = length l.rest
