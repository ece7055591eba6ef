use Rattle.std.proofs.Common.{◌≡◌, ◌+◌, ◌-◌, ◌^◌, ◌≤◌, min, length}
use Rattle.std.specs.List.{sum_by}
use Rattle.op_mir.specs.FrameNeed.{each_once, roots_named, size_of_root}
use Rattle.op_mir.proofs.frame_need.bytes_of_wholes.Given as goal

abbrev pub invariant-loop-block : goal.invariant-loop-block
invariant-loop-block l =
    record {
      fits : l.sum ≤ 2 ^ 64 - 1;
      gives :
          min (l.sum + sum_by (size_of_root l.core) (each_once (roots_named l.rest))) (2 ^ 64 - 1) ≡ min (sum_by (size_of_root l.core) (each_once (roots_named l.blocks))) (2 ^ 64 - 1);
    }

abbrev pub decreases-loop-block : goal.decreases-loop-block
decreases-loop-block l = length l.rest
