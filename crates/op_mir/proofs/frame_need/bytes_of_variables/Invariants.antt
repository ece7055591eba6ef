use Rattle.std.proofs.Common.{◌≡◌, ◌+◌, ◌-◌, ◌^◌, ◌≤◌, min, drop}
use Rattle.std.specs.List.{sum_by}
use Rattle.op_mir.specs.FrameNeed.{variable_bytes}
use Rattle.op_mir.proofs.frame_need.bytes_of_variables.Given as goal

abbrev pub invariant-loop-each : goal.invariant-loop-each
invariant-loop-each l = record { fits : l.sum ≤ 2 ^ 64 - 1; gives : min (l.sum + sum_by (variable_bytes l.core) (drop l.each-index l.variables)) (2 ^ 64 - 1) ≡ min (sum_by (variable_bytes l.core) l.variables) (2 ^ 64 - 1) }
