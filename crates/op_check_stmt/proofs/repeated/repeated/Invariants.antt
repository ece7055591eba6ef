use Rattle.std.proofs.Common.{◌≡◌, drop, take}
use Rattle.op_check_stmt.proofs.Apart.{Seen}
use Rattle.op_check_stmt.specs.Labels.{repeated, repeated_after}
use Rattle.op_check_stmt.proofs.repeated.repeated.Given as goal

abbrev pub invariant-loop-spot : goal.invariant-loop-spot
invariant-loop-spot l = record {
  held : Seen l.last_by_first (take l.spot-index l.labels);
  rest : repeated_after (take l.spot-index l.labels) (drop l.spot-index l.labels) ≡ repeated l.labels;
}
