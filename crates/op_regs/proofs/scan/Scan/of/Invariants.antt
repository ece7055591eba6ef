use Rattle.std.proofs.Common.{◌≡◌}
use Rattle.op_regs.specs.Scanning.{IsFair, count_left}
use Rattle.op_regs.proofs.scan.Scan.of.Given as goal

abbrev pub invariant-loop-next : goal.invariant-loop-next
invariant-loop-next l = record {
  same : l.scan.spans.items ≡ l.fn.spans.items;
  fair : IsFair l.scan;
}

abbrev pub decreases-loop-next : goal.decreases-loop-next
decreases-loop-next l = count_left l.scan.homes.items
