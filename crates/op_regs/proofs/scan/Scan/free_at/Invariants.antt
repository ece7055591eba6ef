use Rattle.std.proofs.Common.{◌≡◌, ◌<◌, ℕ, false}
use Rattle.op_regs.specs.Scanning.{is_free}
use Rattle.op_regs.proofs.scan.Scan.free_at.Given as goal

abbrev pub invariant-loop-number : goal.invariant-loop-number
invariant-loop-number l = (k : ℕ) → k < l.number → is_free l.self k l.position ≡ false
