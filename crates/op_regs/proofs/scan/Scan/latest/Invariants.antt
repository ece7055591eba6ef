use Rattle.std.proofs.Common.{◌<◌}
use Rattle.op_regs.specs.Liveness.{most}
use Rattle.op_regs.proofs.scan.Scan.latest.Given as goal

abbrev pub invariant-loop-number : goal.invariant-loop-number
invariant-loop-number l = l.latest < most
