use Rattle.op_regs.specs.Scanning.{IsFirstBelow}
use Rattle.op_regs.proofs.scan.Scan.first.Given as goal

abbrev pub invariant-loop-register : goal.invariant-loop-register
invariant-loop-register l = IsFirstBelow l.self l.register l.first
