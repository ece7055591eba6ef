use Rattle.std.proofs.Common.{◌≡◌, ◌++◌, drop}
use Rattle.op_regs.specs.Lines.{starts_from}
use Rattle.op_regs.proofs.line.starts_of.Given as goal

-- with those that are left they are the whole
abbrev pub invariant-loop-block : goal.invariant-loop-block
invariant-loop-block l = l.starts.items ++ starts_from l.position (drop l.block-index l.blocks) ≡ starts_from 0 l.fn.blocks
