use Rattle.std.proofs.Common.{◌≡◌, ◌++◌, drop}
use Rattle.op_regs.specs.Lines.{lines_of}
use Rattle.op_regs.proofs.line.lines_of.Given as goal

-- with those that are left they are the whole
abbrev pub invariant-loop-block : goal.invariant-loop-block
invariant-loop-block l = l.lines.items ++ lines_of l.starts l.register (drop l.block-index l.blocks) ≡ lines_of l.fn.starts l.fn.register l.fn.blocks
