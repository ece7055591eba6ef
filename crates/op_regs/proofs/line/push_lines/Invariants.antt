use Rattle.std.proofs.Common.{◌≡◌, ◌++◌, drop, map}
use Rattle.op_regs.specs.Lines.{line_of}
use Rattle.op_regs.proofs.line.push_lines.Given as goal

-- with those that are left they are the whole
abbrev pub invariant-loop-instruction : goal.invariant-loop-instruction
invariant-loop-instruction l = l.lines.items ++ map (line_of l.starts l.register) (drop l.instruction-index l.code) ≡ l.fn.lines.items ++ map (line_of l.fn.starts l.fn.register) l.fn.code
