use Rattle.std.proofs.Common.{◌≡◌, ◌++◌, drop}
use Rattle.op_expand.specs.Routines.{code_of}
use Rattle.op_expand.proofs.block.push_code.Given as goal

-- the instructions that are left give the rest
abbrev pub invariant-loop-instruction : goal.invariant-loop-instruction
invariant-loop-instruction l =
    l.code.items ++ code_of l.core l.mir l.frame l.literals (drop l.instruction-index l.instructions)
    ≡ l.fn.code.items ++ code_of l.core l.mir l.frame l.literals l.instructions
