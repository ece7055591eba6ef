use Rattle.std.proofs.Common.{◌≡◌, drop, fold}
use Rattle.op_constants.specs.Keeping.{with_block, with_instruction}
use Rattle.op_constants.proofs.literals.keep_block.Given as goal

abbrev pub invariant-loop-instruction : goal.invariant-loop-instruction
invariant-loop-instruction l =
    fold (with_instruction l.core l.routine.0) l.texts (drop l.instruction-index l.instruction-items) ≡ with_block l.core l.routine.0 l.fn.texts l.block
