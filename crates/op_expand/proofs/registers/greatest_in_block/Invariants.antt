use Rattle.std.proofs.Common.{◌≡◌, take}
use Rattle.std.specs.List.{fold}
use Rattle.op_expand.specs.Registers.{with_instruction}
use Rattle.op_expand.proofs.registers.greatest_in_block.Given as goal

abbrev pub invariant-loop-instruction : goal.invariant-loop-instruction
invariant-loop-instruction l =
    l.most ≡ fold with_instruction l.first (take l.instruction-index l.instruction-items)
