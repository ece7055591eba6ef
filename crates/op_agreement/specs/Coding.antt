-- The low code of one instruction, and what stands in front of a block.
use Rattle.std.specs.Prelude.{ℕ, zero, suc, List, []}
use Rattle.op_constants.specs.Literals.{literals_of}
use Rattle.op_core.specs.declared.program.Core.{Core}
use Rattle.op_expand.specs.Routines.{instruction_code, beginning}
use Rattle.op_places.specs.declared.frame.Frame.{Frame}
use Rattle.op_low.specs.declared.instruction.Instruction.{Instruction as LowInstruction}
use Rattle.op_mir.specs.declared.code.Mir.{Mir}
use Rattle.op_mir.specs.declared.instruction.Instruction.{Instruction}

unfoldable pub code_for : Core → Mir → Frame → Instruction → List LowInstruction
code_for core mir frame i = instruction_code core mir frame (literals_of core mir) i

-- what stands in front of the block of a number
abbrev pub front_of : Core → Frame → (r block : ℕ) → List LowInstruction
front_of core frame r zero = beginning core frame r
front_of core frame r (suc k) = []
