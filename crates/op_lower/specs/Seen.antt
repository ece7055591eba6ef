-- Managed code as its machine sees it, while it is made.
use Rattle.std.specs.Prelude.{ℕ, List, map}
use Rattle.op_core.specs.declared.program.Core.{Core}
use Rattle.op_mir.specs.Code.{Instr}
use Rattle.op_mir.specs.View.{view_instruction, view_block}
use Rattle.op_mir.specs.declared.code.Block.{Block}
use Rattle.op_mir.specs.declared.instruction.Instruction.{Instruction}

abbrev pub seen : Core → ℕ → List Instruction → List Instr
seen core r code = map (view_instruction core r) code

abbrev pub seen_blocks : Core → ℕ → List Block → List (List Instr)
seen_blocks core r blocks = map (view_block core r) blocks
