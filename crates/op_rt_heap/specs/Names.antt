-- Words in which the code of the routines is written.
use Rattle.std.specs.Prelude.{ℕ, List}
use Rattle.op_low.specs.declared.code.Block.{Block}
use Rattle.op_low.specs.declared.ids.VirtualRegister.{VirtualRegister}
use Rattle.op_low.specs.declared.instruction.Instruction.{Instruction}
use Rattle.op_rv.specs.declared.symbol.BlockId.{BlockId}
use Rattle.op_rv.specs.declared.symbol.RoutineId.{RoutineId}
use Rattle.op_rv.specs.declared.symbol.Symbol.{Symbol}
use Rattle.op_rv.specs.declared.symbol.Symbol.TheVariants.{Literal}

abbrev pub register : ℕ → VirtualRegister
register n = record { 0 = n }

abbrev pub block_id : ℕ → BlockId
block_id n = record { 0 = n }

abbrev pub routine_id : ℕ → RoutineId
routine_id n = record { 0 = n }

abbrev pub block : List Instruction → Block
block code = record { code = code }

-- the literal with the line of run-time error 203
abbrev pub error_text : Symbol
error_text = Literal (record { 0 = 7 })
