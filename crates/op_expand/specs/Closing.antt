-- The closing of a program: a routine of low code that does the finalization parts that are due, the last one first, and ends the program
-- with a status. Where the routine is called again, from a part that it does, it goes on there with the parts that are still due, so each is done once.
-- (Free Pascal Reference Guide, "Units"; reference of the unit System, "Halt".)
use Rattle.std.specs.Prelude.{ℕ, zero, suc, ◌+◌, ◌%◌, ◌^◌, pos, List, [], ◌∷◌, ◌++◌, length, if◌then◌else◌}
use Rattle.op_core.specs.declared.ids.RoutineId.{RoutineId}
use Rattle.op_core.specs.declared.program.Core.{Core}
use Rattle.op_expand.specs.Calls.{charge_of, due_word, finalizations, has_closing, left, runtime}
use Rattle.op_expand.specs.Routines.{error_block, routine_with}
use Rattle.op_low.specs.declared.code.Block.{Block}
use Rattle.op_low.specs.declared.code.Routine.{Routine}
use Rattle.op_low.specs.declared.ids.VirtualRegister.{VirtualRegister}
use Rattle.op_low.specs.declared.instruction.Instruction.{Instruction}
use Rattle.op_low.specs.declared.instruction.Instruction.TheVariants.{Address, Alu, Branch, Const, Exit, Jump, Load, Store}
use Rattle.op_mir.specs.declared.code.Mir.{Mir}
use Rattle.op_rt_text.specs.Names.{block_id, call, register}
use Rattle.op_rv.specs.declared.instruction.AluOp.TheVariants.{Sub}
use Rattle.op_rv.specs.declared.instruction.BranchOp.TheVariants.{Beq, Bltu}
use Rattle.op_rv.specs.declared.instruction.LoadOp.TheVariants.{Lw}
use Rattle.op_rv.specs.declared.instruction.StoreOp.TheVariants.{Sw}

-- the status; what is left of the stack stands where every routine has it
abbrev pub status : VirtualRegister
status = register 1

-- the word that counts the parts that are due, and its address
abbrev pub due : VirtualRegister
due = register 2

abbrev pub number : VirtualRegister
number = register 3

-- what the word is where so many are due
abbrev pub due_for : (stack parts : ℕ) → ℕ
due_for stack parts = (stack + parts) % 2 ^ 32

-- to the block of the last part that is due, which has the number of the parts up to it; to the end where none is
abbrev pub find_code : (stack parts : ℕ) → List Instruction
find_code stack zero = Exit status ∷ []
find_code stack (suc n) = Const number (due_for stack (suc n)) ∷ Branch Beq due number (block_id (suc n)) ∷ find_code stack n

abbrev pub finding_code : Core → (stack parts : ℕ) → List Instruction
finding_code core stack parts = Address due (due_word core) ∷ Load Lw due due (pos 0) ∷ find_code stack parts

-- the word gets another value
abbrev pub count_code : Core → (count : ℕ) → List Instruction
count_code core count = Address due (due_word core) ∷ Const number count ∷ Store Sw number due (pos 0) ∷ []

-- So many parts are due in front of this one, which is due no more. The stack is charged for it, with error 202 behind all parts, and it is done.
abbrev pub part_code : Core → Mir → (stack parts before : ℕ) → RoutineId → List Instruction
part_code core mir stack parts before f =
    count_code core (due_for stack before)
    ++ Const number (charge_of mir f.0)
    ∷ Branch Bltu left number (block_id (parts + 1))
    ∷ Alu Sub number left number
    ∷ call (runtime + f.0) (number ∷ left ∷ []) number
    ∷ Jump (block_id 0)
    ∷ []

abbrev pub part_blocks : Core → Mir → (stack parts before : ℕ) → List RoutineId → List Block
part_blocks core mir stack parts before [] = []
part_blocks core mir stack parts before (f ∷ fs) = record { code = part_code core mir stack parts before f } ∷ part_blocks core mir stack parts (before + 1) fs

abbrev pub closing_blocks : Core → Mir → (stack : ℕ) → List RoutineId → List Block
closing_blocks core mir stack fs = record { code = finding_code core stack (length fs) } ∷ part_blocks core mir stack (length fs) 0 fs ++ error_block 202 5 ∷ []

abbrev pub closing_routine : Core → Mir → (stack : ℕ) → Routine
closing_routine core mir stack = routine_with 2 0 (closing_blocks core mir stack (finalizations core))

-- a program without finalization parts has none
abbrev pub closing_routines : Core → Mir → (stack : ℕ) → List Routine
closing_routines core mir stack = if has_closing core then closing_routine core mir stack ∷ [] else []
