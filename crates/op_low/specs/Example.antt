-- An example: a call that returns or raises through two routines, and how it runs.
use Rattle.std.specs.Prelude.{ℕ, true, Some, None, List, [], ◌∷◌}
use Rattle.op_low.specs.State.{Placement}
use Rattle.op_low.specs.declared.code.Block.{Block}
use Rattle.op_low.specs.declared.code.Low.{Low}
use Rattle.op_low.specs.declared.code.Routine.{Routine}
use Rattle.op_rv.specs.declared.symbol.BlockId.{BlockId}
use Rattle.op_rv.specs.declared.symbol.RoutineId.{RoutineId}
use Rattle.op_low.specs.declared.ids.VirtualRegister.{VirtualRegister}
use Rattle.op_low.specs.declared.instruction.Instruction.{Instruction}
use Rattle.op_low.specs.declared.instruction.Instruction.TheVariants.{Const, Alu, Call, Branch, Return, Raise, Exit}
use Rattle.op_rv.specs.declared.instruction.AluOp.TheVariants.{Add}
use Rattle.op_rv.specs.declared.instruction.BranchOp.TheVariants.{Bltu}

abbrev register : ℕ → VirtualRegister
register n = record { 0 = n }

abbrev routine_id : ℕ → RoutineId
routine_id n = record { 0 = n }

abbrev block_id : ℕ → BlockId
block_id n = record { 0 = n }

abbrev block : List Instruction → Block
block code = record { code = code }

-- ends with what routine 1 makes of n, or with 7 where that raises
abbrev entry : ℕ → Routine
entry n =
    record {
      parameters = 0;
      registers = 2;
      locals = 8;
      blocks =
          block (Const (register 0) n
          ∷ Call (routine_id 1) (record { arguments = register 0 ∷ []; to = register 1; landing = Some (block_id 1) })
          ∷ Exit (register 1)
          ∷ [])
          ∷ block (Const (register 1) 7 ∷ Exit (register 1) ∷ [])
          ∷ [];
    }

-- what routine 2 makes of its parameter
abbrev passes_on : Routine
passes_on =
    record {
      parameters = 1;
      registers = 1;
      locals = 4;
      blocks =
          block (Call (routine_id 2) (record { arguments = register 0 ∷ []; to = register 0; landing = None })
          ∷ Return (register 0)
          ∷ [])
          ∷ [];
    }

-- 10 more, or a raise where that is 20 and more
abbrev adds_ten : Routine
adds_ten =
    record {
      parameters = 1;
      registers = 2;
      locals = 0;
      blocks =
          block (Const (register 1) 10 ∷ Branch Bltu (register 0) (register 1) (block_id 1) ∷ Raise ∷ [])
          ∷ block (Alu Add (register 0) (register 0) (register 1) ∷ Return (register 0) ∷ [])
          ∷ [];
    }

abbrev pub example : ℕ → Low
example n =
    record {
      routines = entry n ∷ passes_on ∷ adds_ten ∷ [];
      entry = routine_id 0;
      counts = record { literals = 0; tables = 0; descriptors = 0 };
      globals = [];
    }

-- all of memory may be used, and each routine takes 32 bytes of the stack
abbrev pub anywhere : Placement
anywhere =
    record {
      address = λ _. 0;
      routine_at = λ _. None;
      frame = λ _. 32;
      rights = record { readable = λ _. true; writable = λ _. true; executable = λ _. true };
    }
