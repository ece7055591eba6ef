-- All routines; and a program that takes three blocks and gives back two, with the state in which it ends.
use Rattle.std.specs.Prelude.{ℕ, true, None, List, [], ◌∷◌}
use Rattle.op_low.specs.Machine.{low_machine, start}
use Rattle.op_low.specs.State.{Placement, State}
use Rattle.op_low.specs.declared.code.Low.{Low}
use Rattle.op_low.specs.declared.code.Routine.{Routine}
use Rattle.op_low.specs.declared.ids.VirtualRegister.{VirtualRegister}
use Rattle.op_low.specs.declared.instruction.Instruction.{Instruction}
use Rattle.op_low.specs.declared.instruction.Instruction.TheVariants.{Call, Const, Exit, Shift}
use Rattle.op_rt_heap.specs.Give.{give_block}
use Rattle.op_rt_heap.specs.Names.{block, register, routine_id}
use Rattle.op_rt_heap.specs.Slots.{free_slot, issue_slot, test_slot}
use Rattle.op_rt_heap.specs.Start.{start_heap}
use Rattle.op_rt_heap.specs.Take.{take_block}
use Rattle.op_rv.specs.declared.instruction.ShiftOp.TheVariants.{Srli}
use Rattle.op_simulation.specs.System.{run}

abbrev pub routines : List Routine
routines = start_heap ∷ take_block ∷ give_block ∷ test_slot ∷ issue_slot ∷ free_slot ∷ []

abbrev call : ℕ → List VirtualRegister → ℕ → Instruction
call routine arguments to = Call (routine_id routine) (record { arguments = arguments; to = register to; landing = None })

-- 1,024 bytes; blocks of 48, 32 and 64 bytes; the first two are given back, and 80 bytes fit where they were
abbrev entry : (last : ℕ) → Routine
entry last =
    record {
      parameters = 0;
      registers = 8;
      locals = 0;
      blocks =
          block (Const (register 0) 1024 ∷ Const (register 1) 16384
          ∷ call 1 (register 0 ∷ register 1 ∷ []) 7
          ∷ Const (register 2) 49 ∷ call 2 (register 2 ∷ []) 2
          ∷ Const (register 3) 33 ∷ call 2 (register 3 ∷ []) 3
          ∷ Const (register 4) 66 ∷ call 2 (register 4 ∷ []) 4
          ∷ call 3 (register 2 ∷ []) 7
          ∷ call 3 (register 3 ∷ []) 7
          ∷ Const (register 5) last ∷ call 2 (register 5 ∷ []) 5
          ∷ Shift Srli (register 5) (register 5) 4
          ∷ Exit (register 5)
          ∷ [])
          ∷ [];
    }

abbrev calling : ℕ → Low
calling last =
    record {
      routines = entry last ∷ routines;
      entry = routine_id 0;
      counts = record { literals = 8; tables = 0; descriptors = 0 };
      globals = [];
    }

abbrev anywhere : Placement
anywhere =
    record {
      address = λ _. 64;
      routine_at = λ _. None;
      frame = λ _. 40;
      rights = record { readable = λ _. true; writable = λ _. true; executable = λ _. true };
    }

abbrev pub ended : ℕ → State
ended last = run (low_machine (calling last) anywhere) 250 (start (calling last) anywhere 1879000000 1024 (λ _. 0) [])
