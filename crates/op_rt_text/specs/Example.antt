-- Programs that call a run-time routine and end, and the state in which they end.
use Rattle.std.specs.Prelude.{ℕ, suc, true, None, List, [], ◌∷◌, ◌++◌, codes, nat_eq, if◌then◌else◌}
use Rattle.op_low.specs.Machine.{low_machine, start}
use Rattle.op_low.specs.State.{Placement, State}
use Rattle.op_low.specs.declared.code.Low.{Low}
use Rattle.op_low.specs.declared.code.Routine.{Routine}
use Rattle.op_low.specs.declared.ids.VirtualRegister.{VirtualRegister}
use Rattle.op_low.specs.declared.instruction.Instruction.{Instruction}
use Rattle.op_low.specs.declared.instruction.Instruction.TheVariants.{Const, Exit}
use Rattle.op_rt_text.specs.Names.{block, call, register, routine_id}
use Rattle.op_rt_text.specs.Runtime.{runtime_routines}
use Rattle.op_rv.specs.State.{with_bytes}
use Rattle.op_rv.specs.declared.symbol.Symbol.{Symbol}
use Rattle.op_rv.specs.declared.symbol.Symbol.TheVariants.{Literal}
use Rattle.op_simulation.specs.System.{run}

-- words into registers, from the number k on
abbrev sets : ℕ → List ℕ → List Instruction
sets k [] = []
sets k (word ∷ words) = Const (register k) word ∷ sets (suc k) words

abbrev registers_of : ℕ → List ℕ → List VirtualRegister
registers_of k [] = []
registers_of k (word ∷ words) = register k ∷ registers_of (suc k) words

-- calls the routine of this number with these words
abbrev entry : ℕ → List ℕ → Routine
entry number words =
    record {
      parameters = 0;
      registers = 4;
      locals = 16;
      blocks = block (sets 0 words ++ (call number (registers_of 0 words) (register 3) ∷ Exit (register 3) ∷ [])) ∷ [];
    }

abbrev calling : ℕ → List ℕ → Low
calling number words =
    record {
      routines = runtime_routines ++ (entry number words ∷ []);
      entry = routine_id 9;
      counts = record { literals = 3; tables = 0; descriptors = 0 };
      globals = [];
    }

-- the literals stand one behind the other from address 0 on
abbrev address_of : Symbol → ℕ
address_of (Literal id) = if nat_eq id.0 0 then 0 else (if nat_eq id.0 1 then 64 else 68)
address_of _ = 0

abbrev anywhere : Placement
anywhere =
    record {
      address = address_of;
      routine_at = λ _. None;
      frame = λ _. 32;
      rights = record { readable = λ _. true; writable = λ _. true; executable = λ _. true };
    }

abbrev literals : ℕ → ℕ
literals = with_bytes (λ _. 32) 64 (codes "TRUE" ++ codes "FALSE")

-- the program has its locals at 4,096
abbrev pub ended_call : ℕ → List ℕ → State
ended_call number words =
    run (low_machine (calling number words) anywhere) 200 (start (calling number words) anywhere 4096 1024 literals [])
