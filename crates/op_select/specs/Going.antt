-- When a state of the instruction machine stands for one of low code.
use Rattle.std.specs.Prelude.{◌≡◌, ◌<◌, ◌≤◌, ℕ, ◌+◌, ◌-◌, ◌*◌, ◌%◌, ◌^◌, true, false, if◌then◌else◌, nat_lt, Option, Some, List, [], ◌∷◌, ◌++◌, length, slice_index}
use Rattle.op_low.specs.State.{Placement, Caller, State as LowState, routine_of}
use Rattle.op_low.specs.Valid.{is_valid}
use Rattle.op_low.specs.declared.code.Low.{Low}
use Rattle.op_low.specs.declared.code.Routine.{Routine}
use Rattle.op_rv.specs.Decoding.{instr_at}
use Rattle.op_rv.specs.State.{Rights, State, Ending, Running, Ended, Faulted, word_at}
use Rattle.op_rv.specs.declared.instruction.Instr.{Instr}
use Rattle.op_select.specs.Frames.{frame_of, home_register, most_homes}
use Rattle.op_select.specs.Placing.{Placing, StandsFrom, StandsObjects}
use Rattle.op_select.specs.Selection.{answered, code_items, select_of}

-- ---- what is settled when a program is placed

pub record Setting : Type 0 where
  pub low : Low
  pub placing : Placing
  pub rights : Rights
  -- the routine that begins at an address
  pub routine_at : ℕ → Option ℕ
  -- the stack lies from one address up to another
  pub bottom : ℕ
  pub top : ℕ

abbrev pub routine_in : Setting → ℕ → Routine
routine_in w r = routine_of w.low r

abbrev pub locals_in : Setting → ℕ → ℕ
locals_in w r = (routine_in w r).locals

abbrev pub frame_in : Setting → ℕ → ℕ
frame_in w r = frame_of (routine_in w r)

-- as low code sees it
abbrev pub placement_of : Setting → Placement
placement_of w =
    record { address = w.placing.address; routine_at = w.routine_at; frame = frame_in w; rights = w.rights }

-- the law of a setting: the selected code stands where it may be executed and not written, and the stack may be used
pub record IsSetting (w : Setting) : Type 0 where
  pub valid : is_valid w.low ≡ true
  -- block numbers have 32 bits
  pub numbered : (r : ℕ) → length (routine_in w r).blocks < 2 ^ 32 - 1
  pub objects : StandsObjects w.placing (select_of w.low)
  pub executable : (at : ℕ) (i : Instr) → w.placing.code at ≡ Some i → (x : ℕ) → at ≤ x → x < at + 4 → w.rights.executable x ≡ true
  pub fixed : (at : ℕ) (i : Instr) → w.placing.code at ≡ Some i → (x : ℕ) → at ≤ x → x < at + 4 → w.rights.writable x ≡ false
  pub readable : (x : ℕ) → w.bottom ≤ x → x < w.top → w.rights.readable x ≡ true
  pub writable : (x : ℕ) → w.bottom ≤ x → x < w.top → w.rights.writable x ≡ true
  pub low_top : w.top < 2 ^ 31
  pub finds : (at r : ℕ) → w.routine_at at ≡ Some r → at ≡ w.placing.head r

-- ---- states

-- the machine goes on, and the code stands in its memory
pub record Sound (w : Setting) (b : State) : Type 0 where
  pub running : b.ending ≡ Running
  pub rights : b.rights ≡ w.rights
  pub size : length b.registers ≡ 32
  pub bytes : (x : ℕ) → b.memory x < 2 ^ 8
  pub code : (at : ℕ) (i : Instr) → w.placing.code at ≡ Some i → instr_at (word_at b.memory at) ≡ Some i

-- where a virtual register is kept in the frame at an address
abbrev pub place_of : Routine → (sp r : ℕ) → ℕ
place_of routine sp r = sp + 4 * (routine.registers - 1 - r)

-- what the homes in registers of the machine have, by the virtual registers that live there
abbrev pub homes_in : State → ℕ → ℕ
homes_in b k = slice_index b.registers (home_register k)

-- what the home of a virtual register has
abbrev pub held : (memory homes : ℕ → ℕ) → Routine → (sp r : ℕ) → ℕ
held memory homes routine sp r = if nat_lt r most_homes then homes r else word_at memory (place_of routine sp r)

-- the registers of an activation with its frame at an address are words, and their homes have them
abbrev pub Holds : (memory homes : ℕ → ℕ) → (sp : ℕ) → Routine → (registers : ℕ → ℕ) → Type 0
Holds memory homes sp routine registers =
    (r : ℕ) → r < routine.registers → (held memory homes routine sp r ≡ registers r) × (registers r < 2 ^ 32)

-- what the caller finds in these homes when a routine with its frame at an address has returned: what was saved there
unfoldable pub restored : Routine → (memory : ℕ → ℕ) → (sp : ℕ) → (homes : ℕ → ℕ) → ℕ → ℕ
restored routine memory sp homes k =
    if nat_lt k routine.registers then word_at memory (place_of routine sp k) else homes k

-- a caller whose frame is at an address, and the homes as it will find them: the word below says where it goes on
pub record Waits (w : Setting) (memory homes : ℕ → ℕ) (sp : ℕ) (c : Caller) : Type 0 where
  pub exists : c.activation.routine < length w.low.routines
  pub keeps : c.to.0 < (routine_in w c.activation.routine).registers
  pub back : StandsFrom w.placing c.activation.routine (word_at memory (sp - 4)) (answered (routine_in w c.activation.routine) c.to c.landing ++ code_items (routine_in w c.activation.routine) c.activation.now)
  pub holds : Holds memory homes sp (routine_in w c.activation.routine) c.activation.registers

-- the callers below an activation of a routine, with this limit, its frame at this address and the homes as they are then
unfoldable pub Below : Setting → (memory homes : ℕ → ℕ) → (r limit sp : ℕ) → List Caller → Type 0
Below w memory homes r limit sp [] = (limit ≡ w.bottom + locals_in w r) × (sp + frame_in w r ≡ w.top)
Below w memory homes r limit sp (c ∷ cs) =
    (w.bottom + locals_in w r ≤ limit)
    × Waits w memory (restored (routine_in w r) memory sp homes) (sp + frame_in w r) c
    × Below w memory (restored (routine_in w r) memory sp homes) c.activation.routine (limit - locals_in w r) (sp + frame_in w r) cs

-- all but where the code goes on
pub record Stays (w : Setting) (m : LowState) (b : State) : Type 0 where
  pub sound : Sound w b
  pub memory : (x : ℕ) → x < m.limit → b.memory x ≡ m.memory x
  pub input : b.input ≡ m.input
  pub input_bytes : (k : ℕ) → slice_index m.input k < 2 ^ 8
  pub output : b.output ≡ m.output
  pub errors : b.errors ≡ m.errors
  pub limit : slice_index b.registers 8 ≡ m.limit
  pub sp : slice_index b.registers 2 ≡ m.limit + m.room
  pub limit_aligned : m.limit % 4 ≡ 0
  pub sp_aligned : (m.limit + m.room) % 4 ≡ 0
  pub holds : Holds b.memory (homes_in b) (m.limit + m.room) (routine_in w m.top.routine) m.top.registers
  pub below : Below w b.memory (homes_in b) m.top.routine m.limit (m.limit + m.room) m.callers

-- a state that stands for one of low code that goes on
pub record Goes (w : Setting) (m : LowState) (b : State) : Type 0 where
  pub stays : Stays w m b
  pub ready : StandsFrom w.placing m.top.routine b.pc (code_items (routine_in w m.top.routine) m.top.now)

-- the machine has not faulted
unfoldable pub IsSafe : Ending → Type 0
IsSafe Running = Unit {0}
IsSafe (Ended status) = Unit {0}
IsSafe (Faulted kind pc) = ⊥
