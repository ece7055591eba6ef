-- How a call of a run-time routine runs on the machine of low code.
use Rattle.std.specs.Prelude.{◌≡◌, ◌≢◌, ◌<◌, ◌≤◌, ℕ, ◌+◌, ◌*◌, ◌%◌, ◌^◌, ◌⊎◌, Bool, true, List, [], ◌∷◌, ◌++◌, codes, length, map, replicate, slice_index}
use Rattle.std.specs.List.{concat}
use Rattle.op_low.specs.Machine.{Event, Written, low_machine}
use Rattle.op_low.specs.State.{Bad, Placement, Running, State, values, with_value}
use Rattle.op_low.specs.declared.code.Low.{Low}
use Rattle.op_low.specs.declared.code.Routine.{Routine}
use Rattle.op_low.specs.declared.instruction.Call.{Call as Operands}
use Rattle.op_low.specs.declared.instruction.Instruction.{Instruction}
use Rattle.op_low.specs.declared.instruction.Instruction.TheVariants.{Call}
use Rattle.op_low.specs.declared.instruction.Output.TheVariants.{Console}
use Rattle.op_rt_text.specs.Names.{blanks, false_text, routine_id, true_text}
use Rattle.op_rt_text.specs.Runtime.{runtime_routines}
use Rattle.op_rv.specs.State.{bytes_from, with_bytes}
use Rattle.op_simulation.specs.Path.{Path}

-- ---- what a program with run-time routines has

-- the routines stand in front of all others, and take few bytes of the stack for themselves
pub record HasRuntime (low : Low) (p : Placement) : Type 0 where
  pub others : List Routine
  pub routines : low.routines ≡ runtime_routines ++ others
  pub frames : (r : ℕ) → r < length runtime_routines → p.frame r ≤ 64

-- these bytes stand in memory at an address, below the limit, and may be read
pub record StandsAt (p : Placement) (m : State) (at : ℕ) (bytes : List ℕ) : Type 0 where
  pub readable : (x : ℕ) → at ≤ x → x < at + length bytes → p.rights.readable x ≡ true
  pub below : at + length bytes ≤ m.limit
  pub stands : bytes_from m.memory at (length bytes) ≡ bytes

-- the literals that the routines write
pub record HasTexts (p : Placement) (m : State) : Type 0 where
  pub blanks : StandsAt p m (p.address blanks) (replicate {A = ℕ} 64 32)
  pub truth : StandsAt p m (p.address true_text) (codes "TRUE")
  pub falsehood : StandsAt p m (p.address false_text) (codes "FALSE")

-- the room is at least so many bytes of the stack, which may be read and written
pub record HasRoom (p : Placement) (m : State) (least : ℕ) : Type 0 where
  pub room : least ≤ m.room
  pub words : m.limit + m.room ≤ 2 ^ 32
  pub readable : (x : ℕ) → m.limit ≤ x → x < m.limit + m.room → p.rights.readable x ≡ true
  pub writable : (x : ℕ) → m.limit ≤ x → x < m.limit + m.room → p.rights.writable x ≡ true

-- so many bytes at an address have a right and lie below a limit
pub record Allowed (right : ℕ → Bool) (limit at count : ℕ) : Type 0 where
  pub may : (x : ℕ) → at ≤ x → x < at + count → right x ≡ true
  pub below : at + count ≤ limit

-- so many bytes may be copied, from the first one on: they are bytes, and none is changed before it is copied
pub record Copyable (p : Placement) (m : State) (to from count : ℕ) : Type 0 where
  pub target : Allowed p.rights.writable m.limit to count
  pub source : Allowed p.rights.readable m.limit from count
  pub bytes : (x : ℕ) → from ≤ x → x < from + count → m.memory x < 2 ^ 8
  pub apart : (from + count ≤ to) ⊎ (to ≤ from)

-- so many bytes at an address may be written, by whole words and one at least
pub record Clearable (p : Placement) (m : State) (to count : ℕ) : Type 0 where
  pub target : Allowed p.rights.writable m.limit to count
  pub aligned : to % 4 ≡ 0
  pub whole : count % 4 ≡ 0
  pub some : 0 < count

-- ---- a call

abbrev pub blank_text : ℕ → List ℕ
blank_text n = replicate n 32

-- The next instruction is a call of the run-time routine of this number, which is there, with these words as arguments, and `rest`
-- stands behind it. The stack has room.
pub record Called (low : Low) (p : Placement) (m : State) (number : ℕ) (arguments : List ℕ) (operands : Operands) (rest : List Instruction) : Type 0 where
  pub runtime : HasRuntime low p
  pub running : m.ending ≡ Running
  pub next : m.top.now ≡ Call (routine_id number) operands ∷ rest
  pub passed : values m operands.arguments ≡ arguments
  pub words : (k : ℕ) → slice_index arguments k < 2 ^ 32
  pub room : HasRoom p m 256

-- behind the call: the value that it returned is in its register, and memory and output have become these
abbrev pub behind : State → Operands → List Instruction → (value : ℕ) → (memory : ℕ → ℕ) → (output : List ℕ) → State
behind m operands rest value memory output =
    record m {
      top = with_value operands.to value (record m.top { now = rest });
      memory = memory;
      output = output;
    }

abbrev pub all_written : List (List ℕ) → List Event
all_written pieces = map (Written Console) pieces

-- The call comes to the state behind it after so many steps at most, at that cost and never bad. It writes these bytes, in pieces, and
-- changes nothing else but memory from the limit on.
pub record Writes (low : Low) (p : Placement) (m : State) (operands : Operands) (rest : List Instruction) (bytes : List ℕ) : Type 0 where
  pub value : ℕ
  pub memory : ℕ → ℕ
  pub kept : (x : ℕ) → x < m.limit → memory x ≡ m.memory x
  pub pieces : List (List ℕ)
  pub joined : concat pieces ≡ bytes
  pub steps : ℕ
  pub few : steps ≤ 512 + length bytes
  pub path : Path (low_machine low p) (λ s. s.ending ≢ Bad) m (behind m operands rest value memory (m.output ++ bytes)) steps (all_written pieces) (512 + length bytes)

-- The call comes to the state behind it after so many steps at most, at that cost and never bad. It writes nothing, and below the limit
-- it changes memory alone that so many bytes are copied to.
pub record Copies (low : Low) (p : Placement) (m : State) (operands : Operands) (rest : List Instruction) (to from count : ℕ) : Type 0 where
  pub value : ℕ
  pub memory : ℕ → ℕ
  pub copied : (x : ℕ) → x < m.limit → memory x ≡ with_bytes m.memory to (bytes_from m.memory from count) x
  pub steps : ℕ
  pub few : steps ≤ 192 + 6 * count
  pub path : Path (low_machine low p) (λ s. s.ending ≢ Bad) m (behind m operands rest value memory m.output) steps [] (192 + 6 * count)

-- The call comes to the state behind it after so many steps at most, at that cost and never bad. It writes nothing, and below the limit
-- it changes memory alone at so many bytes, which become zeros.
pub record Clears (low : Low) (p : Placement) (m : State) (operands : Operands) (rest : List Instruction) (to count : ℕ) : Type 0 where
  pub value : ℕ
  pub memory : ℕ → ℕ
  pub cleared : (x : ℕ) → x < m.limit → memory x ≡ with_bytes m.memory to (replicate {A = ℕ} count 0) x
  pub steps : ℕ
  pub few : steps ≤ 192 + 6 * count
  pub path : Path (low_machine low p) (λ s. s.ending ≢ Bad) m (behind m operands rest value memory m.output) steps [] (192 + 6 * count)
