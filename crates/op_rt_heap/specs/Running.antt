-- What calls of the routines of the heap do on the machine of low code.
use Rattle.std.specs.Prelude.{◌≡◌, ◌≢◌, ◌<◌, ◌≤◌, ℕ, ◌+◌, ◌*◌, ◌^◌, true, List, ◌∷◌, [], ◌++◌, length}
use Rattle.op_heap.specs.Demands.{first_heap}
use Rattle.op_heap.specs.Frames.{IsBesideSlot, IsNoLink}
use Rattle.op_heap.specs.Heap.{Block, Heap, IsElsewhere, IsInside, heap_address, holes, with_block, without_block}
use Rattle.op_heap.specs.Memory.{HasBounds, HeapLies, SlotsLie, control_address, control_bytes, row_of}
use Rattle.op_heap.specs.Slots.{freed, issued, last_generation, word_of}
use Rattle.op_low.specs.Machine.{Written, low_machine}
use Rattle.op_low.specs.State.{Bad, Ended, Placement, Running, State, routine_of, values, with_value}
use Rattle.op_low.specs.declared.code.Low.{Low}
use Rattle.op_low.specs.declared.code.Routine.{Routine}
use Rattle.op_low.specs.declared.instruction.Call.{Call as Operands}
use Rattle.op_low.specs.declared.instruction.Instruction.{Instruction}
use Rattle.op_low.specs.declared.instruction.Instruction.TheVariants.{Call}
use Rattle.op_low.specs.declared.instruction.Output.TheVariants.{Errors}
use Rattle.op_rt_heap.specs.Names.{error_text, routine_id}
use Rattle.op_rv.specs.State.{bytes_from, word_at}
use Rattle.op_simulation.specs.Path.{Path}

-- ---- what a call finds

-- so many bytes at an address may be read and written, and lie below the limit
pub record IsOpen (p : Placement) (m : State) (at count : ℕ) : Type 0 where
  pub readable : (x : ℕ) → at ≤ x → x < at + count → p.rights.readable x ≡ true
  pub writable : (x : ℕ) → at ≤ x → x < at + count → p.rights.writable x ≡ true
  pub below : at + count ≤ m.limit

-- the first words of the control region, and a heap of so many bytes
pub record HasHeap (p : Placement) (m : State) (bytes : ℕ) : Type 0 where
  pub control : IsOpen p m control_address 32
  pub heap : IsOpen p m heap_address bytes
  pub small : bytes ≤ 0x10000000

-- the whole control region
abbrev pub HasControl : Placement → State → Type 0
HasControl p m = IsOpen p m control_address control_bytes

-- the line of run-time error 203 stands in memory
pub record HasErrorText (p : Placement) (m : State) (bytes : List ℕ) : Type 0 where
  pub size : length bytes ≡ 18
  pub readable : (x : ℕ) → p.address error_text ≤ x → x < p.address error_text + 18 → p.rights.readable x ≡ true
  pub below : p.address error_text + 18 ≤ m.limit
  pub stands : bytes_from m.memory (p.address error_text) 18 ≡ bytes

-- The next instruction is a call of a routine with this code, with these words as arguments, and `rest` stands behind it. The stack has room.
pub record IsCalled (low : Low) (p : Placement) (m : State) (r : ℕ) (routine : Routine) (arguments : List ℕ) (operands : Operands) (rest : List Instruction) : Type 0 where
  pub exists : r < length low.routines
  pub is : routine_of low r ≡ routine
  pub frame : p.frame r ≤ 64
  pub running : m.ending ≡ Running
  pub next : m.top.now ≡ Call (routine_id r) operands ∷ rest
  pub passed : values m operands.arguments ≡ arguments
  pub room : 64 ≤ m.room
  pub words : m.limit ≤ 2 ^ 32

-- ---- how a call goes

-- behind the call: the value that it gives is in its register, and memory has become this
abbrev pub behind : State → Operands → List Instruction → (value : ℕ) → (memory : ℕ → ℕ) → State
behind m operands rest value memory =
    record m { top = with_value operands.to value (record m.top { now = rest }); memory = memory }

-- the call comes to the state behind it after so many steps at most, at that cost and never bad, and shows nothing
pub record Comes (low : Low) (p : Placement) (m : State) (operands : Operands) (rest : List Instruction) (value : ℕ) (memory : ℕ → ℕ) (most : ℕ) : Type 0 where
  pub steps : ℕ
  pub few : steps ≤ most
  pub path : Path (low_machine low p) (λ s. s.ending ≢ Bad) m (behind m operands rest value memory) steps [] most

-- the program ends with run-time error 203 after so many steps at most, and memory is as it was
pub record Fails (low : Low) (p : Placement) (m : State) (line : List ℕ) (most : ℕ) : Type 0 where
  pub to : State
  pub ended : to.ending ≡ Ended 203
  pub memory : (x : ℕ) → to.memory x ≡ m.memory x
  pub input : to.input ≡ m.input
  pub output : to.output ≡ m.output
  pub errors : to.errors ≡ m.errors ++ line
  pub steps : ℕ
  pub few : steps ≤ most
  pub path : Path (low_machine low p) (λ s. s.ending ≢ Bad) m to steps (Written Errors line ∷ []) most

-- bytes are bytes still
abbrev pub KeepsBytes : (before after : ℕ → ℕ) → Type 0
KeepsBytes before after = (x : ℕ) → before x < 2 ^ 8 → after x < 2 ^ 8

-- the bound of a call that goes along holes
abbrev pub along : Heap → ℕ
along h = 96 + 6 * length (holes h)

-- ---- blocks

-- The block is placed and the call gives its address. Memory has the heap with it, all other blocks as they were, and nothing else that is
-- different but the word that links the first hole.
pub record TakesBlock (low : Low) (p : Placement) (m : State) (operands : Operands) (rest : List Instruction) (kinds : ℕ → ℕ) (h : Heap) (b : Block) : Type 0 where
  pub memory : ℕ → ℕ
  pub lies : HeapLies kinds memory (with_block h b)
  pub blocks : (x : ℕ) → IsInside h.blocks x → memory x ≡ m.memory x
  pub elsewhere : (x : ℕ) → IsNoLink x → IsElsewhere h x → memory x ≡ m.memory x
  pub slots : SlotsLie m.memory h → SlotsLie memory (with_block h b)
  pub bytes : KeepsBytes m.memory memory
  pub comes : Comes low p m operands rest b.address memory (along h)

-- The block of the name is given up. Memory has the heap without it, all other blocks as they were, and nothing else that is different but the
-- word that links the first hole.
pub record GivesBlock (low : Low) (p : Placement) (m : State) (operands : Operands) (rest : List Instruction) (kinds : ℕ → ℕ) (h : Heap) (b : Block) : Type 0 where
  pub memory : ℕ → ℕ
  pub lies : HeapLies kinds memory (without_block h b.name)
  pub blocks : (x : ℕ) → IsInside (without_block h b.name).blocks x → memory x ≡ m.memory x
  pub elsewhere : (x : ℕ) → IsNoLink x → IsElsewhere h x → memory x ≡ m.memory x
  pub slots : SlotsLie m.memory h → SlotsLie memory (without_block h b.name)
  pub bytes : KeepsBytes m.memory memory
  pub comes : Comes low p m operands rest 0 memory (along h)

-- ---- the beginning

-- the control region has not been written
abbrev pub IsClear : (ℕ → ℕ) → Type 0
IsClear memory = (x : ℕ) → control_address ≤ x → x < control_address + control_bytes → memory x ≡ 0

-- Memory has the heap with which a program begins and its slots, tells the bytes of heap and stack, and has nothing else that is different.
pub record Starts (low : Low) (p : Placement) (m : State) (operands : Operands) (rest : List Instruction) (heap stack : ℕ) : Type 0 where
  pub memory : ℕ → ℕ
  pub lies : (kinds : ℕ → ℕ) → HeapLies kinds memory (first_heap heap)
  pub slots : IsClear m.memory → SlotsLie memory (first_heap heap)
  pub bounds : HasBounds memory heap stack
  pub kept : (x : ℕ) → (control_address ≤ x → x < control_address + 20 → ⊥) → (heap_address ≤ x → x < heap_address + 8 → ⊥) → memory x ≡ m.memory x
  pub bytes : KeepsBytes m.memory memory
  pub comes : Comes low p m operands rest 0 memory 96

-- ---- slots

-- a slot is there to be issued, and memory is as it was
pub record HasNext (low : Low) (p : Placement) (m : State) (operands : Operands) (rest : List Instruction) : Type 0 where
  pub memory : ℕ → ℕ
  pub kept : (x : ℕ) → memory x ≡ m.memory x
  pub comes : Comes low p m operands rest 0 memory 96

-- The slot is issued, its row leads to the block, and the call gives its word. Nothing else is different but the words that tell which slot is next.
pub record Issues (low : Low) (p : Placement) (m : State) (operands : Operands) (rest : List Instruction) (h : Heap) (slot address : ℕ) : Type 0 where
  pub memory : ℕ → ℕ
  pub lie : SlotsLie memory (issued h slot)
  pub leads : word_at memory (row_of slot) ≡ address
  pub kept : (x : ℕ) → IsBesideSlot slot x → memory x ≡ m.memory x
  pub heap : (kinds : ℕ → ℕ) → HeapLies kinds m.memory h → HeapLies kinds memory (issued h slot)
  pub bytes : KeepsBytes m.memory memory
  pub comes : Comes low p m operands rest (word_of (h.generation slot + 1) slot) memory 96

-- The slot is given back. Its row has the address of no block; where it is retired that is 0, and its generation stays the last one. Nothing else is
-- different but the word that tells which slot is next.
pub record Frees (low : Low) (p : Placement) (m : State) (operands : Operands) (rest : List Instruction) (h : Heap) (slot : ℕ) : Type 0 where
  pub memory : ℕ → ℕ
  pub lie : SlotsLie memory (freed h slot)
  pub leads : word_at memory (row_of slot) < 65536
  pub retires : h.generation slot ≡ last_generation → (word_at memory (row_of slot) ≡ 0) × (word_at memory (row_of slot + 4) ≡ last_generation)
  pub kept : (x : ℕ) → IsBesideSlot slot x → memory x ≡ m.memory x
  pub heap : (kinds : ℕ → ℕ) → HeapLies kinds m.memory h → HeapLies kinds memory (freed h slot)
  pub bytes : KeepsBytes m.memory memory
  pub comes : Comes low p m operands rest 0 memory 96
