-- What is proved of calls of the routines: each makes of the heap that memory has the one that is meant.
use Rattle.std.specs.Prelude.{◌≡◌, ◌<◌, ◌≤◌, ℕ, ◌+◌, ◌%◌, ◌^◌, Some, None, List, [], ◌∷◌}
use Rattle.op_heap.specs.Heap.{Block, Heap, block_named, place}
use Rattle.op_heap.specs.Memory.{HeapLies, SlotsLie}
use Rattle.op_heap.specs.Slots.{Lacks, next_slot}
use Rattle.op_low.specs.State.{Placement, State}
use Rattle.op_low.specs.declared.code.Low.{Low}
use Rattle.op_low.specs.declared.instruction.Call.{Call as Operands}
use Rattle.op_low.specs.declared.instruction.Instruction.{Instruction}
use Rattle.op_rt_heap.specs.Give.{give_block}
use Rattle.op_rt_heap.specs.Running.{Fails, Frees, GivesBlock, HasControl, HasErrorText, HasHeap, HasNext, IsCalled, Issues, Starts, TakesBlock, along}
use Rattle.op_rt_heap.specs.Slots.{free_slot, issue_slot, test_slot}
use Rattle.op_rt_heap.specs.Start.{start_heap}
use Rattle.op_rt_heap.specs.Take.{take_block}

-- a block that may be asked for: its size, and its size and kind in one word
pub record IsAsked (size kind : ℕ) : Type 0 where
  pub some : 16 ≤ size
  pub whole : size % 16 ≡ 0
  pub few : kind < 16
  pub word : size + kind < 2 ^ 32

-- the routine that makes the heap
abbrev pub HeapBegins : Type 0
HeapBegins = (low : Low) (p : Placement) (m : State) (r : ℕ) (operands : Operands) (rest : List Instruction) (bytes stack : ℕ) → HasHeap p m bytes → IsCalled low p m r start_heap (bytes ∷ stack ∷ []) operands rest → 16 ≤ bytes → bytes % 16 ≡ 0 → stack < 2 ^ 32 → Starts low p m operands rest bytes stack

module _ (low : Low) (p : Placement) (m : State) (r : ℕ) (operands : Operands) (rest : List Instruction) (kinds : ℕ → ℕ) (h : Heap) where
  -- the routine that takes a block: it goes to the front of the first hole that is large enough
  abbrev pub BlockIsTaken : Type 0
  BlockIsTaken = (b : Block) → HasHeap p m h.bytes → HeapLies kinds m.memory h → IsCalled low p m r take_block ((b.size + kinds b.name) ∷ []) operands rest → IsAsked b.size (kinds b.name) → place h b.size ≡ Some b.address → TakesBlock low p m operands rest kinds h b

  -- and where none is, the program ends
  abbrev pub BlockIsRefused : Type 0
  BlockIsRefused = (size kind : ℕ) (line : List ℕ) → HasHeap p m h.bytes → HeapLies kinds m.memory h → IsCalled low p m r take_block ((size + kind) ∷ []) operands rest → IsAsked size kind → HasErrorText p m line → place h size ≡ None → Fails low p m line (along h)

  -- the routine that gives a block back
  abbrev pub BlockIsGiven : Type 0
  BlockIsGiven = (b : Block) → HasHeap p m h.bytes → HeapLies kinds m.memory h → IsCalled low p m r give_block (b.address ∷ []) operands rest → block_named b.name h.blocks ≡ Some b → GivesBlock low p m operands rest kinds h b

module _ (low : Low) (p : Placement) (m : State) (r : ℕ) (operands : Operands) (rest : List Instruction) (h : Heap) where
  -- the routine that tests for a slot
  abbrev pub SlotIsFound : Type 0
  SlotIsFound = (s : ℕ) → HasControl p m → SlotsLie m.memory h → IsCalled low p m r test_slot [] operands rest → next_slot h.free h.unused ≡ Some s → HasNext low p m operands rest

  -- and where none is left, the program ends
  abbrev pub SlotIsRefused : Type 0
  SlotIsRefused = (line : List ℕ) → HasControl p m → SlotsLie m.memory h → IsCalled low p m r test_slot [] operands rest → HasErrorText p m line → next_slot h.free h.unused ≡ None → Fails low p m line 96

  -- the routine that issues a slot
  abbrev pub SlotIsIssued : Type 0
  SlotIsIssued = (s address : ℕ) → HasControl p m → SlotsLie m.memory h → IsCalled low p m r issue_slot (address ∷ []) operands rest → address < 2 ^ 32 → next_slot h.free h.unused ≡ Some s → Issues low p m operands rest h s address

  -- the routine that gives a slot back
  abbrev pub SlotIsFreed : Type 0
  SlotIsFreed = (s : ℕ) → HasControl p m → SlotsLie m.memory h → IsCalled low p m r free_slot (s ∷ []) operands rest → 1 ≤ s → s < h.unused → Lacks s h.free → Frees low p m operands rest h s
