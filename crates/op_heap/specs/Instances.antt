-- Instances: the blocks of a heap that have slots, and that memory leads from each slot to its block.
use Rattle.std.specs.Prelude.{◌≡◌, ◌≢◌, ◌≤◌, ◌<◌, ℕ, Some, None, List, [], ◌∷◌}
use Rattle.op_heap.specs.Heap.{Block, Heap, block_named}
use Rattle.op_heap.specs.Memory.{SlotsLie, row_of}
use Rattle.op_heap.specs.Slots.{Lacks, last_generation}
use Rattle.op_rv.specs.State.{word_at}

-- no block has the name
abbrev pub IsFresh : (name : ℕ) → List Block → Type 0
IsFresh name bs = block_named name bs ≡ None

-- each name stands once
abbrev pub AreNamed : List Block → Type 0
AreNamed [] = Unit {0}
AreNamed (b ∷ bs) = IsFresh b.name bs × AreNamed bs

-- this block of the heap has a name and a slot
pub record IsInstance (h : Heap) (name : ℕ) (b : Block) : Type 0 where
  pub found : block_named name h.blocks ≡ Some b
  pub slotted : b.slot ≢ 0

-- this slot was issued and is not free, and no instance has it
pub record IsRetired (h : Heap) (s : ℕ) : Type 0 where
  pub some : 1 ≤ s
  pub issued : s < h.unused
  pub kept : Lacks s h.free
  pub alone : (name : ℕ) (b : Block) → IsInstance h name b → b.slot ≢ s

pub record HasInstances (h : Heap) : Type 0 where
  pub names : AreNamed h.blocks
  -- the slot of each instance was issued and is not free
  pub issued : (name : ℕ) (b : Block) → IsInstance h name b → (b.slot < h.unused) × Lacks b.slot h.free
  -- no two instances have one slot
  pub alone : (one other : ℕ) (b c : Block) → IsInstance h one b → IsInstance h other c → b.slot ≡ c.slot → one ≡ other
  -- a slot that is retired has had its last generation
  pub retired : (s : ℕ) → IsRetired h s → h.generation s ≡ last_generation

-- Memory has the slots of the heap, the row of each instance leads to its block, and that of a retired slot nowhere.
pub record TableLies (memory : ℕ → ℕ) (h : Heap) : Type 0 where
  pub slots : SlotsLie memory h
  pub instances : HasInstances h
  pub leads : (name : ℕ) (b : Block) → IsInstance h name b → word_at memory (row_of b.slot) ≡ b.address
  pub ends : (s : ℕ) → IsRetired h s → word_at memory (row_of s) ≡ 0
