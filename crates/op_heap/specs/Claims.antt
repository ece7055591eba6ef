-- What is proved of every heap, and of memory that has one.
use Rattle.std.specs.Prelude.{◌≡◌, ◌≤◌, ◌<◌, ℕ, ◌+◌, ◌*◌, ◌%◌, Some, List, ◌∷◌, length, map}
use Rattle.op_heap.specs.Frames.{ChangesIn, KeepsControl, KeepsRows}
use Rattle.op_heap.specs.Heap.{Block, Heap, IsHeap, IsInside, block_named, heap_address, holes, place, with_block, without_block}
use Rattle.op_heap.specs.Instances.{IsFresh, IsInstance, TableLies}
use Rattle.op_heap.specs.Memory.{HeapLies, SlotsLie, control_address, row_of}
use Rattle.op_heap.specs.Merging.{bytes_of, given, taken}
use Rattle.op_heap.specs.Reading.{AreKinds, found_of, read_blocks}
use Rattle.op_heap.specs.Sizes.{array_bytes, instance_bytes, string_bytes}
use Rattle.op_heap.specs.Slots.{AreIssued, Lacks, freed, issued, last_generation, next_slot, slot_count, word_of}
use Rattle.op_rv.specs.State.{word_at}

-- ---- blocks and holes

-- a block that was placed
pub record Places (h : Heap) (b : Block) : Type 0 where
  pub heap : IsHeap (with_block h b)
  -- the front of the first hole that is large enough is gone, and the other holes are as they were
  pub left : holes (with_block h b) ≡ taken b.size (holes h)
  pub behind : heap_address ≤ b.address
  pub within : b.address + b.size ≤ heap_address + h.bytes
  pub apart : (x : ℕ) → IsInside h.blocks x → b.address ≤ x → x < b.address + b.size → ⊥

abbrev pub BlocksArePlaced : Type 0
BlocksArePlaced = (h : Heap) (b : Block) → IsHeap h → 16 ≤ b.size → b.size % 16 ≡ 0 → place h b.size ≡ Some b.address → Places h b

-- a block that was given up
pub record GivesUp (h : Heap) (b : Block) : Type 0 where
  pub heap : IsHeap (without_block h b.name)
  -- its bytes are a hole more, which is merged with both its neighbours
  pub left : holes (without_block h b.name) ≡ given (bytes_of b) (holes h)

abbrev pub HolesAreMerged : Type 0
HolesAreMerged = (h : Heap) (b : Block) → IsHeap h → block_named b.name h.blocks ≡ Some b → GivesUp h b

-- ---- sizes

-- a size that a block may have
pub record IsSize (bytes : ℕ) : Type 0 where
  pub some : 16 ≤ bytes
  pub whole : bytes % 16 ≡ 0

-- each size is the least one with room for what the block has
pub record SizesAreLeast : Type 0 where
  pub string : (length : ℕ) → IsSize (string_bytes length) × (length + 17 ≤ string_bytes length) × (string_bytes length < length + 33)
  pub array : (count element : ℕ) → IsSize (array_bytes count element) × (count * element + 16 ≤ array_bytes count element) × (array_bytes count element < count * element + 32)
  pub instance : (fields : ℕ) → IsSize (instance_bytes fields) × (fields + 16 ≤ instance_bytes fields) × (instance_bytes fields < fields + 32)

-- ---- slots

-- the next word of a slot is none that was issued, and is one from then on; a slot that is given back takes none back
pub record WordsAreIssuedOnce : Type 0 where
  pub differ : (ws : List ℕ) (h : Heap) (s : ℕ) → s < slot_count → AreIssued h ws → Lacks (word_of (h.generation s + 1) s) ws
  pub issue : (ws : List ℕ) (h : Heap) (s : ℕ) → s < slot_count → AreIssued h ws → AreIssued (issued h s) (word_of (h.generation s + 1) s ∷ ws)
  pub free : (ws : List ℕ) (h : Heap) (s : ℕ) → AreIssued h ws → AreIssued (freed h s) ws

-- ---- memory

-- what memory tells by sizes are the blocks of the heap, with two turns for each block and one behind them
abbrev pub BlocksAreRead : Type 0
BlocksAreRead = (memory kinds : ℕ → ℕ) (h : Heap) (more : ℕ) → HeapLies kinds memory h → AreKinds kinds h.blocks → read_blocks memory (2 * length h.blocks + 1 + more) heap_address (heap_address + h.bytes) ≡ map (found_of kinds) h.blocks

-- memory has the heap and the slots still
pub record HeapStays : Type 0 where
  -- where what changes is in a block behind its first word
  pub stored : (memory after kinds : ℕ → ℕ) (h : Heap) (b : Block) → ChangesIn b memory after → block_named b.name h.blocks ≡ Some b → HeapLies kinds memory h → HeapLies kinds after h
  -- where what changes is outside of the heap, and not the word that links the first hole
  pub elsewhere : (memory after kinds : ℕ → ℕ) (h : Heap) → ((x : ℕ) → control_address ≤ x → x < control_address + 4 → after x ≡ memory x) → ((x : ℕ) → heap_address ≤ x → x < heap_address + h.bytes → after x ≡ memory x) → HeapLies kinds memory h → HeapLies kinds after h
  -- where what changes is outside of the control region, but for that word
  pub slots : (memory after : ℕ → ℕ) (h : Heap) → KeepsControl memory after → SlotsLie memory h → SlotsLie after h

-- each slot leads to its block still
pub record TableStays : Type 0 where
  -- where a block without a slot is placed
  pub plain : (memory after : ℕ → ℕ) (h : Heap) (b : Block) → KeepsControl memory after → IsFresh b.name h.blocks → b.slot ≡ 0 → TableLies memory h → TableLies after (with_block h b)
  -- where a slot is issued for the block of an instance
  pub instance : (memory after : ℕ → ℕ) (h : Heap) (b : Block) → KeepsRows b.slot memory after → IsFresh b.name h.blocks → next_slot h.free h.unused ≡ Some b.slot → SlotsLie after (issued h b.slot) → word_at after (row_of b.slot) ≡ b.address → TableLies memory h → TableLies after (with_block (issued h b.slot) b)
  -- where a block without a slot is given up
  pub left : (memory after : ℕ → ℕ) (h : Heap) (name : ℕ) → KeepsControl memory after → ((b : Block) → block_named name h.blocks ≡ Some b → b.slot ≡ 0) → TableLies memory h → TableLies after (without_block h name)
  -- where an instance is given up, and its slot is freed or retired
  pub freed : (memory after : ℕ → ℕ) (h : Heap) (b : Block) → KeepsRows b.slot memory after → IsInstance h b.name b → SlotsLie after (freed (without_block h b.name) b.slot) → (h.generation b.slot ≡ last_generation → word_at after (row_of b.slot) ≡ 0) → TableLies memory h → TableLies after (freed (without_block h b.name) b.slot)
