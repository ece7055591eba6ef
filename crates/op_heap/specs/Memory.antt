-- When the memory of a machine has a heap: in the words of blocks and holes, in the control region, and in the rows of slots.
use Rattle.std.specs.Prelude.{◌≡◌, ◌≤◌, ◌<◌, ℕ, ◌+◌, ◌*◌, List, [], ◌∷◌}
use Rattle.op_heap.specs.Heap.{Block, Heap, Hole, IsHeap, holes}
use Rattle.op_heap.specs.Slots.{HasSlots, slot_count}
use Rattle.op_rv.specs.State.{word_at}

-- ---- blocks and holes

-- Where the control region begins, and how many bytes it has. Its first words are: the first hole, the first free slot, the bytes of the heap,
-- those of the stack, the least slot that was never issued, and three zeros. Rows of slots follow.
abbrev pub control_address : ℕ
control_address = 0x08000000

abbrev pub control_bytes : ℕ
control_bytes = 524312

abbrev pub first_hole : (ℕ → ℕ) → ℕ
first_hole memory = word_at memory control_address

-- The holes are linked in address order: this word is the address of the first of them, 0 for none. A hole begins with two words, its size and the
-- word that links what is behind it.
abbrev pub AreLinked : (ℕ → ℕ) → (next : ℕ) → List Hole → Type 0
AreLinked memory next [] = next ≡ 0
AreLinked memory next (h ∷ hs) = (next ≡ h.address) × (word_at memory h.address ≡ h.size) × AreLinked memory (word_at memory (h.address + 4)) hs

-- Each block begins with a word for its size and its kind. The kind of a name is 1 for a string, 2 for an array and 3 for an instance.
abbrev pub AreHeaded : (ℕ → ℕ) → (kinds : ℕ → ℕ) → List Block → Type 0
AreHeaded memory kinds [] = Unit {0}
AreHeaded memory kinds (b ∷ bs) = (word_at memory b.address ≡ b.size + kinds b.name) × (kinds b.name < 16) × AreHeaded memory kinds bs

-- The blocks stand at their addresses with their sizes and kinds, and what is between them are the linked holes.
pub record HeapLies (kinds : ℕ → ℕ) (memory : ℕ → ℕ) (h : Heap) : Type 0 where
  pub heap : IsHeap h
  pub linked : AreLinked memory (first_hole memory) (holes h)
  pub headed : AreHeaded memory kinds h.blocks

-- ---- slots

abbrev pub first_free : (ℕ → ℕ) → ℕ
first_free memory = word_at memory (control_address + 4)

abbrev pub next_unused : (ℕ → ℕ) → ℕ
next_unused memory = word_at memory (control_address + 16)

-- The row of a slot, of two words: the address of its block, or of a free slot the free slot that comes next and of a retired one 0; and its
-- generation. That of slot 1 stands behind the first eight words of the control region.
abbrev pub row_of : ℕ → ℕ
row_of s = control_address + 24 + 8 * s

-- free slots are linked by their numbers, from this one on, 0 for none
abbrev pub AreListed : (ℕ → ℕ) → (next : ℕ) → List ℕ → Type 0
AreListed memory next [] = next ≡ 0
AreListed memory next (s ∷ ss) = (next ≡ s) × AreListed memory (word_at memory (row_of s)) ss

pub record SlotsLie (memory : ℕ → ℕ) (h : Heap) : Type 0 where
  pub slots : HasSlots h
  pub listed : AreListed memory (first_free memory) h.free
  pub unused : next_unused memory ≡ h.unused
  pub generations : (s : ℕ) → 1 ≤ s → s < slot_count → word_at memory (row_of s + 4) ≡ h.generation s

-- ---- what stays

-- the words that tell how many bytes heap and stack have
pub record HasBounds (memory : ℕ → ℕ) (heap stack : ℕ) : Type 0 where
  pub heap_bytes : word_at memory (control_address + 8) ≡ heap
  pub stack_bytes : word_at memory (control_address + 12) ≡ stack
