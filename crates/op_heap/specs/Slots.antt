-- Slots as they are meant: an instance has one while it stands, and a class or interface value is the slot with its generation. So a value that
-- outlives its instance is told from one of a later instance in the same slot.
use Rattle.std.specs.Prelude.{◌≡◌, ◌≢◌, ◌≤◌, ◌<◌, ℕ, ◌+◌, ◌*◌, Option, Some, None, List, [], ◌∷◌, drop, nat_eq, nat_lt, if◌then◌else◌}
use Rattle.op_heap.specs.Heap.{Heap}

-- ---- which slot is issued

-- slots are the numbers from 1 on that are below this one, and so are generations
abbrev pub slot_count : ℕ
slot_count = 65536

abbrev pub last_generation : ℕ
last_generation = 65535

-- the slot that was freed last, and where none is free the least that was never issued
abbrev pub next_slot : (free : List ℕ) → (unused : ℕ) → Option ℕ
next_slot [] unused = if nat_lt unused slot_count then Some unused else None
next_slot (s ∷ ss) unused = Some s

abbrev pub unused_then : (free : List ℕ) → (unused : ℕ) → ℕ
unused_then [] unused = unused + 1
unused_then (s ∷ ss) unused = unused

-- the generation of one slot is one more
abbrev pub raised : (slot : ℕ) → (ℕ → ℕ) → ℕ → ℕ
raised slot generation s = if nat_eq s slot then generation s + 1 else generation s

-- the next slot, which is this one, is issued
abbrev pub issued : Heap → (slot : ℕ) → Heap
issued h slot =
    record h {
      free = drop 1 h.free;
      unused = unused_then h.free h.unused;
      generation = raised slot h.generation;
    }

-- ---- which slot is free again

-- a slot that has had its last generation is retired: it is never issued again
abbrev pub free_then : (slot generation : ℕ) → List ℕ → List ℕ
free_then slot generation free = if nat_eq generation last_generation then free else slot ∷ free

abbrev pub freed : Heap → (slot : ℕ) → Heap
freed h slot = record h { free = free_then slot (h.generation slot) h.free }

-- ---- values

-- the word of a class or interface value; nil is 0, which is no word of a slot
abbrev pub word_of : (generation slot : ℕ) → ℕ
word_of generation slot = generation * 65536 + slot

-- each of these words is that of a slot and of a generation that the slot has reached
abbrev pub AreIssued : Heap → List ℕ → Type 0
AreIssued h [] = Unit {0}
AreIssued h (w ∷ ws) = ((s : ℕ) × (g : ℕ) × (w ≡ word_of g s) × (s < slot_count) × (g ≤ h.generation s)) × AreIssued h ws

-- ---- what holds of the slots of every heap

-- a number is none of these
abbrev pub Lacks : ℕ → List ℕ → Type 0
Lacks s [] = Unit {0}
Lacks s (t ∷ ts) = (s ≢ t) × Lacks s ts

-- free slots were issued before, each stands once in the list, and none is retired
abbrev pub AreFree : (unused : ℕ) → (ℕ → ℕ) → List ℕ → Type 0
AreFree unused generation [] = Unit {0}
AreFree unused generation (s ∷ ss) = (1 ≤ s) × (s < unused) × (generation s < last_generation) × Lacks s ss × AreFree unused generation ss

pub record HasSlots (h : Heap) : Type 0 where
  pub some : 1 ≤ h.unused
  pub most : h.unused ≤ slot_count
  pub free : AreFree h.unused h.generation h.free
  pub generations : (s : ℕ) → h.generation s ≤ last_generation
  -- a slot that was never issued has generation 0
  pub never : (s : ℕ) → h.unused ≤ s → h.generation s ≡ 0
