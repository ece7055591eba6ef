-- Which bytes a change of memory may touch, so that the heap and the slots that memory has stay as they were.
use Rattle.std.specs.Prelude.{◌≡◌, ◌≤◌, ◌<◌, ℕ, ◌+◌}
use Rattle.op_heap.specs.Heap.{Block}
use Rattle.op_heap.specs.Memory.{control_address, control_bytes, row_of}

-- nothing has changed but bytes of a block behind its first word
abbrev pub ChangesIn : Block → (memory after : ℕ → ℕ) → Type 0
ChangesIn b memory after = (x : ℕ) → (b.address + 4 ≤ x → x < b.address + b.size → ⊥) → after x ≡ memory x

-- a byte is none of the word that links the first hole
abbrev pub IsNoLink : ℕ → Type 0
IsNoLink x = control_address ≤ x → x < control_address + 4 → ⊥

-- a byte is none of the words of the first free slot and of the least one that was never issued, and none of the row of a slot
abbrev pub IsBesideSlot : (slot : ℕ) → ℕ → Type 0
IsBesideSlot slot x = (control_address + 4 ≤ x → x < control_address + 8 → ⊥) × (control_address + 16 ≤ x → x < control_address + 20 → ⊥) × (row_of slot ≤ x → x < row_of slot + 8 → ⊥)

-- the control region behind the word that links the first hole is as it was
abbrev pub KeepsControl : (memory after : ℕ → ℕ) → Type 0
KeepsControl memory after = (x : ℕ) → control_address + 4 ≤ x → x < control_address + control_bytes → after x ≡ memory x

-- and so it is but for one row and the words that tell which slot is next
abbrev pub KeepsRows : (slot : ℕ) → (memory after : ℕ → ℕ) → Type 0
KeepsRows slot memory after = (x : ℕ) → IsBesideSlot slot x → control_address + 4 ≤ x → x < control_address + control_bytes → after x ≡ memory x
