-- What a program's demands make of its heap, one after the other: a block and perhaps a slot is asked for, or a name is let go.
use Rattle.std.specs.Prelude.{ℕ, Bool, true, false, Option, Some, None, [], nat_eq, if◌then◌else◌}
use Rattle.op_heap.specs.Heap.{Block, Heap, block_named, place, with_block, without_block}
use Rattle.op_heap.specs.Slots.{freed, issued, next_slot}

-- the heap of so many bytes with which a program begins
abbrev pub first_heap : (bytes : ℕ) → Heap
first_heap bytes = record { bytes = bytes; blocks = []; free = []; unused = 1; generation = λ _. 0 }

-- ---- a name is made, where there is room for it

abbrev pub made_plain : Heap → (name bytes : ℕ) → Option ℕ → Option Heap
made_plain h name bytes None = None
made_plain h name bytes (Some a) = Some (with_block h (record { name = name; address = a; size = bytes; slot = 0 }))

-- an instance has a slot too
abbrev pub made_slotted : Heap → (name bytes : ℕ) → (address slot : Option ℕ) → Option Heap
made_slotted h name bytes (Some a) (Some slot) = Some (with_block (issued h slot) (record { name = name; address = a; size = bytes; slot = slot }))
made_slotted h name bytes _ _ = None

-- None where no hole serves, or no slot is left for an instance: run-time error 203
abbrev pub made : Heap → (name bytes : ℕ) → (is_instance : Bool) → Option Heap
made h name bytes false = made_plain h name bytes (place h bytes)
made h name bytes true = made_slotted h name bytes (place h bytes) (next_slot h.free h.unused)

-- ---- a name is let go, and the slot that stands with it

abbrev pub slot_freed : Heap → (slot : ℕ) → Heap
slot_freed h slot = if nat_eq slot 0 then h else freed h slot

abbrev pub given_up : Heap → (name : ℕ) → Option Block → Heap
given_up h name None = h
given_up h name (Some b) = slot_freed (without_block h name) b.slot

abbrev pub let_go : Heap → (name : ℕ) → Heap
let_go h name = given_up h name (block_named name h.blocks)
