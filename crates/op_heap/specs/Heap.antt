-- The heap of a running program as it is meant: blocks in address order. Nothing is linked and nothing is merged here: the holes are the
-- greatest gaps between blocks, and a block goes to the front of the first one that is large enough.
use Rattle.std.specs.Prelude.{◌≡◌, ◌<◌, ◌≤◌, ◌⊎◌, ℕ, ◌+◌, ◌-◌, ◌%◌, Option, Some, None, List, [], ◌∷◌, ◌++◌, nat_eq, nat_le, nat_lt, if◌then◌else◌}

-- where the heap begins
abbrev pub heap_address : ℕ
heap_address = 0x10000000

-- What is made has a name, and its block stands in the heap; its slot is 0 where it is no instance.
pub record Block : Type 0 where
  pub name : ℕ
  pub address : ℕ
  pub size : ℕ
  pub slot : ℕ

pub record Hole : Type 0 where
  pub address : ℕ
  pub size : ℕ

pub record Heap : Type 0 where
  pub bytes : ℕ
  -- in address order
  pub blocks : List Block
  -- the slots that may be issued again, the one that was freed last in front
  pub free : List ℕ
  -- the least slot that was never issued
  pub unused : ℕ
  -- how often each slot was issued
  pub generation : ℕ → ℕ

-- ---- holes

-- the bytes from one address up to another, if there are any
abbrev pub gap : (from to : ℕ) → List Hole
gap from to = if nat_lt from to then record { address = from; size = to - from } ∷ [] else []

-- the greatest gaps between blocks, from one address up to another
abbrev pub holes_from : (from past : ℕ) → List Block → List Hole
holes_from from past [] = gap from past
holes_from from past (b ∷ bs) = gap from b.address ++ holes_from (b.address + b.size) past bs

abbrev pub holes : Heap → List Hole
holes h = holes_from heap_address (heap_address + h.bytes) h.blocks

-- ---- a block is placed

-- the front of the first hole of so many bytes or more
abbrev pub first_fit : ℕ → List Hole → Option ℕ
first_fit k [] = None
first_fit k (h ∷ hs) = if nat_le k h.size then Some h.address else first_fit k hs

-- where a block of so many bytes goes
abbrev pub place : Heap → ℕ → Option ℕ
place h k = first_fit k (holes h)

-- a block more, in front of the first one with a greater address
abbrev pub placed : Block → List Block → List Block
placed b [] = b ∷ []
placed b (c ∷ cs) = if nat_lt b.address c.address then b ∷ c ∷ cs else c ∷ placed b cs

abbrev pub with_block : Heap → Block → Heap
with_block h b = record h { blocks = placed b h.blocks }

-- ---- a block is given up

-- the block of a name
abbrev pub block_named : (name : ℕ) → List Block → Option Block
block_named name [] = None
block_named name (b ∷ bs) = if nat_eq b.name name then Some b else block_named name bs

abbrev pub without : (name : ℕ) → List Block → List Block
without name [] = []
without name (b ∷ bs) = if nat_eq b.name name then bs else b ∷ without name bs

abbrev pub without_block : Heap → (name : ℕ) → Heap
without_block h name = record h { blocks = without name h.blocks }

-- ---- what holds of every heap

-- a block lies behind an address; it begins at a multiple of 16 and has one as its size, and is not empty
pub record IsBlock (from : ℕ) (b : Block) : Type 0 where
  pub behind : from ≤ b.address
  pub aligned : b.address % 16 ≡ 0
  pub some : 16 ≤ b.size
  pub whole : b.size % 16 ≡ 0

-- each block lies behind the one in front of it, and the last one ends in time
abbrev pub ArePlaced : (from past : ℕ) → List Block → Type 0
ArePlaced from past [] = from ≤ past
ArePlaced from past (b ∷ bs) = IsBlock from b × ArePlaced (b.address + b.size) past bs

pub record IsHeap (h : Heap) : Type 0 where
  pub whole : h.bytes % 16 ≡ 0
  pub small : h.bytes ≤ 0x10000000
  pub placed : ArePlaced heap_address (heap_address + h.bytes) h.blocks

-- a byte is in one of these blocks
abbrev pub IsInside : List Block → ℕ → Type 0
IsInside [] x = ⊥
IsInside (b ∷ bs) x = ((b.address ≤ x) × (x < b.address + b.size)) ⊎ IsInside bs x

-- a byte is not in the heap
abbrev pub IsElsewhere : Heap → ℕ → Type 0
IsElsewhere h x = (x < heap_address) ⊎ (heap_address + h.bytes ≤ x)
