-- What becomes of the holes where a block is placed or given up. These are laws of the heap and not how it is meant.
use Rattle.std.specs.Prelude.{◌≡◌, ◌<◌, ◌≤◌, ◌⊎◌, ℕ, suc, ◌+◌, ◌%◌, List, [], ◌∷◌, ◌++◌, nat_eq, nat_le, nat_lt, if◌then◌else◌}
use Rattle.op_heap.specs.Heap.{Block, Hole, gap}

-- ---- a block is placed

-- what is left of a hole behind so many bytes
abbrev pub rest_of : ℕ → Hole → List Hole
rest_of k h = gap (h.address + k) (h.address + h.size)

-- the front of the first hole that is large enough is taken
abbrev pub taken : ℕ → List Hole → List Hole
taken k [] = []
taken k (h ∷ hs) = if nat_le k h.size then rest_of k h ++ hs else h ∷ taken k hs

-- ---- a block is given up

-- a hole in front of others, which swallows the first of them where it ends there
abbrev pub joined : Hole → List Hole → List Hole
joined h [] = h ∷ []
joined h (n ∷ ns) = if nat_eq (h.address + h.size) n.address then record { address = h.address; size = h.size + n.size } ∷ ns else h ∷ n ∷ ns

-- a hole more, which is merged with the one in front of it and with the one behind it where they meet
abbrev pub given : Hole → List Hole → List Hole
given b [] = b ∷ []
given b (h ∷ hs) = if nat_lt b.address h.address then joined b (h ∷ hs) else joined h (given b hs)

-- the bytes of a block
abbrev pub bytes_of : Block → Hole
bytes_of b = record { address = b.address; size = b.size }

-- ---- how holes lie

pub record IsHole (from past : ℕ) (h : Hole) : Type 0 where
  pub behind : from ≤ h.address
  pub aligned : h.address % 16 ≡ 0
  pub some : 16 ≤ h.size
  pub whole : h.size % 16 ≡ 0
  pub within : h.address + h.size ≤ past

-- in address order, and none begins where the one in front of it ends
abbrev pub AreSpread : (from past : ℕ) → List Hole → Type 0
AreSpread from past [] = Unit {0}
AreSpread from past (h ∷ hs) = IsHole from past h × AreSpread (suc (h.address + h.size)) past hs

-- a byte is in none of these holes
abbrev pub IsOutside : List Hole → ℕ → Type 0
IsOutside [] x = Unit {0}
IsOutside (h ∷ hs) x = (h.address ≤ x → x < h.address + h.size → ⊥) × IsOutside hs x

-- so many bytes and holes have no byte in common
abbrev pub IsApart : Hole → List Hole → Type 0
IsApart b [] = Unit {0}
IsApart b (h ∷ hs) = ((h.address + h.size ≤ b.address) ⊎ (b.address + b.size ≤ h.address)) × IsApart b hs
