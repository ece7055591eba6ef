-- The blocks of a heap as its memory tells them, read by sizes from its beginning on. A hole begins with its size alone, so it has kind 0.
use Rattle.std.specs.Prelude.{ℕ, zero, suc, ◌+◌, ◌*◌, ◌/◌, ◌%◌, ◌<◌, List, [], ◌∷◌, ◌++◌, nat_eq, nat_lt, if◌then◌else◌}
use Rattle.op_heap.specs.Heap.{Block}
use Rattle.op_rv.specs.State.{word_at}

pub record Found : Type 0 where
  pub address : ℕ
  pub size : ℕ
  pub kind : ℕ

abbrev pub found_if : (address head : ℕ) → List Found
found_if address head = if nat_eq (head % 16) 0 then [] else record { address = address; size = head / 16 * 16; kind = head % 16 } ∷ []

-- so many blocks and holes at most, from one address up to another
unfoldable pub read_blocks : (ℕ → ℕ) → (most at past : ℕ) → List Found
read_blocks memory zero at past = []
read_blocks memory (suc most) at past =
    if nat_lt at past then found_if at (word_at memory at) ++ read_blocks memory most (at + word_at memory at / 16 * 16) past else []

-- what is to be found of a block
abbrev pub found_of : (kinds : ℕ → ℕ) → Block → Found
found_of kinds b = record { address = b.address; size = b.size; kind = kinds b.name }

-- each block has one of the kinds
abbrev pub AreKinds : (kinds : ℕ → ℕ) → List Block → Type 0
AreKinds kinds [] = Unit {0}
AreKinds kinds (b ∷ bs) = (0 < kinds b.name) × AreKinds kinds bs
