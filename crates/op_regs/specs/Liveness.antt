-- Where a routine needs what a register has.
use Rattle.std.specs.Prelude.{◌≡◌, ◌≢◌, ℕ, ◌+◌, ◌<◌, ◌≤◌, true, false, Option, Some, List, length, slice_get, take}
use Rattle.std.specs.List.{flat_map}
use Rattle.op_low.specs.Reading.{other_block, reads, writes}
use Rattle.op_low.specs.Valid.{leaves}
use Rattle.op_low.specs.declared.code.Block.{Block}
use Rattle.op_low.specs.declared.ids.VirtualRegister.{VirtualRegister}
use Rattle.op_low.specs.declared.instruction.Instruction.{Instruction}
use Rattle.op_rv.specs.declared.symbol.BlockId.{BlockId}

-- The instructions of blocks, block behind block. A position is the number of one of them, and stands for the moment before it.
abbrev pub instructions : List Block → List Instruction
instructions blocks = flat_map (λ b. b.code) blocks

-- the position of a block's first instruction
abbrev pub start_of : List Block → BlockId → ℕ
start_of blocks block = length (instructions (take block.0 blocks))

-- A register is live at a position: some path from there reads it before it is written. At the block of a branch, and where a call
-- goes on that raises, it still has what it had, also if the call gives its value to this register.
pub data IsLive (blocks : List Block) (r : VirtualRegister) : (position : ℕ) → Type 0 where
  IsRead : {p : ℕ} {i : Instruction} → slice_get (instructions blocks) p ≡ Some i → reads i r ≡ true → IsLive blocks r p
  Passes : {p : ℕ} {i : Instruction} → slice_get (instructions blocks) p ≡ Some i → leaves i ≡ false → writes i r ≡ false → IsLive blocks r (p + 1) → IsLive blocks r p
  Turns : {p : ℕ} {i : Instruction} {block : BlockId} → slice_get (instructions blocks) p ≡ Some i → other_block i ≡ Some block → IsLive blocks r (start_of blocks block) → IsLive blocks r p

-- a position is within the interval of a register, the least run of positions that has every position at which it is live
pub record IsWithin (blocks : List Block) (r : VirtualRegister) (p : ℕ) : Type 0 where
  pub first : ℕ
  pub last : ℕ
  pub begins : IsLive blocks r first
  pub ends : IsLive blocks r last
  pub behind : first ≤ p
  pub before : p ≤ last

-- how many registers of the machine are given out
abbrev pub most : ℕ
most = 18

-- at a position the intervals of so many other registers meet that of this one
pub record IsCrowded (blocks : List Block) (r : VirtualRegister) (p : ℕ) : Type 0 where
  pub own : IsWithin blocks r p
  pub others : ℕ → VirtualRegister
  pub differ : (j k : ℕ) → j < most → k < most → (others j).0 ≡ (others k).0 → j ≡ k
  pub apart : (k : ℕ) → k < most → (others k).0 ≢ r.0
  pub meet : (k : ℕ) → k < most → IsWithin blocks (others k) p
