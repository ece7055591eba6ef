-- Whether what a register has may still be read. A table has for each block a number with a bit for each register below 64.
use Rattle.std.specs.Prelude.{ℕ, zero, suc, ◌/◌, ◌%◌, ◌^◌, Bool, true, false, ◌||◌, ◌&&◌, not, Option, Some, None, List, [], ◌∷◌, nat_eq, nat_le, if◌then◌else◌, slice_get, take, min}
use Rattle.op_low.specs.Valid.{leaves}
use Rattle.op_low.specs.declared.code.Block.{Block}
use Rattle.op_low.specs.declared.code.Routine.{Routine}
use Rattle.op_low.specs.declared.ids.VirtualRegister.{VirtualRegister}
use Rattle.op_low.specs.declared.instruction.Instruction.{Instruction}
use Rattle.op_low.specs.declared.instruction.Instruction.TheVariants.{Const, Address, Local, Move, Alu, AluImm, Shift, Load, Store, Call, CallAt, Branch, Jump, Return, Raise, Read, Write, Exit}
use Rattle.op_rv.specs.declared.symbol.BlockId.{BlockId}
use Rattle.op_optimize.specs.Reading.{reads, writes}
-- the block of its routine at which an instruction may go on
pub use Rattle.op_low.specs.Reading.{other_block}

-- how many registers are looked at; what the others have counts as read
abbrev pub watched : ℕ
watched = 64

abbrev pub has_bit : Option ℕ → ℕ → Bool
has_bit None r = true
has_bit (Some bits) r = nat_eq (bits / 2 ^ r % 2) 1

-- whether a register may be read where a block begins
unfoldable pub is_live : List ℕ → BlockId → VirtualRegister → Bool
is_live live block r = if nat_le watched r.0 then true else has_bit (slice_get live block.0) r.0

abbrev pub is_live_in : List ℕ → Option BlockId → VirtualRegister → Bool
is_live_in live None r = false
is_live_in live (Some block) r = is_live live block r

-- whether a register may be read there
unfoldable pub is_live_beyond : List ℕ → Instruction → VirtualRegister → Bool
is_live_beyond live i r = is_live_in live (other_block i) r

abbrev pub is_read_or_live : List ℕ → Instruction → VirtualRegister → Bool
is_read_or_live live i r = reads i r || is_live_beyond live i r

abbrev pub is_lost : Instruction → VirtualRegister → Bool
is_lost i r = writes i r || leaves i

-- whether code may read what a register has where it begins
unfoldable pub needs : List ℕ → List Instruction → VirtualRegister → Bool
needs live [] r = false
needs live (i ∷ is) r = if is_read_or_live live i r then true else (if is_lost i r then false else needs live is r)

-- the next so many instructions show that nothing reads it
unfoldable pub shows_dead : List ℕ → List Instruction → VirtualRegister → Bool
shows_dead live [] r = false
shows_dead live (i ∷ is) r = if is_read_or_live live i r then false else (if is_lost i r then true else shows_dead live is r)

-- how many instructions are looked at ahead
abbrev pub window : ℕ
window = 64

unfoldable pub is_dead : List ℕ → List Instruction → VirtualRegister → Bool
is_dead live code r = shows_dead live (take window code) r

-- ---- a table that has what each block needs

-- the registers below a number are live where the block needs them
unfoldable pub covers_below : List ℕ → BlockId → List Instruction → ℕ → Bool
covers_below live block code zero = true
covers_below live block code (suc n) = covers_below live block code n && (not (needs live code (record { 0 = n })) || is_live live block (record { 0 = n }))

-- those of a routine with so many, as far as they are looked at
abbrev pub covers : List ℕ → (registers : ℕ) → BlockId → Block → Bool
covers live registers block b = covers_below live block b.code (min registers watched)

-- each block from number k on
unfoldable pub covers_blocks : List ℕ → (registers k : ℕ) → List Block → Bool
covers_blocks live registers k [] = true
covers_blocks live registers k (b ∷ bs) = covers live registers (record { 0 = k }) b && covers_blocks live registers (suc k) bs

unfoldable pub is_closed : List ℕ → Routine → Bool
is_closed live routine = covers_blocks live routine.registers 0 routine.blocks
