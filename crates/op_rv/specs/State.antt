-- What the machine is at a moment (RISC-V Unprivileged ISA manual, "Programmers' Model for Base Integer ISA").
use Rattle.std.specs.Prelude.{ℕ, ◌+◌, ◌-◌, ◌*◌, ◌^◌, ◌%◌, zero, suc, Bool, true, ◌&&◌, List, [], ◌∷◌, nat_eq, nat_le, nat_lt, length, slice_index, slice_set, if◌then◌else◌}
use Rattle.op_rv.specs.declared.fault.FaultKind.{FaultKind}

-- what may be done with the byte at an address
pub record Rights : Type 0 where
  pub readable : ℕ → Bool
  pub writable : ℕ → Bool
  pub executable : ℕ → Bool

-- whether the machine goes on, or how it ended
pub data Ending : Type 0 where
  Running : Ending
  Ended : (status : ℕ) → Ending
  Faulted : (kind : FaultKind) → (pc : ℕ) → Ending

pub record State : Type 0 where
  -- x0 to x31
  pub registers : List ℕ
  pub pc : ℕ
  -- the byte at each address
  pub memory : ℕ → ℕ
  pub rights : Rights
  -- what is left of the input
  pub input : List ℕ
  -- what was written to descriptors 1 and 2
  pub output : List ℕ
  pub errors : List ℕ
  pub ending : Ending

-- x0 is always 0
abbrev pub register : State → ℕ → ℕ
register s r = if nat_eq r 0 then 0 else slice_index s.registers r

-- a write of x0 is lost
abbrev pub with_register : State → ℕ → ℕ → State
with_register s r value = record s { registers = if nat_eq r 0 then s.registers else slice_set s.registers r value }

-- on to the next instruction
abbrev pub advanced : State → State
advanced s = record s { pc = (s.pc + 4) % 2 ^ 32 }

-- a fault changes nothing else
abbrev pub faulted : FaultKind → State → State
faulted kind s = record s { ending = Faulted kind s.pc }

-- two bytes and the word at an address, their lowest byte first
abbrev pub half_at : (ℕ → ℕ) → ℕ → ℕ
half_at memory a = memory a + 2 ^ 8 * memory (a + 1)

abbrev pub word_at : (ℕ → ℕ) → ℕ → ℕ
word_at memory a = memory a + 2 ^ 8 * memory (a + 1) + 2 ^ 16 * memory (a + 2) + 2 ^ 24 * memory (a + 3)

-- memory with these bytes from an address on
abbrev pub with_bytes : (ℕ → ℕ) → ℕ → List ℕ → ℕ → ℕ
with_bytes memory a bytes x = if nat_le a x && nat_lt x (a + length bytes) then slice_index bytes (x - a) else memory x

-- n bytes from an address on
unfoldable pub bytes_from : (ℕ → ℕ) → ℕ → ℕ → List ℕ
bytes_from memory a zero = []
bytes_from memory a (suc n) = memory a ∷ bytes_from memory (a + 1) n

-- each of n bytes from an address on has the right
unfoldable pub all_from : (ℕ → Bool) → ℕ → ℕ → Bool
all_from right a zero = true
all_from right a (suc n) = right a && all_from right (a + 1) n
