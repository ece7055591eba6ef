-- How the types of a program are arranged: what is true of each type whose values are small enough.
use Rattle.std.specs.Prelude.{◌≡◌, ◌<◌, ◌⊎◌, ℕ, ◌-◌, ◌%◌, ◌^◌, length}
use Rattle.op_core.specs.declared.ids.TypeId.{TypeId}
use Rattle.op_core.specs.declared.program.Core.{Core}
use Rattle.op_constants.specs.Lies.{Arrangement, bytes_in, IsArranged, IsAligned}
use Rattle.op_constants.specs.Offsets.{size_in, alignment_in}

-- what types are aligned at
abbrev pub IsUnit : ℕ → Type 0
IsUnit a = (a ≡ 1) ⊎ ((a ≡ 2) ⊎ (a ≡ 4))

-- The type is there, and its values take less than the greatest number of bytes that counts.
pub record IsSmall (core : Core) (of : TypeId) : Type 0 where
  pub there : of.0 < length core.types
  pub size : size_in core of < 2 ^ 32 - 1

-- Parts are in order, apart and within; a value takes the bytes of its type; where it stands at its alignment each number in it does;
-- and where one value stands behind another one it is at its alignment again.
pub record Arranged (core : Core) (of : TypeId) (l : Arrangement) : Type 0 where
  pub arranged : IsArranged l
  pub size : bytes_in l ≡ size_in core of
  pub unit : IsUnit (alignment_in core of)
  pub whole : size_in core of % alignment_in core of ≡ 0
  pub aligned : (a : ℕ) → a % alignment_in core of ≡ 0 → IsAligned l a
