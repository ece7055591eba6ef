-- Filling a range of memory from a source.
use Rattle.std.specs.Prelude.{◌≡◌, ℕ, ◌<◌, ◌≤◌, ◌^◌, Option, List, length, slice_index}
use Rattle.op_base.specs.Outside.{preceded, IsExhausted, Rose}
use Rattle.op_base.specs.declared.source.Got.{Got}
use Rattle.op_base.specs.declared.source.Got.TheVariants.{Gave, End, Failed}
use Rattle.op_emu.specs.Region.{Region}
use Rattle.op_emu.specs.Segments.{IsWritten}
use Rattle.op_emu.specs.declared.fill.Filled.{Filled}
use Rattle.op_emu.specs.declared.fill.Filled.TheVariants as filled

-- numbers of bytes
abbrev pub AreBytes : List ℕ → Type 0
AreBytes bytes = (k : ℕ) → slice_index bytes k < 2 ^ 8

-- so many bytes were taken from the source and written from an address on
pub record Fills (count : ℕ) (old new : List Region) (at : ℕ) (before after : Option (List ℕ)) : Type 0 where
  pub bytes : List ℕ
  pub many : length bytes ≡ count
  pub bounded : AreBytes bytes
  pub parts : before ≡ preceded bytes after
  pub written : IsWritten old new at bytes

-- the source was asked once
abbrev pub FrontIs : Got → List Region → List Region → ℕ → ℕ → Option (List ℕ) → Option (List ℕ) → ℕ → ℕ → Type 0
FrontIs (Gave k) old new at most before after faults faults' = (0 < k) × (k ≤ most) × Fills k old new at before after
FrontIs End old new at most before after faults faults' = (new ≡ old) × (after ≡ before) × IsExhausted after
FrontIs Failed old new at most before after faults faults' = (new ≡ old) × (after ≡ before) × Rose faults faults'

-- the source was asked until all came, or its end, or its failure
abbrev pub FillIs : Filled → List Region → List Region → ℕ → ℕ → Option (List ℕ) → Option (List ℕ) → ℕ → ℕ → Type 0
FillIs filled.Whole old new at count before after faults faults' = Fills count old new at before after
FillIs (filled.Ended k) old new at count before after faults faults' = (k < count) × Fills k old new at before after × IsExhausted after
FillIs filled.Failed old new at count before after faults faults' =
    ((k : ℕ) × (k < count) × Fills k old new at before after) × Rose faults faults'
