-- The segments of the code as regions, and what is read from them.
use Rattle.std.specs.Prelude.{◌≡◌, ℕ, ◌+◌, ◌-◌, ◌<◌, ◌≤◌, Bool, true, false, Option, Some, None, List, ◌++◌, map, length, take, drop, slice_index_or}
use Rattle.op_rv.specs.State.{bytes_from, all_from, with_bytes, word_at}
use Rattle.op_emu.specs.Region.{Region, range_of, covers, are_apart, region_at, byte_in, readable_in, writable_in, executable_in, rights_in}
use Rattle.op_emu.specs.declared.memory.Right.{Right}
use Rattle.op_emu.specs.declared.memory.Right.TheVariants.{Read, Write, Execute}
use Rattle.op_emu.specs.declared.memory.Segment.{Segment}

abbrev pub region_of : Segment → Region
region_of s =
    record {
      base = s.base;
      readable = s.readable;
      writable = s.writable;
      executable = s.executable;
      bytes = s.bytes.items;
    }

abbrev pub regions_of : List Segment → List Region
regions_of segments = map region_of segments

abbrev pub lie_apart : List Segment → Bool
lie_apart segments = are_apart (map range_of (regions_of segments))

-- an address lies in a segment
pub record IsWithin (region : Region) (at : ℕ) : Type 0 where
  pub above : region.base ≤ at
  pub below : at < region.base + length region.bytes

-- the segment at an address is this one
pub record IsFoundAt (regions : List Region) (at : ℕ) (region : Region) : Type 0 where
  pub found : region_at regions at ≡ Some region
  pub within : IsWithin region at

-- the segment at a place has an address
pub record HasAddress (segments : List Segment) (at k : ℕ) : Type 0 where
  pub inside : k < length segments
  pub covered : (d : Segment) → covers (range_of (region_of (slice_index_or segments k d))) at ≡ true

-- the longest front of a range that lies in one readable segment
pub record IsReadableFront (regions : List Region) (at most : ℕ) (front : List ℕ) : Type 0 where
  pub within : length front ≤ most
  pub bytes : front ≡ bytes_from (byte_in regions) at (length front)
  pub readable : all_from (readable_in regions) at (length front) ≡ true
  pub stops : length front ≡ 0 → 0 < most → readable_in regions at ≡ false

abbrev pub has_right : Right → Region → Bool
has_right Read region = region.readable
has_right Write region = region.writable
has_right Execute region = region.executable

-- which addresses have a right
abbrev pub right_in : Right → List Region → ℕ → Bool
right_in Read regions = readable_in regions
right_in Write regions = writable_in regions
right_in Execute regions = executable_in regions

-- so many bytes are the longest front of a range that lies in one segment with a right
pub record IsAllowedFront (right : Right) (regions : List Region) (at most count : ℕ) : Type 0 where
  pub within : count ≤ most
  pub allowed : all_from (right_in right regions) at count ≡ true
  pub stops : count ≡ 0 → 0 < most → right_in right regions at ≡ false

-- a segment's bytes with these from an offset on
abbrev pub written_over : List ℕ → ℕ → List ℕ → List ℕ
written_over old offset bytes = take offset old ++ (bytes ++ drop (offset + length bytes) old)

-- these bytes were written from an address on, and no right changed
pub record IsWritten (old new : List Region) (at : ℕ) (bytes : List ℕ) : Type 0 where
  pub memory : byte_in new ≡ with_bytes (byte_in old) at bytes
  pub rights : rights_in new ≡ rights_in old

-- the word at an address, and none where one of its bytes has not the right
abbrev pub WordIs : Right → List Region → ℕ → Option ℕ → Type 0
WordIs right regions at (Some word) =
    (all_from (right_in right regions) at 4 ≡ true) × (word ≡ word_at (byte_in regions) at)
WordIs right regions at None = all_from (right_in right regions) at 4 ≡ false

-- a segment that may be written has room for these bytes from an address on, and has them now
pub record WritesWhole (old new : Segment) (at : ℕ) (bytes : List ℕ) : Type 0 where
  pub may : old.writable ≡ true
  pub room : at - old.base + length bytes ≤ length old.bytes.items
  pub wrote : region_of new ≡ record (region_of old) { bytes = written_over old.bytes.items (at - old.base) bytes }
