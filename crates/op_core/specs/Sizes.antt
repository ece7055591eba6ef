-- What ordinal types range over, how large values are, and which are managed.
use Rattle.std.specs.Prelude.{◌≡◌, ◌<◌, ◌≤◌, ℕ, ℤ, pos, negsuc, ◌+◌, ◌-◌, ◌*◌, ◌^◌, ◌-ℤ◌, ◌≤ℤ◌, nat_abs, max, min, Bool, true, false, ◌||◌, List, length, Option, Some, None, unwrap_or, slice_get, map}
use Rattle.std.specs.Int.{div_ceil}
use Rattle.std.specs.List.{All, fold}
use Rattle.op_core.specs.Rows.{rows}
use Rattle.op_core.specs.declared.class.Interface.{Interface as Face}
use Rattle.op_core.specs.declared.class.InterfaceKind.{InterfaceKind}
use Rattle.op_core.specs.declared.class.InterfaceKind.TheVariants.{Com, Corba}
use Rattle.op_core.specs.declared.ids.TypeId.{TypeId}
use Rattle.op_core.specs.declared.program.Core.{Core}
use Rattle.op_core.specs.declared.types.CoreType.{CoreType}
use Rattle.op_core.specs.declared.types.CoreType.TheVariants.{Integer, Boolean, Char, String, Enumeration, Subrange, Record, Array, DynamicArray, Interface}
use Rattle.op_core.specs.declared.types.Extent.{Extent}
use Rattle.op_core.specs.declared.types.Field.{Field}
use Rattle.op_core.specs.declared.types.IntegerKind.{IntegerKind}
use Rattle.op_core.specs.declared.types.IntegerKind.TheVariants.{Signed8, Unsigned8, Signed16, Unsigned16, Signed32}

abbrev pub type_at : Core → TypeId → Option CoreType
type_at core of = slice_get core.types of.0

-- ---- ordinal types

abbrev pub integer_range : IntegerKind → ℤ × ℤ
integer_range Signed8 = (negsuc 127, pos 127)
integer_range Unsigned8 = (pos 0, pos 255)
integer_range Signed16 = (negsuc 32767, pos 32767)
integer_range Unsigned16 = (pos 0, pos 65535)
integer_range Signed32 = (negsuc 2147483647, pos 2147483647)

-- the least and the greatest number of an ordinal type's values
abbrev pub range_of : Option CoreType → Option (ℤ × ℤ)
range_of (Some (Integer kind)) = Some (integer_range kind)
range_of (Some Boolean) = Some (pos 0, pos 1)
range_of (Some Char) = Some (pos 0, pos 255)
range_of (Some (Enumeration values)) = Some (pos 0, pos values -ℤ pos 1)
range_of (Some (Subrange base low high)) = Some (low, high)
range_of _ = None

-- ordinal types range so
abbrev pub IsOrdinalRange : ℤ × ℤ → Type 0
IsOrdinalRange r = (negsuc 2147483647 ≤ℤ r.0) × (r.0 ≤ℤ pos 4294967295) × (negsuc 4294967295 ≤ℤ r.1) × (r.1 ≤ℤ pos 4294967295)

-- how many values that are
abbrev pub values_of : Option (ℤ × ℤ) → ℕ
values_of None = 0
values_of (Some range) = nat_abs (range.1 -ℤ range.0) + 1

-- ---- sizes, in bytes, and what is managed

-- A size above the greatest number of 32 bits counts as that number; types are much smaller.
abbrev pub capped : ℕ → ℕ
capped n = min n (2 ^ 32 - 1)

abbrev pub plain : ℕ → Bool → Extent
plain n managed = record { size = n; alignment = n; managed = managed }

abbrev pub integer_size : IntegerKind → ℕ
integer_size Signed8 = 1
integer_size Unsigned8 = 1
integer_size Signed16 = 2
integer_size Unsigned16 = 2
integer_size Signed32 = 4

-- the least multiple of an alignment that is not below a size
abbrev pub aligned : ℕ → ℕ → ℕ
aligned alignment size = capped (div_ceil size (max alignment 1) * max alignment 1)

-- parts, and one more behind them
abbrev pub extended : Extent → Extent → Extent
extended parts part = record {
  size = capped (aligned part.alignment parts.size + part.size);
  alignment = max parts.alignment part.alignment;
  managed = parts.managed || part.managed;
}

abbrev pub rounded : Extent → Extent
rounded parts = record parts { size = aligned parts.alignment parts.size }

-- the parts of a record, in order
abbrev pub in_order : (TypeId → Extent) → List Field → Extent
in_order inner fields = rounded (fold extended (record { size = 0; alignment = 1; managed = false }) (map (λ f. inner f.of) fields))

abbrev pub times : ℕ → Extent → Extent
times n element = record element { size = capped (n * element.size) }

abbrev is_com_kind : InterfaceKind → Bool
is_com_kind Com = true
is_com_kind Corba = false

abbrev pub is_com : Option Face → Bool
is_com None = false
is_com (Some face) = is_com_kind face.kind

-- By the extents of what it is made of. Strings, dynamic arrays and what holds an instance are managed, and so are the records
-- and static arrays that hold such.
abbrev pub extent_by : (TypeId → Extent) → Core → Option CoreType → Extent
extent_by inner core (Some (Integer kind)) = plain (integer_size kind) false
extent_by inner core (Some Boolean) = plain 1 false
extent_by inner core (Some Char) = plain 1 false
extent_by inner core (Some String) = plain 4 true
extent_by inner core (Some (DynamicArray element)) = plain 4 true
extent_by inner core (Some (Interface id)) = plain 4 (is_com (slice_get core.interfaces id.0))
extent_by inner core (Some (Record fields)) = in_order inner (rows core.fields fields)
extent_by inner core (Some (Array index element)) = times (values_of (range_of (type_at core index))) (inner element)
extent_by inner core _ = plain 4 false

-- what is kept for a type; what is none takes a word
abbrev pub extent_of : Core → TypeId → Extent
extent_of core of = unwrap_or (slice_get core.extents of.0) (plain 4 false)

-- what the extent of a type is made of stands in front of it
abbrev pub IsBehind : List Field → List Face → ℕ → CoreType → Type 0
IsBehind fields faces n (Record run) = (run.first + run.count ≤ length fields) × All (λ f. f.of.0 < n) (rows fields run)
IsBehind fields faces n (Array index element) = (index.0 < n) × (element.0 < n)
IsBehind fields faces n (Interface id) = id.0 < length faces
IsBehind fields faces n _ = Unit {0}

-- What is kept for each type is its extent, by what is kept for the types that it is made of.
pub record KeepsExtents (core : Core) : Type 0 where
  pub count : length core.extents ≡ length core.types
  pub behind : (n : ℕ) (t : CoreType) → slice_get core.types n ≡ Some t → IsBehind core.fields core.interfaces n t
  pub each : (n : ℕ) (t : CoreType) → slice_get core.types n ≡ Some t → slice_get core.extents n ≡ Some (extent_by (extent_of core) core (Some t))
