-- What entering a type makes of a core.
use Rattle.std.specs.Prelude.{ℕ, pos, ◌+◌, int_le, nat_le, ◌&&◌, List, [], ◌∷◌, ◌++◌, length, Some, if◌then◌else◌}
use Rattle.op_core.specs.Sizes.{extent_by, extent_of}
use Rattle.op_core.specs.Types.{id}
use Rattle.op_core.specs.declared.program.Core.{Core}
use Rattle.op_core.specs.declared.types.CoreType.{CoreType}
use Rattle.op_core.specs.declared.types.CoreType.TheVariants.{Enumeration, Subrange, Set}
use Rattle.op_types.specs.declared.enter.Sets.{Sets}
use Rattle.op_types.specs.declared.enter.Sets.TheVariants.{None, OfAll, OfFirst}

-- with a type more, and its extent by those of its parts
abbrev pub with_type : Core → CoreType → Core
with_type core t = record core { types = core.types ++ t ∷ []; extents = core.extents ++ extent_by (extent_of core) core (Some t) ∷ [] }

-- of which values of a type there are sets
abbrev pub sets_of : CoreType → Sets
sets_of (Enumeration values) = if nat_le values 32 then OfAll else OfFirst
sets_of (Subrange base low high) = if int_le (pos 0) low && int_le high (pos 31) then OfAll else None
sets_of _ = None

-- what stands behind row n for these
abbrev pub rows_of : ℕ → Sets → List CoreType
rows_of n None = []
rows_of n OfAll = Set (id n) ∷ []
rows_of n OfFirst = Subrange (id n) (pos 0) (pos 31) ∷ Set (id (n + 1)) ∷ []

abbrev pub with_types : Core → List CoreType → Core
with_types core [] = core
with_types core (t ∷ ts) = with_types (with_type core t) ts

-- the type, and what stands behind it
unfoldable pub entered : Core → CoreType → Core
entered core t = with_types (with_type core t) (rows_of (length core.types) (sets_of t))
