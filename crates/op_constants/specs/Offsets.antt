-- How much room values take in memory, and where their parts begin. (Free Pascal Reference Guide, "Types", "Record types" and
-- "Arrays".)
use Rattle.std.specs.Prelude.{ℕ, zero, suc, ◌+◌, List, [], ◌∷◌, Option, Some}
use Rattle.op_core.specs.Rows.{rows}
use Rattle.op_core.specs.Sizes.{type_at, extent_of, aligned, capped}
use Rattle.op_core.specs.declared.ids.TypeId.{TypeId}
use Rattle.op_core.specs.declared.program.Core.{Core}
use Rattle.op_core.specs.declared.types.CoreType.{CoreType}
use Rattle.op_core.specs.declared.types.CoreType.TheVariants.{Record, Array}
use Rattle.op_core.specs.declared.types.Extent.{Extent}
use Rattle.op_core.specs.declared.types.Field.{Field}

-- in bytes
abbrev pub size_in : Core → TypeId → ℕ
size_in core of = (extent_of core of).size

-- what the address of a value is a multiple of
abbrev pub alignment_in : Core → TypeId → ℕ
alignment_in core of = (extent_of core of).alignment

-- a part behind so many bytes begins at the next multiple of its alignment
abbrev pub begin_behind : ℕ → Extent → ℕ
begin_behind end part = aligned part.alignment end

abbrev pub end_behind : ℕ → Extent → ℕ
end_behind end part = capped (begin_behind end part + part.size)

-- ---- records: the fields lie in order of declaration, each at its alignment

-- where a field begins that is so far behind the first one, which stands behind so many bytes
abbrev pub offset_behind : Core → ℕ → List Field → ℕ → ℕ
offset_behind core end [] k = end
offset_behind core end (f ∷ fs) zero = begin_behind end (extent_of core f.of)
offset_behind core end (f ∷ fs) (suc k) = offset_behind core (end_behind end (extent_of core f.of)) fs k

-- what is no record has no fields
abbrev pub fields_in : Core → Option CoreType → List Field
fields_in core (Some (Record fields)) = rows core.fields fields
fields_in core _ = []

-- where a field of a record begins, by its number from 0
abbrev pub field_offset : Core → TypeId → ℕ → ℕ
field_offset core of k = offset_behind core 0 (fields_in core (type_at core of)) k

-- ---- arrays: the elements lie one behind the other

abbrev pub element_size_by : Core → Option CoreType → ℕ
element_size_by core (Some (Array index element)) = size_in core element
element_size_by core _ = 0

-- what is no array has no elements
abbrev pub element_size : Core → TypeId → ℕ
element_size core of = element_size_by core (type_at core of)
