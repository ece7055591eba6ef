-- What has to be ended of a value that has parts: the places of its managed parts, in order, by their types. (Free Pascal Reference Guide,
-- "Managed types".)
use Rattle.std.specs.Prelude.{ℕ, zero, suc, List, [], ◌∷◌, length, slice_get, if◌then◌else◌}
use Rattle.op_core.specs.Sizes.{type_at}
use Rattle.op_core.specs.declared.ids.ClassId.{ClassId}
use Rattle.op_core.specs.declared.ids.TypeId.{TypeId}
use Rattle.op_core.specs.declared.program.Core.{Core}
use Rattle.op_semantics.specs.Shapes.{is_managed, parts_by, part_type, field_type, fields_of_class}
use Rattle.op_meaning.specs.Values.{object, Place, Spot, all_of, part_at}

abbrev spot_if : Core → TypeId → Place → List Spot → List Spot
spot_if core of q spots = if is_managed core of then record { at = q; of = of } ∷ spots else spots

-- so many parts from the one with this number on, by what tells their types
unfoldable pub spots_from : Core → (ℕ → TypeId) → Place → ℕ → ℕ → List Spot
spots_from core of q zero k = []
spots_from core of q (suc count) k = spot_if core (of k) (part_at k q) (spots_from core of q count (suc k))

-- of a record or of an array with bounds
abbrev pub spots_of : Core → TypeId → Place → List Spot
spots_of core of q = spots_from core (part_type core (type_at core of)) q (parts_by core (type_at core of)) 0

-- of so many elements
abbrev pub spots_of_elements : Core → TypeId → ℕ → Place → List Spot
spots_of_elements core element count q = if is_managed core element then spots_from core (λ k. element) q count 0 else []

-- of an instance, its ancestors' fields first
abbrev pub spots_of_instance : Core → ClassId → ℕ → List Spot
spots_of_instance core c i = spots_from core (λ k. field_type (slice_get (fields_of_class core c) k)) (all_of (object i)) (length (fields_of_class core c)) 0
