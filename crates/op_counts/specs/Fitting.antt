-- What it is for a value to have the shape of its type: a record has a part for each field, an array one for each index, and each part the
-- shape of its own type. So have the elements of a dynamic array and the fields of an instance. (Free Pascal Reference Guide, "Types",
-- "Record types", "Arrays" and "Classes".)
use Rattle.std.specs.Prelude.{◌≡◌, ℕ, zero, suc, ◌<◌, List, [], ◌∷◌, length, Option, slice_get}
use Rattle.op_core.specs.Sizes.{type_at}
use Rattle.op_core.specs.declared.ids.TypeId.{TypeId}
use Rattle.op_core.specs.declared.program.Core.{Core}
use Rattle.op_core.specs.declared.types.CoreType.{CoreType}
use Rattle.op_meaning.specs.Shapes.{Shape, single, composite, of_chars, of_elements, of_instance, shape_of, parts_by, part_type, field_type, fields_of_class}
use Rattle.op_meaning.specs.Values.{Value, number, parts, text, line, array, instance, part_of}
use Rattle.op_meaning.specs.World.{Object, elements, fields}

-- a value of so many parts, each as its type asks
abbrev pub HasParts : (TypeId → Value → Type 0) → ℕ → (ℕ → TypeId) → Value → Type 0
HasParts Inner n of v = (v ≡ parts n (λ k. part_of k v)) × ((k : ℕ) → k < n → Inner (of k) (part_of k v))

-- a line that is being read stands where a string does
abbrev pub HasShape : (TypeId → Value → Type 0) → Core → Option CoreType → Shape → Value → Type 0
HasShape Inner core of (single kind) (number n) = Unit {0}
HasShape Inner core of composite v = HasParts Inner (parts_by core of) (part_type core of) v
HasShape Inner core of of_chars (text t) = Unit {0}
HasShape Inner core of of_chars (line n) = Unit {0}
HasShape Inner core of of_elements (array n) = Unit {0}
HasShape Inner core of (of_instance holds) (instance has n) = has ≡ holds
HasShape Inner core of shape v = ⊥

-- down to so many levels
abbrev pub FitsTo : ℕ → Core → TypeId → Value → Type 0
FitsTo zero core of v = Unit {0}
FitsTo (suc n) core of v = HasShape (FitsTo n core) core (type_at core of) (shape_of core of) v

abbrev pub Fits : Core → TypeId → Value → Type 0
Fits core of v = (n : ℕ) → FitsTo n core of v

-- what a name holds: the elements of an array, and the fields of an instance, its ancestors' first
abbrev pub FitsObject : Core → Object → Value → Type 0
FitsObject core (elements of count) v = HasParts (Fits core) count (λ k. of) v
FitsObject core (fields c phase) v = HasParts (Fits core) (length (fields_of_class core c)) (λ k. field_type (slice_get (fields_of_class core c) k)) v
FitsObject core o v = Unit {0}

-- ---- paths by types

-- each number is one of a part that the type has which the path is at
abbrev pub IsWithin : Core → TypeId → List ℕ → Type 0
IsWithin core of [] = Unit {0}
IsWithin core of (k ∷ ks) = (shape_of core of ≡ composite) × (k < parts_by core (type_at core of)) × IsWithin core (part_type core (type_at core of) k) ks

-- the type that the path comes to
abbrev pub type_along : Core → TypeId → List ℕ → TypeId
type_along core of [] = of
type_along core of (k ∷ ks) = type_along core (part_type core (type_at core of) k) ks
