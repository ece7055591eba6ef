-- Types: which are one, and which are predefined (Free Pascal Reference Guide, "Types").
use Rattle.std.specs.Prelude.{ℕ, pos, Bool, false, ◌||◌, List, [], ◌∷◌, Option, Some, None, slice_get, nat_eq}
use Rattle.op_core.specs.declared.ids.TypeId.{TypeId}
use Rattle.op_core.specs.declared.types.CoreType.{CoreType}
use Rattle.op_core.specs.declared.types.CoreType.TheVariants.{Integer, Boolean, Char, String, Subrange, Set, DynamicArray, OpenArray, Nil, EmptySet, Nothing}
use Rattle.op_core.specs.declared.types.IntegerKind.TheVariants.{Signed8, Unsigned8, Signed16, Unsigned16, Signed32}

abbrev pub is_same : TypeId → TypeId → Bool
is_same a b = nat_eq a.0 b.0

-- the elements of two arrays without bounds, if they are such
abbrev pub elements : Option CoreType → Option CoreType → Option (TypeId × TypeId)
elements (Some (DynamicArray a)) (Some (DynamicArray b)) = Some (a, b)
elements (Some (OpenArray a)) (Some (OpenArray b)) = Some (a, b)
elements _ _ = None

-- there are such elements, of which this is true
abbrev pub true_of : (TypeId → TypeId → Bool) → Option (TypeId × TypeId) → Bool
true_of test None = false
true_of test (Some pair) = test pair.0 pair.1

-- Two types are one where they are the same, or arrays without bounds whose element types are one. No more arrays stand one
-- in the other than there are steps.
abbrev pub are_one : List CoreType → List CoreType → TypeId → TypeId → Bool
are_one [] types a b = is_same a b
are_one (step ∷ steps) types a b = is_same a b || true_of (are_one steps types) (elements (slice_get types a.0) (slice_get types b.0))

-- no array of a table stands in more others than the table has types
abbrev pub is_one_type : List CoreType → TypeId → TypeId → Bool
is_one_type types a b = are_one types types a b

abbrev pub id : ℕ → TypeId
id n = record { 0 = n }

-- what a table of types begins with
abbrev pub predefined : List CoreType
predefined =
    Integer Signed8 ∷ Integer Unsigned8 ∷ Integer Signed16 ∷ Integer Unsigned16 ∷ Integer Signed32 ∷ Boolean ∷ Char ∷ String ∷ Nil ∷ Nothing ∷ EmptySet
    ∷ Subrange (id 4) (pos 0) (pos 31) ∷ Set (id 11) ∷ Subrange (id 6) (pos 0) (pos 31) ∷ Set (id 13) ∷ Set (id 5) ∷ []
