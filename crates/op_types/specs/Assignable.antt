-- Which types are assignable to which (Free Pascal Reference Guide, "Assignments", "Classes" and "Interfaces").
use Rattle.std.specs.Prelude.{◌≡◌, ℕ, suc, ◌≤◌, Bool, true, false, ◌||◌, nat_eq, List, [], ◌∷◌, length, Option, Some, None, slice_get}
use Rattle.std.specs.List.{list_any}
use Rattle.std.specs.Option.{option_and_then}
use Rattle.op_core.specs.Members.{Descends, Extends, Implements}
use Rattle.op_core.specs.Rows.{rows}
use Rattle.op_core.specs.Types.{is_one_type}
use Rattle.op_core.specs.declared.class.Class.{Class as RustClass}
use Rattle.op_core.specs.declared.class.Interface.{Interface as Face}
use Rattle.op_core.specs.declared.ids.ClassId.{ClassId}
use Rattle.op_core.specs.declared.ids.InterfaceId.{InterfaceId}
use Rattle.op_core.specs.declared.ids.TypeId.{TypeId}
use Rattle.op_core.specs.declared.program.Core.{Core}
use Rattle.op_types.specs.Sorts.{is_reference, is_text, same_kind, sort_of}
use Rattle.op_types.specs.declared.sort.OrdinalKind.{OrdinalKind}
use Rattle.op_types.specs.declared.sort.OrdinalKind.TheVariants.{Char}
use Rattle.op_types.specs.declared.sort.Sort.{Sort}
use Rattle.op_types.specs.declared.sort.Sort.TheVariants.{Ordinal, String, Set, EmptySet, Class, Interface, Nil}

-- ---- what is assignable

-- A value of the one sort to a variable of the other: any integer or subrange of integers to another, a subrange and its base both
-- ways, and two subranges of one base; a Char to a string; a set to a set of the same base; nil to a class, an interface or a dynamic array; a class to its
-- ancestors and to the interfaces that it implements; an interface to its ancestors.
pub data Fits (core : Core) : Sort → Sort → Type 0 where
  ordinals : {a b : OrdinalKind} → same_kind a b ≡ true → Fits core (Ordinal a) (Ordinal b)
  char_to_string : Fits core (Ordinal Char) String
  sets : {a b : OrdinalKind} → same_kind a b ≡ true → Fits core (Set a) (Set b)
  empty_set : {b : OrdinalKind} → Fits core EmptySet (Set b)
  nil : {to : Sort} → is_reference to ≡ true → Fits core Nil to
  to_ancestor : {a b : ClassId} → Descends core a b → Fits core (Class a) (Class b)
  to_interface : {a : ClassId} {b : InterfaceId} → Implements core a b → Fits core (Class a) (Interface b)
  to_parent : {a b : InterfaceId} → Extends core a b → Fits core (Interface a) (Interface b)

-- A type to itself, and by their sorts. Two types are one by their names, but dynamic arrays by their elements.
pub data Assignable (core : Core) (from to : TypeId) : Type 0 where
  one_type : is_one_type core.types from to ≡ true → Assignable core from to
  by_sort : Fits core (sort_of core from) (sort_of core to) → Assignable core from to

-- ---- as a test

abbrev pub ancestor_of : Core → ClassId → Option ClassId
ancestor_of core id = option_and_then (λ x. x.ancestor) (slice_get core.classes id.0)

abbrev pub parent_of : Core → InterfaceId → Option InterfaceId
parent_of core id = option_and_then (λ x. x.ancestor) (slice_get core.interfaces id.0)

abbrev pub true_of : {A : Type 0} → (A → Bool) → Option A → Bool
true_of test None = false
true_of test (Some a) = test a

-- it passes the test, or one that stands above it in no more steps than there are
abbrev pub some_above : {A I : Type 0} → List A → (I → Option I) → (I → Bool) → I → Bool
some_above [] above test n = test n
some_above (step ∷ steps) above test n = test n || true_of (some_above steps above test) (above n)

-- No class has more ancestors than there are classes.
abbrev pub descends_within : List RustClass → Core → ClassId → ClassId → Bool
descends_within steps core a b = some_above steps (ancestor_of core) (λ c. nat_eq c.0 b.0) a

abbrev pub extends_within : List Face → Core → InterfaceId → InterfaceId → Bool
extends_within steps core a b = some_above steps (parent_of core) (λ i. nat_eq i.0 b.0) a

abbrev pub listed_in : Core → Option RustClass → List InterfaceId
listed_in core None = []
listed_in core (Some x) = rows core.listed x.interfaces

abbrev pub listed_by : Core → ClassId → List InterfaceId
listed_by core id = listed_in core (slice_get core.classes id.0)

abbrev pub extends_any : Core → List InterfaceId → InterfaceId → Bool
extends_any core listed b = list_any (λ a. extends_within core.interfaces core a b) listed

abbrev pub implements_within : List RustClass → Core → ClassId → InterfaceId → Bool
implements_within steps core a b = some_above steps (ancestor_of core) (λ c. extends_any core (listed_by core c) b) a

abbrev pub fits : Core → Sort → Sort → Bool
fits core (Ordinal a) (Ordinal b) = same_kind a b
fits core (Set a) (Set b) = same_kind a b
fits core EmptySet (Set b) = true
fits core (Ordinal a) String = is_text (Ordinal a)
fits core Nil to = is_reference to
fits core (Class a) (Class b) = descends_within core.classes core a b
fits core (Class a) (Interface b) = implements_within core.classes core a b
fits core (Interface a) (Interface b) = extends_within core.interfaces core a b
fits core _ _ = false

abbrev pub assignable : Core → TypeId → TypeId → Bool
assignable core from to = is_one_type core.types from to || fits core (sort_of core from) (sort_of core to)

-- ---- chains of ancestors

-- so many steps lead to one that has nothing above it
pub data Depth {I : Type 0} (above : I → Option I) : I → ℕ → Type 0 where
  top : {n : I} → above n ≡ None → Depth above n 0
  below : {n m : I} {k : ℕ} → above n ≡ Some m → Depth above m k → Depth above n (suc k)

-- no class and no interface stands above itself
pub record ChainsEnd (core : Core) : Type 0 where
  pub classes : (c : ClassId) → (k : ℕ) × Depth (ancestor_of core) c k × (k ≤ length core.classes)
  pub interfaces : (i : InterfaceId) → (k : ℕ) × Depth (parent_of core) i k × (k ≤ length core.interfaces)
