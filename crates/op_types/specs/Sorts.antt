-- The sorts of types: what the rules of operators and assignments ask of a type.
use Rattle.std.specs.Prelude.{Bool, true, false, Option, Some, None}
use Rattle.op_core.specs.Sizes.{type_at}
use Rattle.op_core.specs.Types.{is_same}
use Rattle.op_core.specs.declared.ids.TypeId.{TypeId}
use Rattle.op_core.specs.declared.program.Core.{Core}
use Rattle.op_core.specs.declared.types.CoreType.{CoreType}
use Rattle.op_core.specs.declared.types.CoreType.TheVariants as type
use Rattle.op_types.specs.declared.sort.OrdinalKind.{OrdinalKind}
use Rattle.op_types.specs.declared.sort.OrdinalKind.TheVariants.{Integer, Boolean, Char, Enumeration}
use Rattle.op_types.specs.declared.sort.Sort.{Sort}
use Rattle.op_types.specs.declared.sort.Sort.TheVariants.{Ordinal, String, Set, EmptySet, DynamicArray, Class, Interface, Nil, Other}

-- the type of which this one is a subrange, or the type itself
abbrev pub root_by : TypeId → Option CoreType → TypeId
root_by of (Some (type.Subrange base low high)) = base
root_by of _ = of

abbrev pub root_of : Core → TypeId → TypeId
root_of core of = root_by of (type_at core of)

abbrev pub kind_by : TypeId → Option CoreType → Option OrdinalKind
kind_by of (Some (type.Integer kind)) = Some Integer
kind_by of (Some type.Boolean) = Some Boolean
kind_by of (Some type.Char) = Some Char
kind_by of (Some (type.Enumeration values)) = Some (Enumeration of)
kind_by of _ = None

-- all integers are of one kind
abbrev pub kind_of : Core → TypeId → Option OrdinalKind
kind_of core of = kind_by (root_of core of) (type_at core (root_of core of))

abbrev pub by_kind : (OrdinalKind → Sort) → Option OrdinalKind → Sort
by_kind sort (Some kind) = sort kind
by_kind sort None = Other

abbrev pub sort_by : Core → TypeId → Option CoreType → Sort
sort_by core of (Some type.String) = String
sort_by core of (Some (type.Set base)) = by_kind Set (kind_of core base)
sort_by core of (Some (type.DynamicArray element)) = DynamicArray
sort_by core of (Some (type.Class id)) = Class id
sort_by core of (Some (type.Interface id)) = Interface id
sort_by core of (Some type.Nil) = Nil
sort_by core of (Some type.EmptySet) = EmptySet
sort_by core of _ = by_kind Ordinal (kind_of core of)

abbrev pub sort_of : Core → TypeId → Sort
sort_of core of = sort_by core of (type_at core of)

abbrev pub same_kind : OrdinalKind → OrdinalKind → Bool
same_kind Integer Integer = true
same_kind Boolean Boolean = true
same_kind Char Char = true
same_kind (Enumeration a) (Enumeration b) = is_same a b
same_kind _ _ = false

-- strings, and what becomes one where one is needed
abbrev pub is_text : Sort → Bool
is_text String = true
is_text (Ordinal Char) = true
is_text _ = false

-- sets of elements of one kind; one without elements is of any
abbrev pub are_sets : Sort → Sort → Bool
are_sets (Set a) (Set b) = same_kind a b
are_sets (Set a) EmptySet = true
are_sets EmptySet (Set b) = true
are_sets EmptySet EmptySet = true
are_sets _ _ = false

-- of which nil is a value
abbrev pub is_reference : Sort → Bool
is_reference DynamicArray = true
is_reference (Class id) = true
is_reference (Interface id) = true
is_reference Nil = true
is_reference _ = false
