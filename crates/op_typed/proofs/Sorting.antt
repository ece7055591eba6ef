-- What a sort says of its type.
use Rattle.std.proofs.Common.{◌≡◌, Option, Some, None, refl, subst}
use Rattle.op_core.specs.Members.{Kind}
use Rattle.op_core.specs.Sizes.{type_at}
use Rattle.op_core.specs.Typing.{IsOrdinal, IsString}
use Rattle.op_core.specs.declared.ids.TypeId.{TypeId}
use Rattle.op_core.specs.declared.program.Core.{Core}
use Rattle.op_core.specs.declared.types.CoreType.{CoreType}
use Rattle.op_core.specs.declared.types.CoreType.TheVariants as type
use Rattle.op_types.specs.Sorts.{by_kind, kind_by, kind_of, root_by, sort_by, sort_of}
use Rattle.op_types.specs.declared.sort.OrdinalKind.{OrdinalKind}
use Rattle.op_types.specs.declared.sort.Sort.{Sort}
use Rattle.op_types.specs.declared.sort.Sort.TheVariants.{Ordinal, String, Set, EmptySet, DynamicArray, Class, Interface, Nil, Other}

abbrev pub Stands : Core → TypeId → Sort → Type 0
Stands core of (Ordinal kind) = IsOrdinal core of × (kind_of core of ≡ Some kind)
Stands core of String = IsString core of
Stands core of (Set kind) = (base : TypeId) × Kind core of (type.Set base) × (kind_of core base ≡ Some kind)
Stands core of EmptySet = Kind core of type.EmptySet
Stands core of DynamicArray = (element : TypeId) × Kind core of (type.DynamicArray element)
Stands core of (Class c) = Kind core of (type.Class c)
Stands core of (Interface i) = Kind core of (type.Interface i)
Stands core of Nil = Kind core of type.Nil
Stands core of Other = Unit {0}

-- what has a kind is ordinal
ordinal_by : (core : Core) (of : TypeId) (kind : OrdinalKind) (t : Option CoreType) → type_at core of ≡ t → kind_by (root_by of t) (type_at core (root_by of t)) ≡ Some kind → IsOrdinal core of
ordinal_by core of kind (Some (type.Integer k)) e h = rw e tt
ordinal_by core of kind (Some type.Boolean) e h = rw e tt
ordinal_by core of kind (Some type.Char) e h = rw e tt
ordinal_by core of kind (Some (type.Enumeration count)) e h = rw e tt
ordinal_by core of kind (Some (type.Subrange base low high)) e h = rw e tt
ordinal_by core of kind t e h = let g = rw e at h in absurd (cc)

pub has_kind : (core : Core) (of : TypeId) (kind : OrdinalKind) → kind_of core of ≡ Some kind → IsOrdinal core of
has_kind core of kind h = ordinal_by core of kind (type_at core of) refl h

stands_ordinal : (core : Core) (of : TypeId) (o : Option OrdinalKind) → kind_of core of ≡ o → Stands core of (by_kind Ordinal o)
stands_ordinal core of None e = tt
stands_ordinal core of (Some kind) e = (has_kind core of kind e, e)

stands_set : (core : Core) (of base : TypeId) → Kind core of (type.Set base) → (o : Option OrdinalKind) → kind_of core base ≡ o → Stands core of (by_kind Set o)
stands_set core of base h None e = tt
stands_set core of base h (Some kind) e = (base, h, e)

stands_by : (core : Core) (of : TypeId) (t : Option CoreType) → type_at core of ≡ t → Stands core of (sort_by core of t)
stands_by core of (Some type.String) e = e
stands_by core of (Some (type.Set base)) e = stands_set core of base e (kind_of core base) refl
stands_by core of (Some (type.DynamicArray element)) e = (element, e)
stands_by core of (Some (type.Class id)) e = e
stands_by core of (Some (type.Interface id)) e = e
stands_by core of (Some type.Nil) e = e
stands_by core of (Some type.EmptySet) e = e
stands_by core of t e = stands_ordinal core of (kind_of core of) refl

pub stands : (core : Core) (of : TypeId) → Stands core of (sort_of core of)
stands core of = stands_by core of (type_at core of) refl

pub stands_as : (core : Core) (of : TypeId) (s : Sort) → sort_of core of ≡ s → Stands core of s
stands_as core of s e = subst (Stands core of) e (stands core of)
