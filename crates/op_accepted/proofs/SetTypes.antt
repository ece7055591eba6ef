-- Types of sets are solid, and so is what is of an ordinal sort.
use Rattle.std.proofs.Common.{◌≡◌, ℤ, Bool, true, false, Option, Some, None, refl, ap, subst, arith, if◌then◌else◌}
use Rattle.std.specs.Option.{IsSomeAnd}
use Rattle.std.specs.Prelude.{unwrap_or}
use Rattle.op_core.specs.Sizes.{range_of, type_at}
use Rattle.op_core.specs.Types.{id, is_same}
use Rattle.op_core.specs.Typing.{is_set}
use Rattle.op_core.specs.declared.ids.TypeId.{TypeId}
use Rattle.op_core.specs.declared.program.Core.{Core}
use Rattle.op_core.specs.declared.types.CoreType.{CoreType}
use Rattle.op_core.specs.declared.types.CoreType.TheVariants as type
use Rattle.op_typed.proofs.Sorting.{stands_as}
use Rattle.op_types.specs.Operators as table
use Rattle.op_types.specs.Sets.{behind, common_by, common_set, is_set_of, set_behind, set_over, widest_of, widest_set}
use Rattle.op_types.specs.Sorts.{kind_of, sort_of}
use Rattle.op_types.specs.declared.sort.OrdinalKind.{OrdinalKind}
use Rattle.op_types.specs.declared.sort.OrdinalKind.TheVariants.{Integer, Boolean, Char, Enumeration}
use Rattle.op_types.specs.declared.sort.Sort.{Sort}
use Rattle.op_types.specs.declared.sort.Sort.TheVariants as sort
use Rattle.op_typing.specs.Simple.{IsSolidType, is_solid}
use Rattle.op_accepted.specs.Fit.{IsFitTables}
use Rattle.op_accepted.proofs.Solid.{ordinal_solid, predefined_at}

-- ---- types of sets

-- sets of a base, and what [] is
abbrev pub IsSetType : Core → TypeId → Type 0
IsSetType core of = is_set (type_at core of) ≡ true

set_is_solid : (t : Option CoreType) → is_set t ≡ true → is_solid t ≡ true
set_is_solid (Some (type.Set base)) h = refl
set_is_solid (Some type.EmptySet) h = refl
set_is_solid t h = absurd (cc)

pub set_solid : (core : Core) (of : TypeId) → IsSetType core of → IsSolidType core of
set_solid core of h = set_is_solid (type_at core of) h

-- the type that stands behind its base is a set's
behind_is : (core : Core) (base set : TypeId) → set_behind core base ≡ Some set → IsSetType core set
behind_is core base set h = go (type_at core (behind base 1)) refl h
  where
    own : (b : TypeId) (s : Bool) → type_at core (behind base 1) ≡ Some (type.Set b) → (if s then Some (behind base 1) else None) ≡ Some set → IsSetType core set
    own b true k g = let at : behind base 1 ≡ set = cc in subst (IsSetType core) at (ap is_set k)
    own b false k g = absurd (cc)

    go : (t : Option CoreType) → type_at core (behind base 1) ≡ t → (if is_set_of base t then Some (behind base 1) else None) ≡ Some set → IsSetType core set
    go (Some (type.Set b)) e g = own b (is_same b base) e g
    go t e g = absurd (cc)

behind_or : (core : Core) (base other : TypeId) → IsSetType core other → IsSetType core (unwrap_or (set_behind core base) other)
behind_or core base other h = go (set_behind core base) refl
  where
    go : (o : Option TypeId) → set_behind core base ≡ o → IsSetType core (unwrap_or o other)
    go (Some set) e = behind_is core base set e
    go None e = h

integers_set : {core : Core} → IsFitTables core → IsSetType core (id 12)
integers_set t = ap is_set (predefined_at t 12 (omega arith))

widest_is : {core : Core} → IsFitTables core → (k : OrdinalKind) → IsSetType core (widest_set core k)
widest_is t Integer = integers_set t
widest_is t Char = ap is_set (predefined_at t 14 (omega arith))
widest_is t Boolean = ap is_set (predefined_at t 15 (omega arith))
widest_is {core} t (Enumeration of) = behind_or core of (unwrap_or (set_behind core (behind of 1)) (id 12)) (behind_or core (behind of 1) (id 12) (integers_set t))

pub empty_is_set : {core : Core} → IsFitTables core → IsSetType core table.empty_set
empty_is_set {core} t = ap is_set (predefined_at t 10 (omega arith))

pub over_is_set : {core : Core} → IsFitTables core → (of : TypeId) → IsSetType core (set_over core of)
over_is_set {core} t of = behind_or core of (widest_of core (kind_of core of)) (go (kind_of core of))
  where
    go : (k : Option OrdinalKind) → IsSetType core (widest_of core k)
    go None = empty_is_set t
    go (Some k) = widest_is t k

-- what holds of the widest types holds of the type that two sets go to, if it holds of theirs
common_as : (core : Core) (P : TypeId → Type 0) → ((k : OrdinalKind) → P (widest_set core k)) → (a b : TypeId) → P a → P b → P (common_set core a b)
common_as core P widest a b h k = go (sort_of core a) (sort_of core b)
  where
    own : (kind : OrdinalKind) (s : Bool) → P (if s then a else widest_set core kind)
    own kind true = h
    own kind false = widest kind

    go : (s t : Sort) → P (common_by core a b s t)
    go sort.EmptySet t = k
    go (sort.Set kind) (sort.Set other) = own kind (is_same a b)
    go s t = h

pub common_is_set : {core : Core} → IsFitTables core → (a b : TypeId) → IsSetType core a → IsSetType core b → IsSetType core (common_set core a b)
common_is_set {core} t a b h k = common_as core (IsSetType core) (widest_is t) a b h k

pub common_solid : {core : Core} → IsFitTables core → (a b : TypeId) → IsSolidType core a → IsSolidType core b → IsSolidType core (common_set core a b)
common_solid {core} t a b h k = common_as core (IsSolidType core) (λ kind. set_solid core (widest_set core kind) (widest_is t kind)) a b h k

-- ---- by sorts

-- numbers and sets
abbrev pub is_solid_sort : Sort → Bool
is_solid_sort (sort.Ordinal kind) = true
is_solid_sort (sort.Set kind) = true
is_solid_sort sort.EmptySet = true
is_solid_sort s = false

pub sort_solid : (core : Core) (of : TypeId) (s : Sort) → sort_of core of ≡ s → is_solid_sort s ≡ true → IsSolidType core of
sort_solid core of (sort.Ordinal kind) e h = go (range_of (type_at core of)) refl (stands_as core of (sort.Ordinal kind) e).0
  where
    go : (o : Option (ℤ × ℤ)) → range_of (type_at core of) ≡ o → IsSomeAnd o (λ r. Unit {0}) → IsSolidType core of
    go (Some r) q g = ordinal_solid core of r q
    go None q g = absurd g
sort_solid core of (sort.Set kind) e h = let s = stands_as core of (sort.Set kind) e in ap is_solid s.1
sort_solid core of sort.EmptySet e h = ap is_solid (stands_as core of sort.EmptySet e)
sort_solid core of s e h = absurd (cc)
