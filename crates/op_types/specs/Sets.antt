-- Sets: the type of one whose use does not tell it, and what operators make of two (Free Pascal Reference Guide, "Set types" and
-- "Set operators").
use Rattle.std.specs.Prelude.{ℕ, zero, suc, ℤ, pos, ◌+◌, nat_eq, int_le, Bool, false, not, ◌&&◌, ◌||◌, List, [], ◌∷◌, ◌++◌, Option, Some, None, unwrap_or, if◌then◌else◌}
use Rattle.std.specs.List.{list_all, list_any}
use Rattle.op_core.specs.Sizes.{capped, type_at}
use Rattle.op_core.specs.Types.{id, is_same}
use Rattle.op_core.specs.declared.ids.TypeId.{TypeId}
use Rattle.op_core.specs.declared.program.Core.{Core}
use Rattle.op_core.specs.declared.types.CoreType.{CoreType}
use Rattle.op_core.specs.declared.types.CoreType.TheVariants as type
use Rattle.op_tree.specs.declared.operator.Operator.{Operator}
use Rattle.op_tree.specs.declared.operator.Operator.TheVariants.{Add, Subtract}
use Rattle.op_types.specs.Sorts.{kind_of, sort_of}
use Rattle.op_types.specs.declared.sort.OrdinalKind.{OrdinalKind}
use Rattle.op_types.specs.declared.sort.OrdinalKind.TheVariants.{Integer, Boolean, Char, Enumeration}
use Rattle.op_types.specs.declared.sort.Sort.{Sort}
use Rattle.op_types.specs.declared.sort.Sort.TheVariants.{Set, EmptySet}

-- ---- types

-- the type that stands so many rows behind
abbrev pub behind : TypeId → ℕ → TypeId
behind of n = id (capped (of.0 + n))

abbrev pub is_set_of : TypeId → Option CoreType → Bool
is_set_of base (Some (type.Set b)) = is_same b base
is_set_of base _ = false

-- the set type of a base, which stands right behind that
abbrev pub set_behind : Core → TypeId → Option TypeId
set_behind core base = if is_set_of base (type_at core (behind base 1)) then Some (behind base 1) else None

-- The set type of the values 0 to 31 of a kind. Behind a larger enumeration the subrange of these values stands in between. Where
-- the number of that row is too large there is no such type, and sets of integers stand in for it.
abbrev pub widest_set : Core → OrdinalKind → TypeId
widest_set core Integer = id 12
widest_set core Char = id 14
widest_set core Boolean = id 15
widest_set core (Enumeration of) = unwrap_or (set_behind core of) (unwrap_or (set_behind core (behind of 1)) (id 12))

abbrev pub widest_of : Core → Option OrdinalKind → TypeId
widest_of core None = id 10
widest_of core (Some kind) = widest_set core kind

-- the set type of elements of an ordinal type: its own one where it has one, else the widest
abbrev pub set_over : Core → TypeId → TypeId
set_over core of = unwrap_or (set_behind core of) (widest_of core (kind_of core of))

abbrev pub common_by : Core → TypeId → TypeId → Sort → Sort → TypeId
common_by core a b EmptySet s = b
common_by core a b (Set kind) (Set other) = if is_same a b then a else widest_set core kind
common_by core a b s t = a

-- the set type to which sets of two types of one kind go
abbrev pub common_set : Core → TypeId → TypeId → TypeId
common_set core a b = common_by core a b (sort_of core a) (sort_of core b)

-- ---- values

abbrev pub has : List ℕ → ℕ → Bool
has elements n = list_any (λ x. nat_eq x n) elements

abbrev pub only : ℕ → Bool → List ℕ
only n is_in = if is_in then n ∷ [] else []

-- the numbers from n on of which this is true, of so many
unfoldable pub those_from : ℕ → ℕ → (ℕ → Bool) → List ℕ
those_from n zero test = []
those_from n (suc count) test = only n (test n) ++ those_from (suc n) count test

-- the elements of a set: the numbers from 0 to 31 of which this is true
abbrev pub elements : (ℕ → Bool) → List ℕ
elements test = those_from 0 32 test

-- whether what an operator makes of two sets has a number that they have or lack
abbrev pub is_kept : Operator → Bool → Bool → Bool
is_kept Add a b = a || b
is_kept Subtract a b = a && not b
is_kept _ a b = a && b

abbrev pub combined : Operator → List ℕ → List ℕ → List ℕ
combined o a b = elements (λ n. is_kept o (has a n) (has b n))

abbrev pub is_between : ℤ → ℤ → ℕ → Bool
is_between low high n = int_le low (pos n) && int_le (pos n) high

abbrev pub between : ℤ → ℤ → List ℕ
between low high = elements (is_between low high)

-- each element of the first is one of the second
abbrev pub is_part : List ℕ → List ℕ → Bool
is_part a b = list_all (has b) a
