-- Sets that are written are fit.
use Rattle.std.proofs.Common.{◌≡◌, ◌⊎◌, inl, inr, Bool, true, false, ◌&&◌, List, [], ◌∷◌, ◌++◌, map, Option, Some, None, refl, ap, subst, if◌then◌else◌}
use Rattle.std.proofs.lemmas.Bool.{and_from, false≢true, or_cases}
use Rattle.std.specs.List.{list_all}
use Rattle.std.specs.Option.{IsSomeAnd}
use Rattle.op_base.specs.declared.place.Place.{Place}
use Rattle.op_check_expr.specs.Constructors.{Member, are_constants, both_in_set, constant_member, constant_members, constant_of, element_tree, elements_from, is_small, member_in_set, or_own, place_of, set_by, set_tree, type_of_set, value_in_set, wanted_or}
use Rattle.op_check_expr.specs.Constructors as member
use Rattle.op_check_expr.specs.Values.{Value, constant, as_type, type_of}
use Rattle.op_core.specs.Expression.{Elements}
use Rattle.op_core.specs.Sizes.{type_at}
use Rattle.op_core.specs.Types.{elements, is_one_type}
use Rattle.op_core.specs.Typing as typing
use Rattle.op_core.specs.declared.ids.TypeId.{TypeId}
use Rattle.op_core.specs.declared.program.Core.{Core}
use Rattle.op_core.specs.declared.types.CoreType.{CoreType}
use Rattle.op_core.specs.declared.types.CoreType.TheVariants as type
use Rattle.op_plain.specs.Plain.{are_plain_elements, is_plain_element, is_plain_expression}
use Rattle.op_typed.proofs.Sorting.{stands_as}
use Rattle.op_typed.proofs.TypeFacts.{one_or_elements}
use Rattle.op_judgement.specs.Judgement.{checked}
use Rattle.op_types.specs.Assignable.{assignable, fits}
use Rattle.op_types.specs.Operators as table
use Rattle.op_types.specs.Sorts.{are_sets, by_kind, kind_of, sort_by, sort_of}
use Rattle.op_types.specs.declared.constant.Constant.{Constant}
use Rattle.op_types.specs.declared.sort.OrdinalKind.{OrdinalKind}
use Rattle.op_types.specs.declared.sort.Sort.{Sort}
use Rattle.op_types.specs.declared.sort.Sort.TheVariants as sort
use Rattle.op_typing.specs.Simple.{IsSolidType, is_solid}
use Rattle.op_accepted.specs.Fit.{IfAny, IfTyped, IsFitTables, IsFitTree, IsFitValue, any_text, some}
use Rattle.op_accepted.proofs.ConstantParts.{IsFitSet, bracketed_fits, gathered_fits, no_members_fit, range_fits, single_fits}
use Rattle.op_accepted.proofs.Parts.{any_as, fits_as, fits_changed, fits_fine, fits_followed, fits_standing, fits_test, fits_with}
use Rattle.op_accepted.proofs.SetTypes.{IsSetType, common_is_set, empty_is_set, over_is_set, set_solid}
use Rattle.op_accepted.proofs.Solid.{made_of}
use Rattle.op_accepted.proofs.Trees.{as_ordinal_fits}
use Rattle.op_judgement.specs.declared.rules.LanguageRule.TheVariants.{NoSetElement, NotAssignable, NotOrdinal}
use Rattle.op_types.specs.ConstantParts.{is_ordinal, no_members}

abbrev pub IsFitMember : Core → Member → Type 0
IsFitMember core (member.one at v) = IsFitValue core v
IsFitMember core (member.range at v at' v') = IsFitValue core v × IsFitValue core v'

abbrev pub AreFitMembers : Core → List Member → Type 0
AreFitMembers core [] = Unit {0}
AreFitMembers core (m ∷ ms) = IsFitMember core m × AreFitMembers core ms

pub members_behind : (core : Core) (ms : List Member) (m : Member) → AreFitMembers core ms → IsFitMember core m → AreFitMembers core (ms ++ m ∷ [])
members_behind core [] m h k = (k, tt)
members_behind core (x ∷ xs) m h k = (h.0, members_behind core xs m h.1 k)

constant_member_fits : {core : Core} → IsFitTables core → (m : Member) → IfTyped (IsFitSet core) (checked (constant_member core m))
constant_member_fits t (member.one at v) = single_fits t at (constant_of v)
constant_member_fits t (member.range at v at' v') = range_fits t at (constant_of v) at' (constant_of v')

constant_members_fit : {core : Core} → IsFitTables core → (ms : List Member) {o : Option Constant} → IfAny (IsFitSet core) o → IfTyped (IsFitSet core) (checked (constant_members core o ms))
constant_members_fit t [] h = fits_standing h
constant_members_fit t (m ∷ ms) h = fits_followed (constant_member_fits t m) (λ b k. fits_followed (gathered_fits t (place_of m) h k) (λ c i. constant_members_fit t ms i))

-- of an ordinal type
abbrev InOrdinal : Core → Value → Type 0
InOrdinal core v = (kind : OrdinalKind) × (sort_of core (type_of v) ≡ sort.Ordinal kind)

abbrev IsOrdinalMember : Core → Member → Type 0
IsOrdinalMember core (member.one at v) = InOrdinal core v
IsOrdinalMember core (member.range at v at' v') = InOrdinal core v × InOrdinal core v'

abbrev AreOrdinal : Core → List Member → Type 0
AreOrdinal core [] = Unit {0}
AreOrdinal core (m ∷ ms) = IsOrdinalMember core m × AreOrdinal core ms

ordinal_sort : (s : Sort) → is_ordinal s ≡ true → (kind : OrdinalKind) × (s ≡ sort.Ordinal kind)
ordinal_sort (sort.Ordinal kind) h = (kind, refl)
ordinal_sort s h = absurd (false≢true h)

value_in_set_fits : {core : Core} → IsFitTables core → (at : Place) (v : Value) → IfTyped (λ of. IsSetType core of × InOrdinal core v) (checked (value_in_set core at v))
value_in_set_fits {core} t at v = fits_test NotOrdinal at (is_ordinal (sort_of core (type_of v))) (λ o. fits_test NoSetElement at (is_small v) (λ _. fits_fine (over_is_set t (type_of v), ordinal_sort (sort_of core (type_of v)) o)))

member_in_set_fits : {core : Core} → IsFitTables core → (m : Member) → IfTyped (λ of. IsSetType core of × IsOrdinalMember core m) (checked (member_in_set core m))
member_in_set_fits t (member.one at v) = value_in_set_fits t at v
member_in_set_fits {core} t (member.range at v at' v') =
    fits_followed (value_in_set_fits t at v) (λ a h. fits_followed (value_in_set_fits t at' v') (λ b k. fits_with h (λ a h. fits_with k (λ b k.
    fits_test NotAssignable at' (assignable core (type_of v') (type_of v)) (λ _. fits_fine (common_is_set t a b h.0 k.0, (h.1, k.1)))))))

both_in_set_fits : {core : Core} → IsFitTables core → (Q R : Type 0) (at : Place) {a b : Option TypeId} → IfAny (λ of. IsSetType core of × Q) a → IfAny (λ of. IsSetType core of × R) b → IfTyped (λ of. IsSetType core of × (Q × R)) (checked (both_in_set core at a b))
both_in_set_fits {core} t Q R at h k =
    fits_with h (λ a h. fits_with k (λ b k. fits_test NotAssignable at (are_sets (sort_of core a) (sort_of core b)) (λ _. fits_fine (common_is_set t a b h.0 k.0, (h.1, k.1)))))

-- Q is what is known of the elements so far
type_of_set_fits : {core : Core} → IsFitTables core → (Q : Type 0) (ms : List Member) {o : Option TypeId} → IfAny (λ of. IsSetType core of × Q) o → IfTyped (λ of. IsSetType core of × (Q × AreOrdinal core ms)) (checked (type_of_set core o ms))
type_of_set_fits t Q [] h = fits_standing (any_as h (λ of k. (k.0, (k.1, tt))))
type_of_set_fits {core} t Q (m ∷ ms) h =
    fits_followed (member_in_set_fits t m) (λ b k. fits_followed (both_in_set_fits t Q (IsOrdinalMember core m) (place_of m) h k) (λ c i. fits_as (type_of_set_fits t (Q × IsOrdinalMember core m) ms i) (λ of q. (q.0, (q.1.0.0, (q.1.0.1, q.1.1))))))

ordinal_fits : (core : Core) → IsFitTables core → (base : TypeId) (v : Value) → IsSolidType core base → InOrdinal core v → IsFitValue core v → IsFitTree core (as_type core true base v)
ordinal_fits core t base v s o h = as_ordinal_fits core t true base v o.0 h s o.1

member_tree_fits : (core : Core) → IsFitTables core → (base : TypeId) (m : Member) → IsSolidType core base → IsOrdinalMember core m → IsFitMember core m → is_plain_element any_text core (element_tree core base m) ≡ true
member_tree_fits core t base (member.one at v) s o h = ordinal_fits core t base v s o h
member_tree_fits core t base (member.range at v at' v') s o h =
    and_from (is_plain_expression any_text core (as_type core true base v)) (is_plain_expression any_text core (as_type core true base v')) (ordinal_fits core t base v s o.0 h.0) (ordinal_fits core t base v' s o.1 h.1)

member_trees_fit : (core : Core) → IsFitTables core → (base : TypeId) (ms : List Member) → IsSolidType core base → AreOrdinal core ms → AreFitMembers core ms → are_plain_elements any_text core (elements_from (map (element_tree core base) ms)) ≡ true
member_trees_fit core t base [] s o h = refl
member_trees_fit core t base (m ∷ ms) s o h =
    and_from (is_plain_element any_text core (element_tree core base m)) (are_plain_elements any_text core (elements_from (map (element_tree core base) ms))) (member_tree_fits core t base m s o.0 h.0) (member_trees_fit core t base ms s o.1 h.1)

set_tree_fits : {core : Core} → IsFitTables core → (of : TypeId) (ms : List Member) → IsSetType core of → AreOrdinal core ms → AreFitMembers core ms → IsFitValue core (set_tree core of ms)
set_tree_fits {core} t of ms s o h = ((and_from (is_solid (type_at core of) && are_plain_elements any_text core es) true (and_from (is_solid (type_at core of)) (are_plain_elements any_text core es) solid (member_trees_fit core t base ms (go (type_at core of) refl s) o h)) refl, solid), refl, refl)
  where
    base : TypeId
    base = or_own of (typing.base_of (type_at core of))

    es : Elements
    es = elements_from (map (element_tree core base) ms)

    solid : IsSolidType core of
    solid = set_solid core of s

    go : (o : Option CoreType) → type_at core of ≡ o → typing.is_set o ≡ true → IsSolidType core (or_own of (typing.base_of o))
    go (Some (type.Set b)) e s = made_of t of (type.Set b) e
    go (Some type.EmptySet) e s = ap is_solid e
    go o e s = absurd (false≢true s)

-- what a set is assignable to is a type of sets
wanted_set : (core : Core) (wanted : Option TypeId) (own : TypeId) → IsSetType core own → IsSetType core (wanted_or core wanted own)
wanted_set core None own h = h
wanted_set core (Some to) own h = go (assignable core own to) refl
  where
    none : (o u : Option CoreType) → typing.is_set o ≡ true → IsSomeAnd (elements o u) (λ p. Unit {0}) → ⊥
    none (Some (type.Set b)) u h e = e
    none (Some type.EmptySet) u h e = e
    none o u h e = false≢true h

    one : (own ≡ to) ⊎ IsSomeAnd (elements (type_at core own) (type_at core to)) (λ p. Unit {0}) → IsSetType core to
    one (inl e) = subst (IsSetType core) e h
    one (inr e) = absurd (none (type_at core own) (type_at core to) h e)

    of_kind : (k : Option OrdinalKind) (s : Sort) → sort_of core to ≡ s → fits core (by_kind sort.Set k) s ≡ true → IsSetType core to
    of_kind (Some a) (sort.Set b) e f = ap typing.is_set (stands_as core to (sort.Set b) e).1
    of_kind (Some a) s e f = absurd (false≢true f)
    of_kind None s e f = absurd (false≢true f)

    empty : (s : Sort) → sort_of core to ≡ s → fits core sort.EmptySet s ≡ true → IsSetType core to
    empty (sort.Set b) e f = ap typing.is_set (stands_as core to (sort.Set b) e).1
    empty s e f = absurd (false≢true f)

    sorts : (o : Option CoreType) → type_at core own ≡ o → typing.is_set o ≡ true → fits core (sort_by core own o) (sort_of core to) ≡ true → IsSetType core to
    sorts (Some (type.Set b)) e h f = of_kind (kind_of core b) (sort_of core to) refl f
    sorts (Some type.EmptySet) e h f = empty (sort_of core to) refl f
    sorts o e h f = absurd (false≢true h)

    by : (is_one_type core.types own to ≡ true) ⊎ (fits core (sort_of core own) (sort_of core to) ≡ true) → IsSetType core to
    by (inl o) = one (one_or_elements core own to o)
    by (inr f) = sorts (type_at core own) refl h f

    go : (b : Bool) → assignable core own to ≡ b → IsSetType core (if b then to else own)
    go true e = by (or_cases (is_one_type core.types own to) (fits core (sort_of core own) (sort_of core to)) e)
    go false e = h

pub set_of_fits : {core : Core} → IsFitTables core → (wanted : Option TypeId) (ms : List Member) → AreFitMembers core ms → IfTyped (IsFitValue core) (checked (member.set_of core wanted ms))
set_of_fits {core} t wanted ms h = go (list_all are_constants ms)
  where
    go : (b : Bool) → IfTyped (IsFitValue core) (checked (set_by core wanted ms b))
    go true = fits_changed constant (fits_changed _ (constant_members_fit t ms (some no_members (no_members_fit t))) (λ a h. bracketed_fits core a h)) (λ c q. q)
    go false = fits_changed _ (type_of_set_fits t (Unit {0}) ms (some table.empty_set (empty_is_set t, tt))) (λ own q. set_tree_fits t (wanted_or core wanted own) ms (wanted_set core wanted own q.0) q.1.1 h)
