-- Values, names and sets are sound or break a rule.
use Rattle.std.proofs.Common.{◌≡◌, ◌⊎◌, inl, inr, ℕ, pos, neg_ℤ, Bool, true, false, List, [], ◌∷◌, ◌++◌, map, slice_get, Option, Some, None, if◌then◌else◌, refl, sym, ap, subst, ◌∙◌}
use Rattle.std.proofs.lemmas.Bool.{and_parts, false≢true}
use Rattle.std.specs.List.{list_all}
use Rattle.std.specs.Option.{IfSome, IsSomeAnd}
use Rattle.op_base.specs.declared.place.Place.{Place}
use Rattle.op_judgement.proofs.Completing.{whole_as, whole_changed_so, whole_entered, whole_followed, whole_gives, whole_rule, whole_standing, whole_tested, whole_with}
use Rattle.op_core.proofs.OneType.{one_back}
use Rattle.op_core.proofs.Rows.{there_is}
use Rattle.op_core.specs.Expression.{Expression as Tree, expression, variable, Steps, no_steps, steps, Action, field, index, value as value_argument, place as place_argument}
use Rattle.op_core.specs.Members.{There}
use Rattle.op_core.specs.Relations.{Filled, Whole, filled, typed}
use Rattle.op_core.specs.Sizes.{range_of, type_at}
use Rattle.op_core.specs.Sound.{IsFounded, Row}
use Rattle.op_core.specs.Typing as typing
use Rattle.op_core.specs.Typing.{AreElements, IsArgument, IsElement, IsOrdinal, IsSet, IsTyped, IsValue, OneType, Sees, is_place, leads_on, takes_place}
use Rattle.op_core.specs.declared.ids.TypeId.{TypeId}
use Rattle.op_core.specs.declared.ids.VariableId.{VariableId}
use Rattle.op_core.specs.declared.program.Core.{Core}
use Rattle.op_core.specs.declared.routine.Parameter.{Parameter}
use Rattle.op_core.specs.declared.types.CoreType.{CoreType}
use Rattle.op_core.specs.declared.types.CoreType.TheVariants as type
use Rattle.op_tree.specs.declared.operator.Operator.{Operator}
use Rattle.op_tree.specs.declared.operator.PrefixOperator.{PrefixOperator}
use Rattle.op_tree.specs.declared.position.Name.{Name}
use Rattle.op_tree.specs.declared.position.Position.{Position}
use Rattle.op_judgement.specs.Judgement.{Judgement, changed, checked}
use Rattle.op_judgement.specs.declared.rules.Feature.{Feature}
use Rattle.op_judgement.specs.declared.rules.LanguageRule.TheVariants.{CharacterOfString, NoCast, NoMember, NoOperator, NoSetElement, NoVariable, NotAssignable, NotIndexed, NotOrdinal, NotWritable, VariableOfAnotherType}
use Rattle.op_check_expr.specs.Parts.{by_feature, whether}
use Rattle.op_typed.proofs.Operations.{IsIndex, cast_sound, field_sound, function_sound, goes_by, index_is, index_sound, kind_from, operation_sound, prefix_sound, set_sort}
use Rattle.op_typed.proofs.Trees.{Passes, as_type_goes, as_type_value, as_value, one_exact}
use Rattle.op_check_expr.specs.Calling.{passed}
use Rattle.op_check_expr.specs.Constructors.{Member, are_constants, constant_member, constant_members, element_tree, elements_from, is_small, member_in_set, or_own, place_of, set_by, set_tree, type_of_set, value_in_set, wanted_or}
use Rattle.op_check_expr.specs.Constructors as member
use Rattle.op_check_expr.specs.Expressions as means
use Rattle.op_check_expr.specs.Expressions.{element_at, index_types, indexed, or_number}
use Rattle.op_check_expr.specs.Naming as naming
use Rattle.op_check_expr.specs.Naming.{feature_of, feature_of_type, field_named, field_of, variable_named}
use Rattle.op_check_expr.specs.Operating.{cast_by, computed_operation, computed_use, feature_of_argument, feature_of_operands, function_type, is_evaluated, operated, operation_of, prefix_of, rule_of, used}
use Rattle.op_check_expr.specs.Places.{is_very, is_writable, is_writable_row, target_value, variable_value}
use Rattle.op_check_expr.specs.Scopes.{Here}
use Rattle.op_typed.specs.Settled.{IsKnown, IsSettled, IsSoundValue}
use Rattle.op_check_expr.specs.Values.{Value, constant, computed, as_type, index_at, stored, tree_of, type_of}
use Rattle.op_types.proofs.Assigning.{is_assignable}
use Rattle.op_typed.proofs.Constants.{gathered_whole, numeral_whole, operator_whole, ordinal_sort, prefix_whole as prefix_constant_whole, range_whole, single_whole, use_whole}
use Rattle.op_typed.proofs.Sorting.{Stands, stands, stands_as}
use Rattle.op_typed.proofs.TypeFacts.{common_is_set, common_left, empty_set_kind, over_is_set, stands_for}
use Rattle.op_types.specs.Assignable as assign
use Rattle.op_types.specs.Assignable.{assignable}
use Rattle.op_types.specs.ConstantParts.{is_folded, is_ordinal, no_members}
use Rattle.op_types.specs.Names.{meaning_of}
use Rattle.op_types.specs.Operators as table
use Rattle.op_types.specs.Sets.{common_set}
use Rattle.op_types.specs.Sorts.{are_sets, by_kind, kind_of, sort_by, sort_of}
use Rattle.op_typed.specs.Standing.{IsSoundConstant, StandsFor}
use Rattle.op_types.specs.declared.constant.Applied.{Applied}
use Rattle.op_types.specs.declared.constant.Applied.TheVariants.{Cast, Function as Function'}
use Rattle.op_types.specs.declared.constant.Constant.{Constant}
use Rattle.op_types.specs.declared.sort.OrdinalKind.{OrdinalKind}
use Rattle.op_types.specs.declared.sort.Sort.{Sort}
use Rattle.op_types.specs.declared.sort.Sort.TheVariants.{Ordinal, Set, EmptySet}
use Rattle.op_types.specs.declared.visible.Meaning.{Meaning}
use Rattle.op_types.specs.declared.visible.Meaning.TheVariants as meaning

pub whole_unshown : {A : Type 0} {P : A → Type 0} (j : Judgement A) (place : Place) (o : Option Feature) → (o ≡ None → Whole P (checked j)) → Whole P (checked (by_feature place o j))
whole_unshown j place None h = h refl
whole_unshown j place (Some f) h = whole_rule

whole_whether : {A : Type 0} {P : A → Type 0} (j k : Judgement A) (b : Bool) → Whole P (checked j) → Whole P (checked k) → Whole P (checked (whether b j k))
whole_whether j k true h i = h
whole_whether j k false h i = i

pub number_whole : {core : Core} (sees : Sees) → IsFounded core → (n : Option (ℕ × Place)) (j : Judgement Value) → Whole (IsSoundValue core sees) (checked j) → Whole (IsSoundValue core sees) (checked (or_number n j))
number_whole sees f None j h = h
number_whole sees f (Some n) j h = whole_changed_so constant (numeral_whole f n.1 2 (neg_ℤ (pos n.0))) (λ c q. q)

-- ---- values

pub stored_whole : (core : Core) (sees : Sees) (at : Place) (ranges : Bool) (to : TypeId) (v : Value) → IsSoundValue core sees v → Whole (IsValue core sees to) (checked (stored core at ranges to v))
stored_whole core sees at ranges to v h = whole_tested NotAssignable at (assignable core (type_of v) to) (λ a. whole_gives (as_type_value core sees ranges to v h a))

-- a variable, of the very type where one is given, and no character of a string
abbrev pub AsVariable : Core → Sees → Option TypeId → Tree → Type 0
AsVariable core sees of e = IsTyped core sees e × (is_place false core e ≡ true) × IfSome of (OneType core (typing.type_of e))

very : (core : Core) (from : TypeId) (to : Option TypeId) → is_very core from to ≡ true → IfSome to (OneType core from)
very core from None h = tt
very core from (Some to) h = h

pub variable_value_whole : (here : Here) (sees : Sees) (at : Place) (of : Option TypeId) (v : Value) → IsSoundValue here.core sees v → Whole (AsVariable here.core sees of) (checked (variable_value here at of v))
variable_value_whole here sees at of (computed e) h =
    whole_tested NoVariable at (is_place true here.core e) (λ _. whole_tested VariableOfAnotherType at (is_very here.core (typing.type_of e) of) (λ o. whole_tested NotWritable at (is_writable here true e) (λ _. whole_tested CharacterOfString at (is_place false here.core e) (λ p. whole_gives (h, p, very here.core (typing.type_of e) of o)))))
variable_value_whole here sees at of (constant c) h = whole_rule

-- what leads to a place by itself, or not
leads_by : (t : Option CoreType) (a : Action) (b : Bool) → (leads_on true t a false ≡ leads_on true t a b) ⊎ (leads_on true t a false ≡ false)
leads_by (Some (type.Class c)) (field f) b = inl refl
leads_by (Some (type.DynamicArray e)) (index i) b = inl refl
leads_by (Some (type.Record fields)) (field f) b = inr refl
leads_by (Some (type.Array at e)) (index i) b = inr refl
leads_by (Some (type.OpenArray e)) (index i) b = inr refl
leads_by (Some type.String) (index i) b = inr refl
leads_by t a b = inr refl

place_from : (core : Core) (of : TypeId) (ss : Steps) (b : Bool) → typing.is_place_after true core of ss false ≡ true → typing.is_place_after true core of ss b ≡ true
place_from core of no_steps b h = absurd (false≢true h)
place_from core of (steps a next others) b h = go (leads_by (type_at core of) a b) (λ g. place_from core next others (leads_on true (type_at core of) a b) g)
  where
    after : Bool → Bool
    after c = typing.is_place_after true core next others c

    go : (leads_on true (type_at core of) a false ≡ leads_on true (type_at core of) a b) ⊎ (leads_on true (type_at core of) a false ≡ false) → (after false ≡ true → after (leads_on true (type_at core of) a b) ≡ true) → after (leads_on true (type_at core of) a b) ≡ true
    go (inl e) on = subst (λ c. after c ≡ true) e h
    go (inr e) on = on (subst (λ c. after c ≡ true) e h)

-- what may be written is a place
written_place : (here : Here) (e : Tree) → is_writable here true e ≡ true → is_place true here.core e ≡ true
written_place here (expression (variable id) of ss) h = go (is_writable_row here id (slice_get here.core.variables id.0)) h
  where
    go : (b : Bool) → typing.is_place_after true here.core of ss b ≡ true → typing.is_place_after true here.core of ss true ≡ true
    go true h = h
    go false h = place_from here.core of ss true h
written_place here (expression root of ss) h = h

pub target_value_whole : (here : Here) (sees : Sees) (at : Place) (v : Value) → IsSoundValue here.core sees v → Whole (λ t. IsTyped here.core sees t × (is_place true here.core t ≡ true)) (checked (target_value here at v))
target_value_whole here sees at (computed e) h = whole_tested NotWritable at (is_writable here true e) (λ w. whole_gives (h, written_place here e w))
target_value_whole here sees at (constant c) h = whole_rule

pub passed_whole : (here : Here) (sees : Sees) (p : Parameter) (at : Position) (v : Value) → IsSoundValue here.core sees v → Whole (IsArgument here.core sees p) (checked (passed here (Some p) at v))
passed_whole here sees p at v h = go (takes_place p.mode) refl
  where
    go : (b : Bool) → takes_place p.mode ≡ b → Whole (IsArgument here.core sees p) (checked (whether b (changed place_argument (variable_value here at.place (Some p.of) v)) (changed value_argument (stored here.core at.place at.switches.r p.of v))))
    go true e = whole_changed_so place_argument (variable_value_whole here sees at.place (Some p.of) v h) (λ t q. (as_value here.core sees p.of t q.0 q.2, e, q.1))
    go false e = whole_changed_so value_argument (stored_whole here.core sees at.place at.switches.r p.of v h) (λ t q. (q, e))

computed_operation_whole : (core : Core) (sees : Sees) → IsFounded core → (o : Operator) (p : Position) (a b : Value) → IsSoundValue core sees a → IsSoundValue core sees b → Whole (IsSoundValue core sees) (checked (computed_operation core o p a b))
computed_operation_whole core sees f o p a b h k =
    whole_entered NoOperator p.place (table.operation o (sort_of core (type_of a)) (sort_of core (type_of b)) (common_set core (type_of a) (type_of b)))
    (λ of e. whole_unshown _ p.place (feature_of_operands o (sort_of core (type_of a)) (sort_of core (type_of b))) (λ g. whole_gives (operation_sound core sees f o p.switches.q a b of h k e g)))

operated_whole : (core : Core) (sees : Sees) → IsFounded core → (start : Place) (o : Operator) (p : Position) (a b : Value) → IsSoundValue core sees a → IsSoundValue core sees b → Whole (IsSoundValue core sees) (checked (operated core start o p a b))
operated_whole core sees f start o p (constant a) (constant b) h k =
    whole_whether _ _ (is_folded o) (whole_changed_so constant (operator_whole f start o p.place a b h k) (λ c q. q)) (computed_operation_whole core sees f o p (constant a) (constant b) h k)
operated_whole core sees f start o p (constant a) (computed b) h k = computed_operation_whole core sees f o p (constant a) (computed b) h k
operated_whole core sees f start o p (computed a) b h k = computed_operation_whole core sees f o p (computed a) b h k

pub operation_whole : (core : Core) (sees : Sees) → IsFounded core → (start : Place) (o : Operator) (p : Position) {a b : Option Value} → Filled (IsSoundValue core sees) a → Filled (IsSoundValue core sees) b → Whole (IsSoundValue core sees) (checked (operation_of core start o p a b))
operation_whole core sees f start o p h k = whole_with h (λ a h. whole_with k (λ b k. operated_whole core sees f start o p a b h k))

pub prefix_whole : (core : Core) (sees : Sees) → IsFounded core → (o : PrefixOperator) (p : Position) (v : Value) → IsSoundValue core sees v → Whole (IsSoundValue core sees) (checked (prefix_of core o p v))
prefix_whole core sees f o p (constant c) h = whole_changed_so constant (prefix_constant_whole f p.place o c h) (λ c q. q)
prefix_whole core sees f o p (computed e) h =
    whole_entered NoOperator p.place (table.prefixed o (sort_of core (type_of (computed e)))) (λ of q. whole_gives (prefix_sound core sees f o p.switches.q (computed e) of h q))

computed_use_whole : (core : Core) (sees : Sees) → IsFounded core → (p : Position) (what : Applied) (at : Place) (v : Value) → IsSoundValue core sees v → Whole (IsSoundValue core sees) (checked (computed_use core p what at v))
computed_use_whole core sees f p (Cast of) at (constant c) h =
    whole_entered NoCast p.place (cast_by core c.of of (sort_of core c.of) (sort_of core of)) (λ q e. whole_gives (cast_sound core sees (tree_of (constant c)) of q (h, tt) e))
computed_use_whole core sees f p (Cast of) at (computed t) h =
    whole_entered NoCast p.place (cast_by core (typing.type_of t) of (sort_of core (typing.type_of t)) (sort_of core of)) (λ q e. whole_gives (cast_sound core sees t of q h e))
computed_use_whole core sees f p (Function' g) at v h =
    whole_entered (rule_of g) at (function_type core g (type_of v)) (λ of e. whole_unshown _ p.place (feature_of_argument core g (type_of v)) (λ _. whole_gives (function_sound core sees f g p.switches.q v of h e)))

pub used_whole : (core : Core) (sees : Sees) → IsFounded core → (p : Position) (what : Applied) (at : Place) (v : Value) → IsSoundValue core sees v → Whole (IsSoundValue core sees) (checked (used core p what at v))
used_whole core sees f p what at (constant c) h =
    whole_whether _ _ (is_evaluated core what) (whole_changed_so constant (use_whole f what p.place at c h) (λ c q. q)) (computed_use_whole core sees f p what at (constant c) h)
used_whole core sees f p what at (computed e) h = computed_use_whole core sees f p what at (computed e) h

index_at_whole : (core : Core) (sees : Sees) (at : Place) (of : Option CoreType) (to : TypeId) (v : Value) → IsSoundValue core sees v → Whole (IsIndex core sees of to) (checked (index_at core at of to v))
index_at_whole core sees at of to v h = whole_tested NotAssignable at (assignable core (type_of v) to) (λ a. whole_gives (index_is core sees of to v h a))

element_at_whole : (core : Core) (sees : Sees) → IsFounded core → (at : Place) (a : Value) (of : TypeId × TypeId) (v : Value) → index_types (type_at core (type_of a)) ≡ Some of → IsSoundValue core sees a → IsSoundValue core sees v → Whole (IsSoundValue core sees) (checked (element_at core at a of v))
element_at_whole core sees f at a of v e h k = whole_changed_so _ (index_at_whole core sees at (type_at core (type_of a)) of.0 v k) (λ i q. index_sound core sees f a i of h e q)

pub indexed_whole : (core : Core) (sees : Sees) → IsFounded core → (bracket at : Place) {a v : Option Value} → Filled (IsSoundValue core sees) a → Filled (IsSoundValue core sees) v → Whole (IsSoundValue core sees) (checked (indexed core bracket at a v))
indexed_whole core sees f bracket at h k =
    whole_with h (λ a h. whole_entered NotIndexed bracket (index_types (type_at core (type_of a))) (λ of e. whole_with k (λ v k. element_at_whole core sees f at a of v e h k)))

-- ---- names

variable_whole : (here : Here) (sees : Sees) (p : Position) (id : VariableId) → sees.variable id → Row here.core.variables id.0 → Whole (IsKnown here.core sees) (checked (variable_named p id (slice_get here.core.variables id.0)))
variable_whole here sees p id s l =
    let x = there_is here.core.variables id.0 l in
    let k : There here.core.variables id.0 (λ v. v.of ≡ x.0.of) = rw x.1 refl in
    rw x.1 (whole_gives {P = IsKnown here.core sees} ((s, k), tt))

named_whole : (here : Here) (sees : Sees) (name : List ℕ) (p : Position) (m : Option Meaning) → ((a : Meaning) → m ≡ Some a → StandsFor here.core sees a) → Whole (IsKnown here.core sees) (checked (naming.named here.core name p m))
named_whole here sees name p None h = whole_rule
named_whole here sees name p (Some meaning.Spoiled) h = absurd (h meaning.Spoiled refl)
named_whole here sees name p (Some (meaning.Constant c)) h = typed (filled (naming.valued p (constant _)) (h (meaning.Constant c) refl))
named_whole here sees name p (Some (meaning.Variable id w)) h = let k = h (meaning.Variable id w) refl in variable_whole here sees p id k.0 k.1
named_whole here sees name p (Some (meaning.TypeName of)) h = whole_unshown _ p.place (feature_of_type (type_at here.core of)) (λ _. whole_gives (h (meaning.TypeName of) refl))
named_whole here sees name p (Some (meaning.Routine id)) h = whole_gives (h (meaning.Routine id) refl)
named_whole here sees name p (Some (meaning.Unit id)) h = whole_gives tt
named_whole here sees name p (Some (meaning.BuiltIn b)) h = whole_unshown _ p.place (feature_of b) (λ _. whole_gives tt)

pub name_whole : {sees : Sees} {here : Here} → IsSettled sees here → (key name : List ℕ) (p : Position) → Whole (IsKnown here.core sees) (checked (means.name_denoted here key name p))
name_whole {sees} {here} s key name p = named_whole here sees name p (meaning_of here.visible key) (stands_for here.core sees here.visible s.names key)

pub field_whole : (core : Core) (sees : Sees) (m : Name) (v : Value) → IsSoundValue core sees v → Whole (IsKnown core sees) (checked (field_of core m v))
field_whole core sees m v h = whole_entered NoMember m.position.place (field_named core m.text (type_at core (type_of v))) (λ f e. whole_gives (field_sound core sees m.text v f h e))

-- ---- sets

abbrev pub IsSoundMember : Core → Sees → Member → Type 0
IsSoundMember core sees (member.one at v) = IsSoundValue core sees v
IsSoundMember core sees (member.range at v at' v') = IsSoundValue core sees v × IsSoundValue core sees v'

abbrev pub AreSound : Core → Sees → List Member → Type 0
AreSound core sees [] = Unit {0}
AreSound core sees (m ∷ ms) = IsSoundMember core sees m × AreSound core sees ms

pub sound_behind : (core : Core) (sees : Sees) (ms : List Member) (m : Member) → AreSound core sees ms → IsSoundMember core sees m → AreSound core sees (ms ++ m ∷ [])
sound_behind core sees [] m h k = (k, tt)
sound_behind core sees (x ∷ xs) m h k = (h.0, sound_behind core sees xs m h.1 k)

constant_member_whole : (core : Core) (sees : Sees) → IsFounded core → (m : Member) → are_constants m ≡ true → IsSoundMember core sees m → Whole (IsSoundConstant core) (checked (constant_member core m))
constant_member_whole core sees f (member.one at (constant c)) e h = single_whole f at (filled c h)
constant_member_whole core sees f (member.one at (computed t)) e h = absurd (false≢true e)
constant_member_whole core sees f (member.range at (constant c) at' (constant d)) e h = range_whole f at at' (filled c h.0) (filled d h.1)
constant_member_whole core sees f (member.range at (constant c) at' (computed t)) e h = absurd (false≢true e)
constant_member_whole core sees f (member.range at (computed t) at' v) e h = absurd (false≢true e)

constant_members_whole : (core : Core) (sees : Sees) → IsFounded core → (ms : List Member) {o : Option Constant} → Filled (IsSoundConstant core) o → list_all are_constants ms ≡ true → AreSound core sees ms → Whole (IsSoundConstant core) (checked (constant_members core o ms))
constant_members_whole core sees f [] h e s = whole_standing h
constant_members_whole core sees f (m ∷ ms) h e s =
    let both = and_parts (are_constants m) (list_all are_constants ms) e in
    whole_followed (constant_member_whole core sees f m both.0 s.0) (λ b k. whole_followed (gathered_whole f (place_of m) h k) (λ c i. constant_members_whole core sees f ms i both.1 s.1))

-- of an ordinal type
abbrev InOrdinal : Core → Value → Type 0
InOrdinal core v = (k : OrdinalKind) × (sort_of core (type_of v) ≡ Ordinal k)

abbrev IsOrdinalMember : Core → Member → Type 0
IsOrdinalMember core (member.one at v) = InOrdinal core v
IsOrdinalMember core (member.range at v at' v') = InOrdinal core v × InOrdinal core v'

abbrev AreOrdinal : Core → List Member → Type 0
AreOrdinal core [] = Unit {0}
AreOrdinal core (m ∷ ms) = IsOrdinalMember core m × AreOrdinal core ms

value_in_set_whole : (core : Core) → IsFounded core → (at : Place) (v : Value) → Whole (λ of. IsSet core of × InOrdinal core v) (checked (value_in_set core at v))
value_in_set_whole core f at v =
    whole_tested NotOrdinal at (is_ordinal (sort_of core (type_of v))) (λ e. whole_tested NoSetElement at (is_small v) (λ _.
    let k = ordinal_sort (sort_of core (type_of v)) e in
    whole_gives (over_is_set (type_of v) k.0 f (stands_as core (type_of v) (Ordinal k.0) k.1).1, k)))

common_sets : (core : Core) (a b : TypeId) → IsFounded core → IsSet core a ⊎ (sort_of core a ≡ EmptySet) → IsSet core b → IsSet core (common_set core a b)
common_sets core a b f (inl h) k = let s = set_sort core a f h in let t = set_sort core b f k in common_is_set a b s.0 t.0 f s.1 t.1
common_sets core a b f (inr e) k = subst (IsSet core) (sym (common_left core a b e)) k

member_in_set_whole : (core : Core) → IsFounded core → (m : Member) → Whole (λ of. IsSet core of × IsOrdinalMember core m) (checked (member_in_set core m))
member_in_set_whole core f (member.one at v) = value_in_set_whole core f at v
member_in_set_whole core f (member.range at v at' v') =
    whole_followed (value_in_set_whole core f at v) (λ a h. whole_followed (value_in_set_whole core f at' v') (λ b k. whole_with h (λ a h. whole_with k (λ b k.
    whole_tested NotAssignable at' (assignable core (type_of v') (type_of v)) (λ _. whole_gives (common_sets core a b f (inl h.0) k.0, (h.1, k.1)))))))

with_member_whole : (core : Core) → IsFounded core → (m : Member) {o q : Option TypeId} → Filled (λ of. IsSet core of ⊎ (sort_of core of ≡ EmptySet)) o → Filled (λ of. IsSet core of × IsOrdinalMember core m) q → Whole (λ of. IsSet core of × IsOrdinalMember core m) (checked (member.both_in_set core (place_of m) o q))
with_member_whole core f m h k =
    whole_with h (λ a h. whole_with k (λ b k. whole_tested NotAssignable (place_of m) (are_sets (sort_of core a) (sort_of core b)) (λ _. whole_gives (common_sets core a b f h k.0, k.1))))

-- the type of a set with elements
type_of_set_whole : (core : Core) → IsFounded core → (m : Member) (ms : List Member) {o : Option TypeId} → Filled (λ of. IsSet core of ⊎ (sort_of core of ≡ EmptySet)) o → Whole (λ of. IsSet core of × AreOrdinal core (m ∷ ms)) (checked (type_of_set core o (m ∷ ms)))
type_of_set_whole core f m [] h = whole_followed (member_in_set_whole core f m) (λ b k. whole_followed (with_member_whole core f m h k) (λ c i. alone i))
  where
    alone : {c : Option TypeId} → Filled (λ of. IsSet core of × IsOrdinalMember core m) c → Whole (λ of. IsSet core of × AreOrdinal core (m ∷ [])) (checked (type_of_set core c []))
    alone (filled of i) = typed (filled of (i.0, (i.1, tt)))
type_of_set_whole core f m (x ∷ xs) h = whole_followed (member_in_set_whole core f m) (λ b k. whole_followed (with_member_whole core f m h k) (λ c i. more c i (λ h. type_of_set_whole core f x xs h)))
  where
    more : (c : Option TypeId) → Filled (λ of. IsSet core of × IsOrdinalMember core m) c → (Filled (λ of. IsSet core of ⊎ (sort_of core of ≡ EmptySet)) c → Whole (λ of. IsSet core of × AreOrdinal core (x ∷ xs)) (checked (type_of_set core c (x ∷ xs)))) → Whole (λ of. IsSet core of × AreOrdinal core (m ∷ x ∷ xs)) (checked (type_of_set core c (x ∷ xs)))
    more _ (filled of i) g = whole_as (g (filled of (inl i.0))) (λ to q. (q.0, (i.1, q.1)))

own_kind_sort : (core : Core) (of : TypeId) → IsFounded core → IsOrdinal core of → (k : OrdinalKind) × (sort_of core of ≡ Ordinal k)
own_kind_sort core of f h = let k = kind_from core of f h in (k.0, go (type_at core of) refl h ∙ ap (by_kind Ordinal) k.1)
  where
    go : (t : Option CoreType) → type_at core of ≡ t → IsSomeAnd (range_of t) (λ r. Unit {0}) → sort_of core of ≡ by_kind Ordinal (kind_of core of)
    go (Some (type.Integer kind)) e h = ap (sort_by core of) e
    go (Some type.Boolean) e h = ap (sort_by core of) e
    go (Some type.Char) e h = ap (sort_by core of) e
    go (Some (type.Enumeration count)) e h = ap (sort_by core of) e
    go (Some (type.Subrange base low high)) e h = ap (sort_by core of) e
    go t e h = absurd h

as_element : (core : Core) (sees : Sees) (base : TypeId) (v : Value) → IsFounded core → IsOrdinal core base → InOrdinal core v → IsSoundValue core sees v → IsValue core sees base (as_type core true base v)
as_element core sees base v f o i h = let k = own_kind_sort core base f o in as_type_goes core sees true base v h (goes_by core (type_of v) base i.1 k.1 Passes.ordinals)

set_elements : (core : Core) (sees : Sees) (base : TypeId) → IsFounded core → IsOrdinal core base → (ms : List Member) → AreOrdinal core ms → AreSound core sees ms → AreElements core sees base (elements_from (map (element_tree core base) ms))
set_elements core sees base f o [] i h = tt
set_elements core sees base f o (m ∷ ms) i h = (go m i.0 h.0, set_elements core sees base f o ms i.1 h.1)
  where
    go : (m : Member) → IsOrdinalMember core m → IsSoundMember core sees m → IsElement core sees base (element_tree core base m)
    go (member.one at v) i h = as_element core sees base v f o i h
    go (member.range at v at' v') i h = (as_element core sees base v f o i.0 h.0, as_element core sees base v' f o i.1 h.1)

set_tree_sound : (core : Core) (sees : Sees) (of : TypeId) (ms : List Member) → IsFounded core → IsSet core of → AreOrdinal core ms → AreSound core sees ms → IsSoundValue core sees (set_tree core of ms)
set_tree_sound core sees of ms f s i h = (go (type_at core of) refl s, tt)
  where
    go : (t : Option CoreType) → type_at core of ≡ t → IsSomeAnd (typing.base_of t) (λ base. Unit {0}) → IsSomeAnd (typing.base_of t) (λ base. AreElements core sees base (elements_from (map (element_tree core (or_own of (typing.base_of t))) ms)))
    go (Some (type.Set base)) e s = set_elements core sees base f (f.types of.0 (type.Set base) e).0.1 ms i h
    go t e s = absurd s

assigned_set : (core : Core) (to : TypeId) (k : OrdinalKind) {s t : Sort} → assign.Fits core s t → s ≡ Set k → Stands core to t → IsSet core to
assigned_set core to k (assign.sets e) q h = rw h.1 tt
assigned_set core to k f q h = absurd (cc)

wanted_set : (core : Core) (wanted : Option TypeId) (own : TypeId) → IsFounded core → IsSet core own → IsSet core (wanted_or core wanted own)
wanted_set core None own f h = h
wanted_set core (Some to) own f h = go (assignable core own to) refl
  where
    k : (k : OrdinalKind) × (sort_of core own ≡ Set k)
    k = set_sort core own f h

    exact : (t : Option CoreType) → IsSomeAnd (typing.base_of t) (λ base. Unit {0}) → typing.element_of t ≡ None
    exact (Some (type.Set base)) h = refl
    exact t h = absurd h

    by : assign.Assignable core own to → IsSet core to
    by (assign.one_type e) = subst (IsSet core) (sym (one_exact core to own (exact (type_at core own) h) (one_back core.types own to e))) h
    by (assign.by_sort g) = assigned_set core to k.0 g k.1 (stands core to)

    go : (b : Bool) → assignable core own to ≡ b → IsSet core (if b then to else own)
    go true e = by (is_assignable core own to e)
    go false e = h

pub set_whole : (core : Core) (sees : Sees) → IsFounded core → (wanted : Option TypeId) (ms : List Member) → AreSound core sees ms → (b : Bool) → list_all are_constants ms ≡ b → Whole (IsSoundValue core sees) (checked (set_by core wanted ms b))
set_whole core sees f wanted ms s true e =
    let k = empty_set_kind f in
    whole_changed_so constant (whole_changed_so _ (constant_members_whole core sees f ms (filled no_members (rw k tt)) e s) (λ c q. q)) (λ c q. q)
set_whole core sees f wanted [] s false e = absurd (cc)
set_whole core sees f wanted (m ∷ ms) s false e =
    let k = empty_set_kind f in
    whole_changed_so _ (type_of_set_whole core f m ms (filled table.empty_set (inr (simp k))))
    (λ own q. set_tree_sound core sees (wanted_or core wanted own) (m ∷ ms) f (wanted_set core wanted own f q.0) q.1 s)
