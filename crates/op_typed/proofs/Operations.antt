-- Operators, casts, functions, indices and fields give typed trees.
use Rattle.std.proofs.Common.{◌≡◌, ◌⊎◌, inl, inr, ℕ, ◌+◌, ◌^◌, ℤ, Bool, true, false, ◌&&◌, ◌||◌, List, slice_get, Option, Some, None, if◌then◌else◌, refl, sym, ap, subst, ◌∙◌, arith}
use Rattle.std.proofs.lemmas.Bool.{and_parts, or_cases}
use Rattle.std.specs.Prelude.{nat_lt, position}
use Rattle.std.proofs.lemmas.Option.{none-some}
use Rattle.std.specs.Option.{IsSomeAnd, option_and_then, option_map}
use Rattle.op_core.proofs.Rows.{row_of}
use Rattle.op_core.specs.Needs.{IsSo}
use Rattle.op_core.specs.Expression.{Expression as Tree, convert, field, index as index_step, prefixed, operate, apply, then as with_step}
use Rattle.op_core.specs.FieldNames.{is_named}
use Rattle.op_core.specs.Members.{InRun, Kind, There}
use Rattle.op_core.specs.Rows.{rows}
use Rattle.op_core.specs.Sizes.{range_of, type_at}
use Rattle.op_core.specs.Sound.{IsFounded, is_whole}
use Rattle.op_core.specs.Typing as typing
use Rattle.op_core.specs.Typing.{Applies, Converts, HoldsField, Indexes, IsBoolean, IsInteger, IsOrdinal, IsReference, IsSequence, IsSet, IsTyped, IsValue, Operates, Prefixes, Sees}
use Rattle.op_core.specs.declared.ids.FieldId.{FieldId}
use Rattle.op_core.specs.declared.ids.Run.{Run}
use Rattle.op_core.specs.declared.ids.TypeId.{TypeId}
use Rattle.op_core.specs.declared.operation.Conversion.{Conversion}
use Rattle.op_core.specs.declared.operation.Conversion.TheVariants.{LowBits, Check}
use Rattle.op_core.specs.declared.operation.Function.{Function}
use Rattle.op_core.specs.declared.operation.Function.TheVariants.{Length, Low, High, Ord, Succ, Pred, Abs, Sqr, Odd, UpCase}
use Rattle.op_core.specs.declared.operation.Origin.TheVariants.{Cast as CastOrigin}
use Rattle.op_core.specs.declared.program.Core.{Core}
use Rattle.op_core.specs.declared.types.CoreType.{CoreType}
use Rattle.op_core.specs.declared.types.CoreType.TheVariants as type
use Rattle.op_core.specs.declared.types.IntegerKind.TheVariants.{Signed32}
use Rattle.op_judgement.specs.declared.rules.Feature.{Feature}
use Rattle.op_judgement.specs.declared.rules.Feature.TheVariants.{Strings}
use Rattle.op_tree.specs.declared.operator.Operator.{Operator}
use Rattle.op_tree.specs.declared.operator.Operator.TheVariants.{Equal, NotEqual, Less, Greater, LessEqual, GreaterEqual, In_, Is, Add, Subtract, Or, Xor, Multiply, Slash, Div, Mod_, And, Shl, Shr, As_}
use Rattle.op_tree.specs.declared.operator.PrefixOperator.{PrefixOperator}
use Rattle.op_tree.specs.declared.operator.PrefixOperator.TheVariants.{Not, Plus, Minus}
use Rattle.op_typed.proofs.Trees.{Goes, Of, Passes, fitting, sets as set_to_set, empty_set, as_own, as_type_goes, as_typed, as_type_value, chosen_converts, is_exact, no_range, one_exact, reference_of, tree_type, tree_typed, typed_then, value_of_sort}
use Rattle.op_check_expr.specs.Expressions.{index_types}
use Rattle.op_check_expr.specs.Naming.{field_at, field_named, number_at}
use Rattle.op_check_expr.specs.Operating.{bound_type, cast_by, feature_of_operands, function_tree, function_type, index_type, is_string, keeps_low_bits, length_type, operand_by, operation_tree, prefix_tree, set_beside, text_type, type_if, type_of_kind}
use Rattle.op_typed.specs.Settled.{IsSoundValue}
use Rattle.op_check_expr.specs.Values.{Value, as_type, index_tree, tree_of, type_of}
use Rattle.op_core.proofs.Agreeing.{some_is}
use Rattle.op_types.proofs.Assigning.{is_assignable}
use Rattle.op_typed.proofs.Sorting.{Stands, stands, stands_as}
use Rattle.op_typed.proofs.TypeFacts.{Rooted, boolean_kind, char_kind, common_is_set, common_left, common_right, integer_kind, over_is_set, rooted, string_kind}
use Rattle.op_types.specs.Assignable as assign
use Rattle.op_types.specs.Assignable.{assignable}
use Rattle.op_types.specs.ConstantParts.{is_ordinal}
use Rattle.op_types.specs.Operators as table
use Rattle.op_types.specs.Sets.{common_set, set_over}
use Rattle.op_types.specs.Sorts.{are_sets, by_kind, is_reference, is_text, kind_of, same_kind, sort_by, sort_of}
use Rattle.op_types.specs.declared.sort.OrdinalKind.{OrdinalKind}
use Rattle.op_types.specs.declared.sort.OrdinalKind.TheVariants.{Integer, Boolean, Char, Enumeration}
use Rattle.op_types.specs.declared.sort.Sort.{Sort}
use Rattle.op_types.specs.declared.sort.Sort.TheVariants.{Ordinal, String, Set, EmptySet, DynamicArray, Class, Interface, Nil}

-- ---- kinds and sorts

-- the type of all values of a kind
kind_sort : (core : Core) (k : OrdinalKind) → IsFounded core → Rooted core k → sort_of core (type_of_kind k) ≡ Ordinal k
kind_sort core Integer f r = simp (integer_kind f)
kind_sort core Boolean f r = simp (boolean_kind f)
kind_sort core Char f r = simp (char_kind f)
kind_sort core (Enumeration of) f r = simp r.1

pub kind_from : (core : Core) (of : TypeId) → IsFounded core → IsOrdinal core of → (k : OrdinalKind) × (kind_of core of ≡ Some k)
kind_from core of f h = go (type_at core of) refl h
  where
    based : (base : TypeId) (t : Option CoreType) → type_at core base ≡ t → is_whole t ≡ true → (low high : ℤ) → Kind core of (type.Subrange base low high) → (k : OrdinalKind) × (kind_of core of ≡ Some k)
    based base (Some (type.Integer Signed32)) g w low high e = (Integer, simp (e, g))
    based base (Some type.Boolean) g w low high e = (Boolean, simp (e, g))
    based base (Some type.Char) g w low high e = (Char, simp (e, g))
    based base (Some (type.Enumeration count)) g w low high e = (Enumeration base, simp (e, g))
    based base t g w low high e = absurd (cc)

    go : (t : Option CoreType) → type_at core of ≡ t → IsSomeAnd (range_of t) (λ r. Unit {0}) → (k : OrdinalKind) × (kind_of core of ≡ Some k)
    go (Some (type.Integer kind)) e h = (Integer, simp e)
    go (Some type.Boolean) e h = (Boolean, simp e)
    go (Some type.Char) e h = (Char, simp e)
    go (Some (type.Enumeration count)) e h = (Enumeration of, simp e)
    go (Some (type.Subrange base low high)) e h = based base (type_at core base) refl (f.types of.0 (type.Subrange base low high) e).3 low high e
    go t e h = absurd h

pub set_sort : (core : Core) (of : TypeId) → IsFounded core → IsSet core of → (k : OrdinalKind) × (sort_of core of ≡ Set k)
set_sort core of f h = go (type_at core of) refl h
  where
    go : (t : Option CoreType) → type_at core of ≡ t → IsSomeAnd (typing.base_of t) (λ base. Unit {0}) → (k : OrdinalKind) × (sort_of core of ≡ Set k)
    go (Some (type.Set base)) e h = let k = kind_from core base f (f.types of.0 (type.Set base) e).0.1 in (k.0, ap (sort_by core of) e ∙ ap (by_kind Set) k.1)
    go t e h = absurd h

pub goes_by : (core : Core) (from to : TypeId) {s t : Sort} → sort_of core from ≡ s → sort_of core to ≡ t → Passes core s t → Goes core from to
goes_by core from to {s} e g p = inr (subst (λ x. Passes core x (sort_of core to)) (sym e) (subst (λ y. Passes core s y) (sym g) p))

-- ---- operands

-- a value that goes to a type of another sort
operand : (core : Core) (sees : Sees) (to : TypeId) (v : Value) (s t : Sort) → IsSoundValue core sees v → sort_of core (type_of v) ≡ s → sort_of core to ≡ t → is_exact t ≡ true → Passes core s t → Of core sees to (as_type core true to v)
operand core sees to v s t h e g x p = value_of_sort core sees to t (as_type core true to v) g x (as_type_goes core sees true to v h (goes_by core (type_of v) to e g p))

pub kind_operand : (core : Core) (sees : Sees) (v : Value) (k : OrdinalKind) → IsFounded core → IsSoundValue core sees v → sort_of core (type_of v) ≡ Ordinal k → Of core sees (type_of_kind k) (as_type core true (type_of_kind k) v)
kind_operand core sees v k f h e = operand core sees (type_of_kind k) v (Ordinal k) (Ordinal k) h e (kind_sort core k f (rooted core (type_of v) k (stands_as core (type_of v) (Ordinal k) e).1)) refl Passes.ordinals

-- two values with their sorts
record Pair (core : Core) (sees : Sees) (a b : Value) (s t : Sort) : Type 0 where
  founded : IsFounded core
  first : IsSoundValue core sees a
  second : IsSoundValue core sees b
  sort : sort_of core (type_of a) ≡ s
  other : sort_of core (type_of b) ≡ t

-- an operator between two values of these sorts
abbrev tree : Core → Operator → Bool → Value → Value → Sort → Sort → TypeId → Tree
tree core o checked a b s t to =
    let sets = common_set core (type_of a) (type_of b) in
    with_step (as_type core true (operand_by sets (type_of a) s) a) (operate o checked (as_type core true (operand_by sets (type_of b) t) b)) to

operated : (core : Core) (sees : Sees) (o : Operator) (checked : Bool) (l r : Tree) (x y to : TypeId) → Of core sees x l → Of core sees y r → Operates core o x y to → IsTyped core sees (with_step l (operate o checked r) to)
operated core sees o checked l r x y to p q h =
    typed_then core sees l (operate o checked r) to p.0 (q.0, subst (λ x. Operates core o x (typing.type_of r) to) (sym p.1) (subst (λ y. Operates core o x y to) (sym q.1) h))

kinds_typed : (core : Core) (sees : Sees) (a b : Value) (j k : OrdinalKind) → Pair core sees a b (Ordinal j) (Ordinal k) → (o : Operator) (checked : Bool) (to : TypeId) → Operates core o (type_of_kind j) (type_of_kind k) to → IsTyped core sees (tree core o checked a b (Ordinal j) (Ordinal k) to)
kinds_typed core sees a b j k p o checked to h =
    operated core sees o checked (as_type core true (type_of_kind j) a) (as_type core true (type_of_kind k) b) (type_of_kind j) (type_of_kind k) to
    (kind_operand core sees a j p.founded p.first p.sort) (kind_operand core sees b k p.founded p.second p.other) h

arithmetic_typed : (core : Core) (sees : Sees) (a b : Value) (s t : Sort) → Pair core sees a b s t → (o : Operator) (checked : Bool) (to : TypeId) → (IsSo core (typing.all_three typing.integer table.integer table.integer table.integer) → Operates core o table.integer table.integer table.integer) → table.arithmetic s t ≡ Some to → IsTyped core sees (tree core o checked a b s t to)
arithmetic_typed core sees a b (Ordinal Integer) (Ordinal Integer) p o checked to put e =
    let k = integer_kind p.founded in
    subst (λ to. IsTyped core sees (tree core o checked a b (Ordinal Integer) (Ordinal Integer) to)) (some_is e) (kinds_typed core sees a b Integer Integer p o checked table.integer (put (k, k, k)))
arithmetic_typed core sees a b s t p o checked to put e = absurd (cc)

logic_typed : (core : Core) (sees : Sees) (a b : Value) (s t : Sort) → Pair core sees a b s t → (o : Operator) (checked : Bool) (to : TypeId) → (IsSo core (typing.all_three typing.integer table.integer table.integer table.integer) → Operates core o table.integer table.integer table.integer) → (IsSo core (typing.all_three typing.boolean table.boolean table.boolean table.boolean) → Operates core o table.boolean table.boolean table.boolean) → table.logic s t ≡ Some to → IsTyped core sees (tree core o checked a b s t to)
logic_typed core sees a b (Ordinal Boolean) (Ordinal Boolean) p o checked to put bits e =
    let k = boolean_kind p.founded in
    subst (λ to. IsTyped core sees (tree core o checked a b (Ordinal Boolean) (Ordinal Boolean) to)) (some_is e) (kinds_typed core sees a b Boolean Boolean p o checked table.boolean (bits (k, k, k)))
logic_typed core sees a b s t p o checked to put bits e = arithmetic_typed core sees a b s t p o checked to put e

-- ---- sets

record Common (core : Core) (of : TypeId) (s t : Sort) : Type 0 where
  sort : Sort
  is : sort_of core of ≡ sort
  exact : is_exact sort ≡ true
  set : typing.is_set (type_at core of) ≡ true
  left : Passes core s sort
  right : Passes core t sort

of_sets : (core : Core) (of : TypeId) (k : OrdinalKind) → sort_of core of ≡ Set k → typing.is_set (type_at core of) ≡ true
of_sets core of k e = let h = stands_as core of (Set k) e in rw h.1 refl

common : (core : Core) (a b : TypeId) (s t : Sort) → IsFounded core → sort_of core a ≡ s → sort_of core b ≡ t → are_sets s t ≡ true → Common core (common_set core a b) s t
common core a b (Set j) (Set k) f e g h =
    let m = set_sort core (common_set core a b) f (common_is_set a b j k f e g) in
    record { sort = Set m.0; is = m.1; exact = refl; set = of_sets core (common_set core a b) m.0 m.1; left = set_to_set; right = set_to_set }
common core a b (Set j) EmptySet f e g h =
    subst (λ x. Common core x (Set j) EmptySet) (sym (common_right core a b j e g)) (record { sort = Set j; is = e; exact = refl; set = of_sets core a j e; left = set_to_set; right = fitting assign.empty_set })
common core a b EmptySet (Set k) f e g h =
    subst (λ x. Common core x EmptySet (Set k)) (sym (common_left core a b e)) (record { sort = Set k; is = g; exact = refl; set = of_sets core b k g; left = fitting assign.empty_set; right = set_to_set })
common core a b EmptySet EmptySet f e g h =
    let k = stands_as core b EmptySet g in
    subst (λ x. Common core x EmptySet EmptySet) (sym (common_left core a b e)) (record { sort = EmptySet; is = g; exact = refl; set = rw k refl; left = empty_set; right = empty_set })
common core a b s t f e g h = absurd (cc)

set_operands : (s t : Sort) (sets x y : TypeId) → are_sets s t ≡ true → (operand_by sets x s ≡ sets) × (operand_by sets y t ≡ sets)
set_operands (Set j) (Set k) sets x y h = (refl, refl)
set_operands (Set j) EmptySet sets x y h = (refl, refl)
set_operands EmptySet (Set k) sets x y h = (refl, refl)
set_operands EmptySet EmptySet sets x y h = (refl, refl)
set_operands s t sets x y h = absurd (cc)

sets_typed : (core : Core) (sees : Sees) (a b : Value) (s t : Sort) → Pair core sees a b s t → (o : Operator) (checked : Bool) (to : TypeId) → are_sets s t ≡ true → let sets = common_set core (type_of a) (type_of b) in (typing.is_set (type_at core sets) ≡ true → Operates core o sets sets to) → IsTyped core sees (tree core o checked a b s t to)
sets_typed core sees a b s t p o checked to h put =
    let sets = common_set core (type_of a) (type_of b) in
    let c = common core (type_of a) (type_of b) s t p.founded p.sort p.other h in
    let q = set_operands s t sets (type_of a) (type_of b) h in
    operated core sees o checked (as_type core true (operand_by sets (type_of a) s) a) (as_type core true (operand_by sets (type_of b) t) b) sets sets to
    (subst (λ x. Of core sees sets (as_type core true x a)) (sym q.0) (operand core sees sets a s c.sort p.first p.sort c.is c.exact c.left))
    (subst (λ x. Of core sees sets (as_type core true x b)) (sym q.1) (operand core sees sets b t c.sort p.second p.other c.is c.exact c.right))
    (put c.set)

set_arithmetic_typed : (core : Core) (sees : Sees) (a b : Value) (s t : Sort) → Pair core sees a b s t → (o : Operator) (checked : Bool) (to : TypeId) → let sets = common_set core (type_of a) (type_of b) in (IsSo core (typing.all_three typing.integer table.integer table.integer table.integer) → Operates core o table.integer table.integer table.integer) → (IsSo core (typing.on_sets sets sets sets) → Operates core o sets sets sets) → table.set_arithmetic s t sets ≡ Some to → IsTyped core sees (tree core o checked a b s t to)
set_arithmetic_typed core sees a b s t p o checked to put joined e = go (are_sets s t) refl e
  where
    sets : TypeId
    sets = common_set core (type_of a) (type_of b)

    go : (c : Bool) → are_sets s t ≡ c → (if c then Some sets else table.arithmetic s t) ≡ Some to → IsTyped core sees (tree core o checked a b s t to)
    go true h e = subst (λ to. IsTyped core sees (tree core o checked a b s t to)) (some_is e) (sets_typed core sees a b s t p o checked sets h (λ k. joined (k, refl, refl)))
    go false h e = arithmetic_typed core sees a b s t p o checked to put e

-- ---- comparisons

-- a Char beside a string becomes one
abbrev mixes : Sort → Sort → Bool
mixes s t = is_text s && is_text t && (is_string s || is_string t)

not_shown : (b : Bool) → if◌then◌else◌ {A = Option Feature} b (Some Strings) None ≡ None → b ≡ false
not_shown true e = absurd (cc)
not_shown false e = refl

data Ordinals : Sort → Sort → Type 0 where
  ordinals : {j k : OrdinalKind} → Ordinals (Ordinal j) (Ordinal k)

are_ordinals : (s t : Sort) → mixes s t ≡ false → table.ordered s t ≡ true → Ordinals s t
are_ordinals (Ordinal j) (Ordinal k) m h = ordinals
are_ordinals (Ordinal Char) String m h = absurd (cc)
are_ordinals String (Ordinal Char) m h = absurd (cc)
are_ordinals String String m h = absurd (cc)
are_ordinals s t m h = let q = and_parts (is_text s) (is_text t) h in absurd (cc)

all_of_kind : (core : Core) (v : Value) (k : OrdinalKind) → IsFounded core → sort_of core (type_of v) ≡ Ordinal k → IsOrdinal core (type_of_kind k)
all_of_kind core v k f e = (stands_as core (type_of_kind k) (Ordinal k) (kind_sort core k f (rooted core (type_of v) k (stands_as core (type_of v) (Ordinal k) e).1))).0

ordered_typed : (core : Core) (sees : Sees) (a b : Value) (s t : Sort) → Pair core sees a b s t → (o : Operator) (checked : Bool) (to : TypeId) → mixes s t ≡ false → table.ordered s t ≡ true → ((x y : TypeId) → IsSo core (typing.ordered x y) → Operates core o x y to) → IsTyped core sees (tree core o checked a b s t to)
ordered_typed core sees a b s t p o checked to m h put = go p (are_ordinals s t m h)
  where
    go : {s t : Sort} → Pair core sees a b s t → Ordinals s t → IsTyped core sees (tree core o checked a b s t to)
    go p (ordinals {j = j} {k = k}) = kinds_typed core sees a b j k p o checked to (put (type_of_kind j) (type_of_kind k) (inl (all_of_kind core a j p.founded p.sort, all_of_kind core b k p.founded p.other)))

own_operand : (sets of : TypeId) (s : Sort) → is_reference s ≡ true → operand_by sets of s ≡ of
own_operand sets of DynamicArray h = refl
own_operand sets of (Class c) h = refl
own_operand sets of (Interface i) h = refl
own_operand sets of Nil h = refl
own_operand sets of s h = absurd (cc)

references_typed : (core : Core) (sees : Sees) (a b : Value) (s t : Sort) → Pair core sees a b s t → (o : Operator) (checked : Bool) (to : TypeId) → is_reference s && is_reference t ≡ true → (IsReference core (type_of a) × IsReference core (type_of b) → Operates core o (type_of a) (type_of b) to) → IsTyped core sees (tree core o checked a b s t to)
references_typed core sees a b s t p o checked to h put =
    let both = and_parts (is_reference s) (is_reference t) h in
    let sets = common_set core (type_of a) (type_of b) in
    operated core sees o checked (as_type core true (operand_by sets (type_of a) s) a) (as_type core true (operand_by sets (type_of b) t) b) (type_of a) (type_of b) to
    (subst (λ x. Of core sees (type_of a) (as_type core true x a)) (sym (own_operand sets (type_of a) s both.0)) (as_own core sees true a p.first))
    (subst (λ x. Of core sees (type_of b) (as_type core true x b)) (sym (own_operand sets (type_of b) t both.1)) (as_own core sees true b p.second))
    (put (reference_of core (type_of a) s (stands_as core (type_of a) s p.sort) both.0, reference_of core (type_of b) t (stands_as core (type_of b) t p.other) both.1))

compared_typed : (core : Core) (of : TypeId) (b : Bool) (P : TypeId → Type 0) → IsFounded core → table.compared b ≡ Some of → (b ≡ true → IsBoolean core table.boolean → P table.boolean) → P of
compared_typed core of true P f e put = subst P (some_is e) (put refl (boolean_kind f))
compared_typed core of false P f e put = absurd (cc)

included_typed : (core : Core) (sees : Sees) (a b : Value) (s t : Sort) → Pair core sees a b s t → (o : Operator) (checked : Bool) (to : TypeId) → mixes s t ≡ false → table.included s t ≡ true → ((x y : TypeId) → IsSo core (typing.ordered x y) ⊎ IsSo core (typing.sets x y) → Operates core o x y to) → IsTyped core sees (tree core o checked a b s t to)
included_typed core sees a b s t p o checked to m h put = go (or_cases (are_sets s t) (table.ordered s t) h)
  where
    go : (are_sets s t ≡ true) ⊎ (table.ordered s t ≡ true) → IsTyped core sees (tree core o checked a b s t to)
    go (inl e) = let sets = common_set core (type_of a) (type_of b) in sets_typed core sees a b s t p o checked to e (λ k. put sets sets (inr (k, refl)))
    go (inr e) = ordered_typed core sees a b s t p o checked to m e (λ x y k. put x y (inl k))

equated_typed : (core : Core) (sees : Sees) (a b : Value) (s t : Sort) → Pair core sees a b s t → (o : Operator) (checked : Bool) (to : TypeId) → mixes s t ≡ false → table.equated s t ≡ true → ((x y : TypeId) → IsSo core (typing.ordered x y) ⊎ IsSo core (typing.sets x y) ⊎ (IsReference core x × IsReference core y) → Operates core o x y to) → IsTyped core sees (tree core o checked a b s t to)
equated_typed core sees a b s t p o checked to m h put = go (or_cases (table.included s t) (is_reference s && is_reference t) h)
  where
    some : {A B C : Type 0} → A ⊎ B → A ⊎ B ⊎ C
    some (inl x) = inl x
    some (inr x) = inr (inl x)

    go : (table.included s t ≡ true) ⊎ (is_reference s && is_reference t ≡ true) → IsTyped core sees (tree core o checked a b s t to)
    go (inl e) = included_typed core sees a b s t p o checked to m e (λ x y k. put x y (some k))
    go (inr e) = references_typed core sees a b s t p o checked to e (λ k. put (type_of a) (type_of b) (inr (inr k)))

-- ---- operators

added_typed : (core : Core) (sees : Sees) (a b : Value) (s t : Sort) → Pair core sees a b s t → (checked : Bool) (to : TypeId) → table.operation Add s t (common_set core (type_of a) (type_of b)) ≡ Some to → feature_of_operands Add s t ≡ None → IsTyped core sees (tree core Add checked a b s t to)
added_typed core sees a b s t p checked to e g = go (is_text s && is_text t) refl e
  where
    no : (b c : Bool) → b && c ≡ true → b && c && true ≡ true
    no true true h = refl
    no b c h = absurd (cc)

    go : (c : Bool) → is_text s && is_text t ≡ c → (if c then Some table.string else table.set_arithmetic s t (common_set core (type_of a) (type_of b))) ≡ Some to → IsTyped core sees (tree core Add checked a b s t to)
    go true h e = absurd (let f = not_shown (is_text s && is_text t && true) g in let q = no (is_text s) (is_text t) h in cc)
    go false h e = set_arithmetic_typed core sees a b s t p Add checked to inl (λ h. inr (inr h)) e

operation_typed : (core : Core) (sees : Sees) (a b : Value) (s t : Sort) → Pair core sees a b s t → (o : Operator) (checked : Bool) (to : TypeId) → table.operation o s t (common_set core (type_of a) (type_of b)) ≡ Some to → feature_of_operands o s t ≡ None → (o ≡ In_ → ⊥) → IsTyped core sees (tree core o checked a b s t to)
operation_typed core sees a b s t p Add checked to e g n = added_typed core sees a b s t p checked to e g
operation_typed core sees a b s t p Subtract checked to e g n = set_arithmetic_typed core sees a b s t p Subtract checked to inl inr e
operation_typed core sees a b s t p Multiply checked to e g n = set_arithmetic_typed core sees a b s t p Multiply checked to inl inr e
operation_typed core sees a b s t p Div checked to e g n = arithmetic_typed core sees a b s t p Div checked to (λ h. h) e
operation_typed core sees a b s t p Mod_ checked to e g n = arithmetic_typed core sees a b s t p Mod_ checked to (λ h. h) e
operation_typed core sees a b s t p Shl checked to e g n = arithmetic_typed core sees a b s t p Shl checked to (λ h. h) e
operation_typed core sees a b s t p Shr checked to e g n = arithmetic_typed core sees a b s t p Shr checked to (λ h. h) e
operation_typed core sees a b s t p And checked to e g n = logic_typed core sees a b s t p And checked to inl inr e
operation_typed core sees a b s t p Or checked to e g n = logic_typed core sees a b s t p Or checked to inl inr e
operation_typed core sees a b s t p Xor checked to e g n = logic_typed core sees a b s t p Xor checked to inl inr e
operation_typed core sees a b s t p Less checked to e g n =
    compared_typed core to (table.ordered s t) (λ to. IsTyped core sees (tree core Less checked a b s t to)) p.founded e
    (λ h k. ordered_typed core sees a b s t p Less checked table.boolean (not_shown (mixes s t) g) h (λ x y i. (i, k)))
operation_typed core sees a b s t p Greater checked to e g n =
    compared_typed core to (table.ordered s t) (λ to. IsTyped core sees (tree core Greater checked a b s t to)) p.founded e
    (λ h k. ordered_typed core sees a b s t p Greater checked table.boolean (not_shown (mixes s t) g) h (λ x y i. (i, k)))
operation_typed core sees a b s t p LessEqual checked to e g n =
    compared_typed core to (table.included s t) (λ to. IsTyped core sees (tree core LessEqual checked a b s t to)) p.founded e
    (λ h k. included_typed core sees a b s t p LessEqual checked table.boolean (not_shown (mixes s t) g) h (λ x y i. (i, k)))
operation_typed core sees a b s t p GreaterEqual checked to e g n =
    compared_typed core to (table.included s t) (λ to. IsTyped core sees (tree core GreaterEqual checked a b s t to)) p.founded e
    (λ h k. included_typed core sees a b s t p GreaterEqual checked table.boolean (not_shown (mixes s t) g) h (λ x y i. (i, k)))
operation_typed core sees a b s t p Equal checked to e g n =
    compared_typed core to (table.equated s t) (λ to. IsTyped core sees (tree core Equal checked a b s t to)) p.founded e
    (λ h k. equated_typed core sees a b s t p Equal checked table.boolean (not_shown (mixes s t) g) h (λ x y i. (i, k)))
operation_typed core sees a b s t p NotEqual checked to e g n =
    compared_typed core to (table.equated s t) (λ to. IsTyped core sees (tree core NotEqual checked a b s t to)) p.founded e
    (λ h k. equated_typed core sees a b s t p NotEqual checked table.boolean (not_shown (mixes s t) g) h (λ x y i. (i, k)))
operation_typed core sees a b s t p In_ checked to e g n = absurd (n refl)
operation_typed core sees a b s t p Is checked to e g n = absurd (cc)
operation_typed core sees a b s t p As_ checked to e g n = absurd (cc)
operation_typed core sees a b s t p Slash checked to e g n = absurd (cc)

member_typed : (core : Core) (sees : Sees) (a b : Value) (s t : Sort) → Pair core sees a b s t → (checked : Bool) (to : TypeId) → table.member_of s t ≡ Some to → IsTyped core sees (with_step (as_type core true (type_of a) a) (operate In_ checked (as_type core true (set_beside core (type_of a) (type_of b) t) b)) to)
member_typed core sees a b (Ordinal j) (Set k) p checked to e =
    let l = stands_as core (type_of a) (Ordinal j) p.sort in
    let r = stands_as core (type_of b) (Set k) p.other in
    compared_typed core to (same_kind j k) (λ to. IsTyped core sees (with_step (as_type core true (type_of a) a) (operate In_ checked (as_type core true (type_of b) b)) to)) p.founded e
    (λ h i. operated core sees In_ checked (as_type core true (type_of a) a) (as_type core true (type_of b) b) (type_of a) (type_of b) table.boolean (as_own core sees true a p.first) (as_own core sees true b p.second) (l.0, rw r.1 tt, i))
member_typed core sees a b (Ordinal j) EmptySet p checked to e =
    let l = stands_as core (type_of a) (Ordinal j) p.sort in
    let over = over_is_set (type_of a) j p.founded l.1 in
    let m = set_sort core (set_over core (type_of a)) p.founded over in
    subst (λ to. IsTyped core sees (with_step (as_type core true (type_of a) a) (operate In_ checked (as_type core true (set_over core (type_of a)) b)) to)) (some_is e)
    (operated core sees In_ checked (as_type core true (type_of a) a) (as_type core true (set_over core (type_of a)) b) (type_of a) (set_over core (type_of a)) table.boolean (as_own core sees true a p.first)
    (operand core sees (set_over core (type_of a)) b EmptySet (Set m.0) p.second p.other m.1 refl (fitting assign.empty_set)) (l.0, over, boolean_kind p.founded))
member_typed core sees a b s t p checked to e = absurd (cc)

pub operation_sound : (core : Core) (sees : Sees) → IsFounded core → (o : Operator) (checked : Bool) (a b : Value) (to : TypeId) → IsSoundValue core sees a → IsSoundValue core sees b → table.operation o (sort_of core (type_of a)) (sort_of core (type_of b)) (common_set core (type_of a) (type_of b)) ≡ Some to → feature_of_operands o (sort_of core (type_of a)) (sort_of core (type_of b)) ≡ None → IsSoundValue core sees (operation_tree core o checked a b to)
operation_sound core sees f In_ checked a b to h k e g = member_typed core sees a b (sort_of core (type_of a)) (sort_of core (type_of b)) (record { founded = f; first = h; second = k; sort = refl; other = refl }) checked to e
operation_sound core sees f o checked a b to h k e g = operation_typed core sees a b (sort_of core (type_of a)) (sort_of core (type_of b)) (record { founded = f; first = h; second = k; sort = refl; other = refl }) o checked to e g (λ i. absurd (cc))

prefix_typed : (core : Core) (sees : Sees) (v : Value) (s : Sort) → IsFounded core → IsSoundValue core sees v → sort_of core (type_of v) ≡ s → (o : PrefixOperator) (checked : Bool) (to : TypeId) → table.prefixed o s ≡ Some to → IsSoundValue core sees (prefix_tree core o checked v to)
prefix_typed core sees v s f h e o checked to g = go s o e g
  where
    put : (k : OrdinalKind) (o : PrefixOperator) → sort_of core (type_of v) ≡ Ordinal k → Prefixes core o (type_of_kind k) → type_of_kind k ≡ to → IsSoundValue core sees (prefix_tree core o checked v to)
    put k o e p q =
        let l = kind_operand core sees v k f h e in
        subst (λ to. IsSoundValue core sees (prefix_tree core o checked v to)) q
        (typed_then core sees (as_type core true (type_of_kind k) v) (prefixed o checked) (type_of_kind k) l.0 (subst (Prefixes core o) (sym l.1) p, l.1))

    go : (s : Sort) (o : PrefixOperator) → sort_of core (type_of v) ≡ s → table.prefixed o s ≡ Some to → IsSoundValue core sees (prefix_tree core o checked v to)
    go (Ordinal Integer) Not e g = put Integer Not e (inl (integer_kind f)) (some_is g)
    go (Ordinal Boolean) Not e g = put Boolean Not e (inr (boolean_kind f)) (some_is g)
    go (Ordinal Integer) Plus e g = put Integer Plus e (integer_kind f) (some_is g)
    go (Ordinal Integer) Minus e g = put Integer Minus e (integer_kind f) (some_is g)
    go s Not e g = absurd (cc)
    go s Plus e g = absurd (cc)
    go s Minus e g = absurd (cc)

pub prefix_sound : (core : Core) (sees : Sees) → IsFounded core → (o : PrefixOperator) (checked : Bool) (v : Value) (to : TypeId) → IsSoundValue core sees v → table.prefixed o (sort_of core (type_of v)) ≡ Some to → IsSoundValue core sees (prefix_tree core o checked v to)
prefix_sound core sees f o checked v to h e = prefix_typed core sees v (sort_of core (type_of v)) f h refl o checked to e

-- ---- casts and functions

pub cast_sound : (core : Core) (sees : Sees) (e : Tree) (to : TypeId) (c : Conversion) → IsTyped core sees e → cast_by core (typing.type_of e) to (sort_of core (typing.type_of e)) (sort_of core to) ≡ Some c → IsTyped core sees (with_step e (convert c CastOrigin) to)
cast_sound core sees e to c h q = typed_then core sees e (convert c CastOrigin) to h (go (sort_of core from) (sort_of core to) (stands core from) (stands core to) q)
  where
    from : TypeId
    from = typing.type_of e

    narrow : IsOrdinal core from → IsOrdinal core to → (b : Bool) → Converts core (if b then LowBits else Check) from to
    narrow i j true = (i, j)
    narrow i j false = inl (i, j)

    go : (s t : Sort) → Stands core from s → Stands core to t → cast_by core from to s t ≡ Some c → Converts core c from to
    go (Ordinal a) (Ordinal b) h k e =
        subst (λ c. Converts core c from to) (some_is e) (chosen_converts core from to (if keeps_low_bits (type_at core to) then LowBits else Check) (narrow h.0 k.0 (keeps_low_bits (type_at core to))))
    go s t h k e = absurd (cc)

applied : (core : Core) (sees : Sees) (f : Function) (checked : Bool) (e : Tree) (x to : TypeId) → Of core sees x e → Applies core f x to → IsTyped core sees (with_step e (apply f checked) to)
applied core sees f checked e x to p h = typed_then core sees e (apply f checked) to p.0 (subst (λ x. Applies core f x to) (sym p.1) h)

own_applied : (core : Core) (sees : Sees) (f : Function) (checked : Bool) (v : Value) (to : TypeId) → IsSoundValue core sees v → Applies core f (type_of v) to → IsTyped core sees (with_step (as_type core true (type_of v) v) (apply f checked) to)
own_applied core sees f checked v to h a = applied core sees f checked (as_type core true (type_of v) v) (type_of v) to (as_own core sees true v h) a

kind_applied : (core : Core) (sees : Sees) (f : Function) (checked : Bool) (v : Value) (k : OrdinalKind) (to : TypeId) → IsFounded core → IsSoundValue core sees v → sort_of core (type_of v) ≡ Ordinal k → Applies core f (type_of_kind k) to → IsTyped core sees (with_step (as_type core true (type_of_kind k) v) (apply f checked) to)
kind_applied core sees f checked v k to d h e a = applied core sees f checked (as_type core true (type_of_kind k) v) (type_of_kind k) to (kind_operand core sees v k d h e) a

sequence : (core : Core) (of : TypeId) (t : Option CoreType) (index : TypeId) → type_at core of ≡ t → index_type t ≡ Some index → IsSequence core of
sequence core of (Some (type.Array at element)) index e h = inr (rw e tt)
sequence core of (Some (type.DynamicArray element)) index e h = inr (rw e tt)
sequence core of (Some (type.OpenArray element)) index e h = inr (rw e tt)
sequence core of (Some type.String) index e h = inl e
sequence core of t index e h = absurd (cc)

bounded : (core : Core) (of : TypeId) (t : Option CoreType) (index : TypeId) → IsFounded core → type_at core of ≡ t → index_type t ≡ Some index → IsInteger core index ⊎ (typing.bound_of t ≡ Some index)
bounded core of (Some (type.Array at element)) index f e h = inr h
bounded core of (Some (type.DynamicArray element)) index f e h = inl (subst (IsInteger core) (some_is h) (integer_kind f))
bounded core of (Some (type.OpenArray element)) index f e h = inl (subst (IsInteger core) (some_is h) (integer_kind f))
bounded core of (Some type.String) index f e h = inl (subst (IsInteger core) (some_is h) (integer_kind f))
bounded core of t index f e h = absurd (cc)

-- what has an index is not ordinal
not_ordinal : (t : Option CoreType) (index : TypeId) → index_type t ≡ Some index → IsSomeAnd (range_of t) (λ r. Unit {0}) → ⊥
not_ordinal (Some (type.Array at element)) index h i = i
not_ordinal (Some (type.DynamicArray element)) index h i = i
not_ordinal (Some (type.OpenArray element)) index h i = i
not_ordinal (Some type.String) index h i = i
not_ordinal t index h i = cc

own_text : (core : Core) (of index : TypeId) (s : Sort) → Stands core of s → index_type (type_at core of) ≡ Some index → text_type s of ≡ of
own_text core of index (Ordinal kind) h e = absurd (not_ordinal (type_at core of) index e h.0)
own_text core of index s h e = refl

length_typed : (core : Core) (sees : Sees) (checked : Bool) (v : Value) (to : TypeId) → IsFounded core → IsSoundValue core sees v → function_type core Length (type_of v) ≡ Some to → IsSoundValue core sees (function_tree core Length checked v to)
length_typed core sees checked v to f h e = go (index_type (type_at core of)) refl e
  where
    of : TypeId
    of = type_of v

    alone : (s : Sort) → sort_of core of ≡ s → table.application Length s of ≡ Some to → IsTyped core sees (with_step (as_type core true (text_type s of) v) (apply Length checked) to)
    alone String q e = own_applied core sees Length checked v to h (inl (stands_as core of String q), subst (IsInteger core) (some_is e) (integer_kind f))
    alone (Ordinal Char) q e =
        let k = string_kind f in
        applied core sees Length checked (as_type core true table.string v) table.string to (operand core sees table.string v (Ordinal Char) String h q (simp k) refl (fitting assign.char_to_string))
        (inl k, subst (IsInteger core) (some_is e) (integer_kind f))
    alone s q e = absurd (none-some _ e)

    go : (o : Option TypeId) → index_type (type_at core of) ≡ o → length_type o (sort_of core of) of ≡ Some to → IsTyped core sees (with_step (as_type core true (text_type (sort_of core of) of) v) (apply Length checked) to)
    go (Some index) q e =
        subst (λ x. IsTyped core sees (with_step (as_type core true x v) (apply Length checked) to)) (sym (own_text core of index (sort_of core of) (stands core of) q))
        (own_applied core sees Length checked v to h (sequence core of (type_at core of) index refl q, subst (IsInteger core) (some_is e) (integer_kind f)))
    go None q e = alone (sort_of core of) refl e

bound_typed : (core : Core) (of to : TypeId) → IsFounded core → bound_type (index_type (type_at core of)) (sort_of core of) of ≡ Some to → IsSo core (typing.bounds of to)
bound_typed core of to f e = go (index_type (type_at core of)) refl e
  where
    alone : (s : Sort) → Stands core of s → type_if (is_ordinal s) of ≡ Some to → IsOrdinal core of × (of ≡ to)
    alone (Ordinal kind) h e = (h.0, some_is e)
    alone s h e = absurd (none-some _ e)

    go : (o : Option TypeId) → index_type (type_at core of) ≡ o → bound_type o (sort_of core of) of ≡ Some to → IsSo core (typing.bounds of to)
    go (Some index) q e =
        let g : index_type (type_at core of) ≡ Some to = q ∙ e in
        inl (sequence core of (type_at core of) to refl g, bounded core of (type_at core of) to f refl g)
    go None q e = inr (alone (sort_of core of) (stands core of) e)

sort_typed : (core : Core) (sees : Sees) (g : Function) (checked : Bool) (v : Value) (s : Sort) (to : TypeId) → IsFounded core → IsSoundValue core sees v → sort_of core (type_of v) ≡ s → table.application g s (type_of v) ≡ Some to → (g ≡ Length → ⊥) → IsSoundValue core sees (function_tree core g checked v to)
sort_typed core sees Ord checked v (Ordinal kind) to f h q e n = own_applied core sees Ord checked v to h ((stands_as core (type_of v) (Ordinal kind) q).0, subst (IsInteger core) (some_is e) (integer_kind f))
sort_typed core sees Succ checked v (Ordinal kind) to f h q e n = own_applied core sees Succ checked v to h ((stands_as core (type_of v) (Ordinal kind) q).0, some_is e)
sort_typed core sees Pred checked v (Ordinal kind) to f h q e n = own_applied core sees Pred checked v to h ((stands_as core (type_of v) (Ordinal kind) q).0, some_is e)
sort_typed core sees Abs checked v (Ordinal Integer) to f h q e n = kind_applied core sees Abs checked v Integer to f h q (integer_kind f, some_is e)
sort_typed core sees Sqr checked v (Ordinal Integer) to f h q e n = kind_applied core sees Sqr checked v Integer to f h q (integer_kind f, some_is e)
sort_typed core sees Odd checked v (Ordinal Integer) to f h q e n = kind_applied core sees Odd checked v Integer to f h q (integer_kind f, subst (IsBoolean core) (some_is e) (boolean_kind f))
sort_typed core sees UpCase checked v (Ordinal Char) to f h q e n = kind_applied core sees UpCase checked v Char to f h q (char_kind f, some_is e)
sort_typed core sees Length checked v s to f h q e n = absurd (n refl)
sort_typed core sees g checked v s to f h q e n = absurd (none-some _ e)

pub function_sound : (core : Core) (sees : Sees) → IsFounded core → (g : Function) (checked : Bool) (v : Value) (to : TypeId) → IsSoundValue core sees v → function_type core g (type_of v) ≡ Some to → IsSoundValue core sees (function_tree core g checked v to)
function_sound core sees f Length checked v to h e = length_typed core sees checked v to f h e
function_sound core sees f Low checked v to h e = own_applied core sees Low checked v to h (bound_typed core (type_of v) to f e)
function_sound core sees f High checked v to h e = own_applied core sees High checked v to h (bound_typed core (type_of v) to f e)
function_sound core sees f g checked v to h e = sort_typed core sees g checked v (sort_of core (type_of v)) to f h refl e (λ i. absurd (cc))

-- ---- elements and fields

no_reference : (core : Core) (of : TypeId) (s : Sort) → Stands core of s → is_reference s ≡ true → IsOrdinal core of → ⊥
no_reference core of DynamicArray h e o = let q = rw h.1 at o in absurd q
no_reference core of (Class c) h e o = let q = rw h at o in absurd q
no_reference core of (Interface i) h e o = let q = rw h at o in absurd q
no_reference core of Nil h e o = let q = rw h at o in absurd q
no_reference core of s h e o = absurd (cc)

-- only what is ordinal is assignable to an ordinal type
ordinal_fits : (core : Core) (from to : TypeId) {s t : Sort} → Stands core from s → Stands core to t → assign.Fits core s t → IsOrdinal core to → IsOrdinal core from
ordinal_fits core from to h k (assign.ordinals e) o = h.0
ordinal_fits core from to h k assign.char_to_string o = h.0
ordinal_fits core from to h k (assign.sets e) o = let q = rw k.1 at o in absurd q
ordinal_fits core from to h k assign.empty_set o = let q = rw k.1 at o in absurd q
ordinal_fits core from to {t = t} h k (assign.nil e) o = absurd (no_reference core to t k e o)
ordinal_fits core from to h k (assign.to_ancestor d) o = let q = rw k at o in absurd q
ordinal_fits core from to h k (assign.to_interface d) o = let q = rw k at o in absurd q
ordinal_fits core from to h k (assign.to_parent d) o = let q = rw k at o in absurd q

ordinal_goes : (core : Core) (from to : TypeId) → assign.Assignable core from to → IsOrdinal core to → IsOrdinal core from
ordinal_goes core from to (assign.one_type e) o = subst (IsOrdinal core) (sym (one_exact core from to (no_range (type_at core to) o) e)) o
ordinal_goes core from to (assign.by_sort f) o = ordinal_fits core from to (stands core from) (stands core to) f o

-- an index of what has the type; of a static array it is ordinal, as the index type is
abbrev pub IsIndex : Core → Sees → Option CoreType → TypeId → Tree → Type 0
IsIndex core sees (Some (type.Array at element)) to i = IsTyped core sees i × (IsOrdinal core to → IsOrdinal core (typing.type_of i))
IsIndex core sees of to i = IsValue core sees to i

pub index_is : (core : Core) (sees : Sees) (of : Option CoreType) (to : TypeId) (v : Value) → IsSoundValue core sees v → assignable core (type_of v) to ≡ true → IsIndex core sees of to (index_tree core of to v)
index_is core sees (Some (type.Array at element)) to v h a =
    (tree_typed core sees v h, λ o. subst (IsOrdinal core) (sym (tree_type v)) (ordinal_goes core (type_of v) to (is_assignable core (type_of v) to a) o))
index_is core sees of to v h a = as_type_value core sees true to v h a

index_typed : (core : Core) (sees : Sees) (of : Option CoreType) (to : TypeId) (i : Tree) → IsIndex core sees of to i → IsTyped core sees i
index_typed core sees (Some (type.Array at element)) to i k = k.0
index_typed core sees of to i k = (as_typed core sees to i k).0

integer_index : (core : Core) (sees : Sees) (i : Tree) → IsFounded core → IsValue core sees table.integer i → IsInteger core (typing.type_of i)
integer_index core sees i f h =
    let k = integer_kind f in
    let o = (as_typed core sees table.integer i h).1 in
    subst (IsInteger core) (sym (one_exact core (typing.type_of i) table.integer (rw k refl) o)) k

indexes : (core : Core) (sees : Sees) (a : TypeId) (i : Tree) (t : Option CoreType) (of : TypeId × TypeId) → IsFounded core → type_at core a ≡ t → index_types t ≡ Some of → IsIndex core sees t of.0 i → Indexes core t (typing.type_of i) of.1
indexes core sees a i (Some (type.Array at element)) of f e h k =
    let row = f.types a.0 (type.Array at element) e in
    let q : (at, element) ≡ of = some_is h in
    (k.1 (subst (λ of. IsOrdinal core of.0) q row.0.1), ap (λ of. of.1) q)
indexes core sees a i (Some (type.DynamicArray element)) of f e h k = let q : (table.integer, element) ≡ of = some_is h in (integer_index core sees i f (subst (λ of. IsValue core sees of.0 i) (sym q) k), ap (λ of. of.1) q)
indexes core sees a i (Some (type.OpenArray element)) of f e h k = let q : (table.integer, element) ≡ of = some_is h in (integer_index core sees i f (subst (λ of. IsValue core sees of.0 i) (sym q) k), ap (λ of. of.1) q)
indexes core sees a i (Some type.String) of f e h k = let q : (table.integer, table.char) ≡ of = some_is h in (integer_index core sees i f (subst (λ of. IsValue core sees of.0 i) (sym q) k), subst (λ of. Kind core of.1 type.Char) q (char_kind f))
indexes core sees a i t of f e h k = absurd (none-some _ h)

pub index_sound : (core : Core) (sees : Sees) → IsFounded core → (a : Value) (i : Tree) (of : TypeId × TypeId) → IsSoundValue core sees a → index_types (type_at core (type_of a)) ≡ Some of → IsIndex core sees (type_at core (type_of a)) of.0 i → IsTyped core sees (with_step (tree_of a) (index_step i) of.1)
index_sound core sees f a i of h e k =
    typed_then core sees (tree_of a) (index_step i) of.1 (tree_typed core sees a h)
    (index_typed core sees (type_at core (type_of a)) of.0 i k, subst (λ x. Indexes core (type_at core x) (typing.type_of i) of.1) (sym (tree_type a)) (indexes core sees (type_of a) i (type_at core (type_of a)) of f refl e k))

-- what is made of a row and its number
pub record Numbered {A B : Type 0} (table : List A) (run : Run) (make : ℕ → A → B) (b : B) : Type 0 where
  pub number : ℕ
  pub row : A
  pub is_there : slice_get table number ≡ Some row
  pub within : InRun run number
  pub is : make number row ≡ b

pub numbered : {A B : Type 0} (table : List A) (run : Run) (k : ℕ) (make : ℕ → A → B) (b : B) → option_and_then (λ n. option_map (make n) (slice_get (rows table run) k)) (number_at run k) ≡ Some b → Numbered table run make b
numbered {A} {B} table run k make b e = go (nat_lt (run.first + k) (2 ^ 32)) e
  where
    at : (o : Option A) → slice_get (rows table run) k ≡ o → option_map (make (run.first + k)) o ≡ Some b → Numbered table run make b
    at (Some x) q e = let r = row_of table run k x q in record { number = run.first + k; row = x; is_there = r.1; within = (omega arith, omega arith); is = some_is e }
    at None q e = absurd (none-some _ e)

    go : (c : Bool) → option_and_then (λ n. option_map (make n) (slice_get (rows table run) k)) (if c then Some (run.first + k) else None) ≡ Some b → Numbered table run make b
    go true e = at (slice_get (rows table run) k) refl e
    go false e = absurd (none-some _ e)

pub field_sound : (core : Core) (sees : Sees) (name : List ℕ) (v : Value) (f : FieldId × TypeId) → IsSoundValue core sees v → field_named core name (type_at core (type_of v)) ≡ Some f → IsTyped core sees (with_step (tree_of v) (field f.0) f.1)
field_sound core sees name v f h e =
    typed_then core sees (tree_of v) (field f.0) f.1 (tree_typed core sees v h)
    (subst (λ x. HoldsField core (type_at core x) f.0 × There core.fields f.0.0 (λ x. x.of ≡ f.1)) (sym (tree_type v)) (go (type_at core (type_of v)) e))
  where
    at : (run : Run) (o : Option ℕ) → option_and_then (field_at (rows core.fields run) run) o ≡ Some f → InRun run f.0.0 × There core.fields f.0.0 (λ x. x.of ≡ f.1)
    at run (Some k) e =
        let n = numbered core.fields run k (λ n f. (record { 0 = n }, f.of)) f e in
        subst (λ f. InRun run f.0.0 × There core.fields f.0.0 (λ x. x.of ≡ f.1)) n.is (n.within, rw n.is_there refl)
    at run None e = absurd (none-some _ e)

    go : (t : Option CoreType) → field_named core name t ≡ Some f → HoldsField core t f.0 × There core.fields f.0.0 (λ x. x.of ≡ f.1)
    go (Some (type.Record run)) e = at run (position (is_named name) (rows core.fields run)) e
    go t e = absurd (none-some _ e)
