-- Typed trees with a step more, and values as values of another type.
use Rattle.std.proofs.Common.{◌≡◌, ◌⊎◌, inl, inr, ℕ, ℤ, pos, negsuc, Bool, true, false, not, ◌||◌, List, [], ◌∷◌, Option, Some, None, if◌then◌else◌, refl, ap, subst, ◌∙◌, arith}
use Rattle.std.proofs.lemmas.Bool.{and_parts}
use Rattle.std.proofs.lemmas.List.Elements.{All-nil, All-cons}
use Rattle.std.specs.List.{All, list_all}
use Rattle.std.specs.Prelude.{int_le, is_some}
use Rattle.std.proofs.lemmas.Int.{ints}
use Rattle.std.specs.Option.{IsSomeAnd}
use Rattle.op_core.proofs.OneType.{one_itself}
use Rattle.op_core.specs.Needs.{host}
use Rattle.op_core.specs.Expression.{Expression as Tree, expression, Steps, no_steps, steps, Action, convert, behind, then as with_step}
use Rattle.op_core.specs.Members.{Kind}
use Rattle.op_core.specs.Sizes.{range_of, type_at}
use Rattle.op_core.specs.Types.{elements, is_one_type}
use Rattle.op_core.specs.Typing as typing
use Rattle.op_core.specs.Typing.{AreSteps, Converts, Fits, IsAction, IsChar, IsOrdinal, IsSet, IsTyped, IsUp, IsValue, IsWider, OneType, Sees, base_of, type_after}
use Rattle.op_core.specs.declared.constant.Const.{Const}
use Rattle.op_core.specs.declared.constant.Const.TheVariants as const
use Rattle.op_core.specs.declared.ids.TypeId.{TypeId}
use Rattle.op_core.specs.declared.operation.Conversion.{Conversion}
use Rattle.op_core.specs.declared.operation.Conversion.TheVariants.{Keep, LowBits, Check}
use Rattle.op_core.specs.declared.operation.Origin.TheVariants.{Implied}
use Rattle.op_core.specs.declared.program.Core.{Core}
use Rattle.op_core.specs.declared.types.CoreType.{CoreType}
use Rattle.op_core.specs.declared.types.CoreType.TheVariants as type
use Rattle.op_typed.specs.Settled.{IsSoundValue}
use Rattle.op_check_expr.specs.Values.{Value, constant, computed, are_in, as_type, constant_tree, conversion, conversion_by, is_in, is_integer, is_wider, ordinal_conversion, retyped, retyped_by, tree_of, type_of, with_conversion}
use Rattle.op_core.proofs.Agreeing.{some_is}
use Rattle.op_types.proofs.Assigning.{is_assignable}
use Rattle.op_typed.proofs.Sorting.{Stands, has_kind, stands, stands_as}
use Rattle.op_typed.proofs.TypeFacts.{one_or_elements}
use Rattle.op_types.specs.Assignable as assign
use Rattle.op_types.specs.Assignable.{assignable}
use Rattle.op_types.specs.Sorts.{is_reference, kind_by, kind_of, sort_of}
use Rattle.op_typed.specs.Standing.{IsSoundConstant}
use Rattle.op_types.specs.Values.{contains, in_range, within}
use Rattle.op_types.specs.declared.constant.Constant.{Constant}
use Rattle.op_types.specs.declared.sort.OrdinalKind.{OrdinalKind}
use Rattle.op_types.specs.declared.sort.OrdinalKind.TheVariants.{Char}
use Rattle.op_types.specs.declared.sort.Sort.{Sort}
use Rattle.op_types.specs.declared.sort.Sort.TheVariants.{Ordinal, String, Set, EmptySet, DynamicArray, Class, Interface, Nil}

-- ---- with a step more

last_of : (of : TypeId) (ss : Steps) (action : Action) (to : TypeId) → type_after of (behind ss action to) ≡ to
last_of of no_steps action to = refl
last_of of (steps a next others) action to = last_of next others action to

pub type_then : (e : Tree) (action : Action) (to : TypeId) → typing.type_of (with_step e action to) ≡ to
type_then (expression root of others) action to = last_of of others action to

steps_then : (core : Core) (sees : Sees) (of : TypeId) (ss : Steps) (action : Action) (to : TypeId) → AreSteps core sees of ss → IsAction core sees (type_after of ss) action to → AreSteps core sees of (behind ss action to)
steps_then core sees of no_steps action to h a = (a, tt)
steps_then core sees of (steps x next others) action to h a = (h.0, steps_then core sees next others action to h.1 a)

pub typed_then : (core : Core) (sees : Sees) (e : Tree) (action : Action) (to : TypeId) → IsTyped core sees e → IsAction core sees (typing.type_of e) action to → IsTyped core sees (with_step e action to)
typed_then core sees (expression root of others) action to h a = (h.0, steps_then core sees of others action to h.1 a)

pub as_typed : (core : Core) (sees : Sees) (of : TypeId) (e : Tree) → IsValue core sees of e → IsTyped core sees e × OneType core (typing.type_of e) of
as_typed core sees of (expression root from others) h = ((h.0, h.1), h.2)

pub as_value : (core : Core) (sees : Sees) (of : TypeId) (e : Tree) → IsTyped core sees e → OneType core (typing.type_of e) of → IsValue core sees of e
as_value core sees of (expression root from others) h o = (h.0, h.1, o)

pub tree_typed : (core : Core) (sees : Sees) (v : Value) → IsSoundValue core sees v → IsTyped core sees (tree_of v)
tree_typed core sees (constant c) h = (h, tt)
tree_typed core sees (computed e) h = h

pub tree_type : (v : Value) → typing.type_of (tree_of v) ≡ type_of v
tree_type (constant c) = refl
tree_type (computed e) = refl

-- ---- constants of another type

within_range : (r : ℤ × ℤ) (n : ℤ) → contains r n ≡ true → typing.Within r n
within_range r n h = let a = and_parts (int_le r.0 n) (int_le n r.1) h in let b = a.0 in let c = a.1 in (grind (arith, ints), grind (arith, ints))

if_some : {A : Type 0} (b : Bool) (o : Option A) (a : A) → (if b then o else None) ≡ Some a → (b ≡ true) × (o ≡ Some a)
if_some true o a e = (refl, e)
if_some false o a e = absurd (cc)

in_range_fits : (core : Core) (to : TypeId) (n : ℤ) (w : Const) (o : Option (ℤ × ℤ)) → range_of (type_at core to) ≡ o → in_range o n ≡ Some w → Fits core w to
in_range_fits core to n w None e h = absurd (cc)
in_range_fits core to n w (Some r) e h =
    let a = if_some (contains r n) (within n) w h in
    let b = if_some (contains (negsuc 2147483647, pos 2147483647) n) (Some (const.Ordinal n)) w a.1 in
    let f : Fits core (const.Ordinal n) to = rw e (within_range r n a.0) in
    subst (λ w. Fits core w to) (some_is b.1) f

is_in_range : (core : Core) (base : TypeId) (r : ℤ × ℤ) (n : ℕ) → range_of (type_at core base) ≡ Some r → is_in core base n ≡ true → typing.Within r (pos n)
unfolding is_in
is_in_range core base r n e h = go (contains r (pos n)) refl (rw e at h)
  where
    go : (b : Bool) → contains r (pos n) ≡ b → is_some (if b then within (pos n) else None) ≡ true → typing.Within r (pos n)
    go true q h = within_range r (pos n) q
    go false q h = absurd (cc)

all_in_range : (core : Core) (base : TypeId) (r : ℤ × ℤ) (ns : List ℕ) → range_of (type_at core base) ≡ Some r → list_all (is_in core base) ns ≡ true → All (λ n. typing.Within r (pos n)) ns
all_in_range core base r [] e h = All-nil (λ n. typing.Within r (pos n))
all_in_range core base r (n ∷ ns) e h = let a = and_parts (is_in core base n) (list_all (is_in core base) ns) h in All-cons (λ n. typing.Within r (pos n)) n ns (is_in_range core base r n e a.0) (all_in_range core base r ns e a.1)

retyped_set : (core : Core) (to base : TypeId) (kind : OrdinalKind) (ns : List ℕ) → Kind core to (type.Set base) → kind_of core base ≡ Some kind → are_in core (base_of (type_at core to)) ns ≡ true → Fits core (const.Set ns) to
retyped_set core to base kind ns k e h = go (range_of (type_at core base)) refl (has_kind core base kind e)
  where
    put : (r : ℤ × ℤ) (ns : List ℕ) → range_of (type_at core base) ≡ Some r → All (λ n. typing.Within r (pos n)) ns → typing.AreMembers core ns (Some (type.Set base))
    put r [] e h = rw e h
    put r (n ∷ ns) e h = rw e h

    go : (o : Option (ℤ × ℤ)) → range_of (type_at core base) ≡ o → IsSomeAnd o (λ r. Unit {0}) → Fits core (const.Set ns) to
    go (Some r) g s = rw k (put r ns g (all_in_range core base r ns g (rw k at h)))
    go None g s = absurd s

pub reference_of : (core : Core) (to : TypeId) (s : Sort) → Stands core to s → is_reference s ≡ true → typing.IsReference core to
reference_of core to DynamicArray h e = rw h.1 refl
reference_of core to (Class c) h e = rw h refl
reference_of core to (Interface i) h e = rw h refl
reference_of core to Nil h e = rw h refl
reference_of core to s h e = absurd (cc)

-- the constant is one of the type of this sort
pub retyped_fits : (core : Core) (to : TypeId) (s : Sort) (v w : Const) → Stands core to s → retyped_by core to s v ≡ Some w → Fits core w to
retyped_fits core to (Ordinal kind) (const.Ordinal n) w h e = in_range_fits core to n w (range_of (type_at core to)) refl e
retyped_fits core to String v w h e = subst (λ w. Fits core w to) (some_is e) h
retyped_fits core to (Set kind) (const.Set ns) w h e =
    let a = if_some (are_in core (base_of (type_at core to)) ns) (Some (const.Set ns)) w e in
    subst (λ w. Fits core w to) (some_is a.1) (retyped_set core to h.0 kind ns h.1 h.2 a.0)
retyped_fits core to s const.Nil w h e = nil_of s h e
  where
    nil_of : (s : Sort) → Stands core to s → retyped_by core to s const.Nil ≡ Some w → Fits core w to
    nil_of String h e = subst (λ w. Fits core w to) (some_is e) h
    nil_of s h e = let a = if_some (is_reference s) (Some const.Nil) w e in subst (λ w. Fits core w to) (some_is a.1) (reference_of core to s h a.0)
retyped_fits core to s v w h e = absurd (cc)

-- ---- conversions

char_of : (core : Core) (of : TypeId) → kind_of core of ≡ Some Char → IsChar core of
char_of core of h = go (type_at core of) refl
  where
    root : (r : TypeId) (t : Option CoreType) → kind_by r t ≡ Some Char → t ≡ Some type.Char
    root r (Some type.Char) h = refl
    root r (Some (type.Integer kind)) h = absurd (cc)
    root r (Some type.Boolean) h = absurd (cc)
    root r (Some (type.Enumeration count)) h = absurd (cc)
    root r t h = absurd (cc)

    go : (t : Option CoreType) → type_at core of ≡ t → IsChar core of
    go (Some (type.Subrange base low high)) e = ap (λ t. typing.is_character (host core t)) e ∙ ap typing.is_character (root base (type_at core base) (rw e at h))
    go t e = ap (λ t. typing.is_character (host core t)) (root of (type_at core of) (rw e at h))

wider : (a b : Option (ℤ × ℤ)) → is_wider a b ≡ true → IsWider a b
wider (Some r) (Some q) h = let a = and_parts (contains q r.0) (contains q r.1) h in (within_range q r.0 a.0, within_range q r.1 a.1)
wider (Some r) None h = absurd (cc)
wider None b h = absurd (cc)

-- a conversion between ordinal types that keeps where nothing can be lost
pub chosen_converts : (core : Core) (from to : TypeId) (c : Conversion) → Converts core c from to → Converts core (if is_wider (range_of (type_at core from)) (range_of (type_at core to)) then Keep else c) from to
chosen_converts core from to c h = go (is_wider (range_of (type_at core from)) (range_of (type_at core to))) refl
  where
    go : (b : Bool) → is_wider (range_of (type_at core from)) (range_of (type_at core to)) ≡ b → Converts core (if b then Keep else c) from to
    go true e = inr (inr (wider (range_of (type_at core from)) (range_of (type_at core to)) e))
    go false e = h

ordinal_converts : (core : Core) (checked : Bool) (from to : TypeId) → IsOrdinal core from → IsOrdinal core to → Converts core (ordinal_conversion core checked from to) from to
ordinal_converts core checked from to h k = chosen_converts core from to (if checked || not (is_integer (type_at core to)) then Check else LowBits) (narrow (checked || not (is_integer (type_at core to))))
  where
    narrow : (b : Bool) → Converts core (if b then Check else LowBits) from to
    narrow true = inl (h, k)
    narrow false = (h, k)

-- a value of the one sort may become one of the other
pub data Passes (core : Core) : Sort → Sort → Type 0 where
  fitting : {s t : Sort} → assign.Fits core s t → Passes core s t
  ordinals : {a b : OrdinalKind} → Passes core (Ordinal a) (Ordinal b)
  sets : {a b : OrdinalKind} → Passes core (Set a) (Set b)
  empty_set : Passes core EmptySet EmptySet

set_of : (core : Core) (of : TypeId) {kind : OrdinalKind} → Stands core of (Set kind) → IsSet core of
set_of core of h = rw h.1 tt

nil_up : (core : Core) (o : Option CoreType) → typing.is_reference o ≡ true → IsUp core (Some type.Nil) o
nil_up core (Some t) h = h
nil_up core None h = absurd (cc)

converts_fitting : (core : Core) (checked : Bool) (from to : TypeId) {s t : Sort} → Stands core from s → Stands core to t → assign.Fits core s t → Converts core (conversion_by core checked from to s t) from to
converts_fitting core checked from to h k (assign.ordinals e) = ordinal_converts core checked from to h.0 k.0
converts_fitting core checked from to h k assign.char_to_string = (char_of core from h.1, k)
converts_fitting core checked from to h k (assign.sets e) = inr (set_of core from h, set_of core to k)
converts_fitting core checked from to h k assign.empty_set = inr (inl (rw (h, k.1) refl))
converts_fitting core checked from to {t} h k (assign.nil e) = inr (inl (rw h (nil_up core (type_at core to) (reference_of core to t k e))))
converts_fitting core checked from to h k (assign.to_ancestor d) = inr (inl (rw (h, k) d))
converts_fitting core checked from to h k (assign.to_interface d) = rw (h, k) d
converts_fitting core checked from to h k (assign.to_parent d) = inr (inl (rw (h, k) d))

converts : (core : Core) (checked : Bool) (from to : TypeId) {s t : Sort} → Stands core from s → Stands core to t → Passes core s t → Converts core (conversion_by core checked from to s t) from to
converts core checked from to h k (fitting f) = converts_fitting core checked from to h k f
converts core checked from to h k ordinals = ordinal_converts core checked from to h.0 k.0
converts core checked from to h k sets = inr (set_of core from h, set_of core to k)
converts core checked from to h k empty_set = inr (inl (rw (h, k) refl))

-- a value of the one type may become one of the other
abbrev pub Goes : Core → TypeId → TypeId → Type 0
Goes core from to = OneType core from to ⊎ Passes core (sort_of core from) (sort_of core to)

pub goes_assignable : (core : Core) (from to : TypeId) → assignable core from to ≡ true → Goes core from to
goes_assignable core from to h = go (is_assignable core from to h)
  where
    go : assign.Assignable core from to → Goes core from to
    go (assign.one_type e) = inl e
    go (assign.by_sort f) = inr (fitting f)

-- ---- values of another type

converted : (core : Core) (sees : Sees) (checked : Bool) (to : TypeId) (e : Tree) → IsTyped core sees e → Goes core (typing.type_of e) to → IsValue core sees to (with_conversion e to (conversion core checked (typing.type_of e) to))
converted core sees checked to e h g = go (is_one_type core.types from to) refl g
  where
    from : TypeId
    from = typing.type_of e

    by : Conversion
    by = conversion_by core checked from to (sort_of core from) (sort_of core to)

    go : (b : Bool) → is_one_type core.types from to ≡ b → Goes core from to → IsValue core sees to (with_conversion e to (if b then None else Some by))
    go true q g = as_value core sees to e h q
    go false q (inl o) = absurd (cc)
    go false q (inr p) =
        as_value core sees to (with_step e (convert by Implied) to) (typed_then core sees e (convert by Implied) to h (converts core checked from to (stands core from) (stands core to) p))
        (rw (type_then e (convert by Implied) to) (one_itself core.types to))

constant_as : (core : Core) (sees : Sees) (checked : Bool) (to : TypeId) (c : Constant) (o : Option Const) → retyped core to c.value ≡ o → IsSoundConstant core c → Goes core c.of to → IsValue core sees to (constant_tree core checked to c o)
constant_as core sees checked to c (Some v) e h g = (retyped_fits core to (sort_of core to) c.value v (stands core to) e, tt, one_itself core.types to)
constant_as core sees checked to c None e h g = converted core sees checked to (tree_of (constant c)) (h, tt) g

pub as_type_goes : (core : Core) (sees : Sees) (checked : Bool) (to : TypeId) (v : Value) → IsSoundValue core sees v → Goes core (type_of v) to → IsValue core sees to (as_type core checked to v)
as_type_goes core sees checked to (constant c) h g = constant_as core sees checked to c (retyped core to c.value) refl h g
as_type_goes core sees checked to (computed e) h g = converted core sees checked to e h g

pub as_type_value : (core : Core) (sees : Sees) (checked : Bool) (to : TypeId) (v : Value) → IsSoundValue core sees v → assignable core (type_of v) to ≡ true → IsValue core sees to (as_type core checked to v)
as_type_value core sees checked to v h a = as_type_goes core sees checked to v h (goes_assignable core (type_of v) to a)

-- ---- the very type

not_elements : (t u : Option CoreType) → typing.element_of u ≡ None → IsSomeAnd (elements t u) (λ p. Unit {0}) → ⊥
not_elements (Some (type.DynamicArray a)) (Some (type.DynamicArray b)) e h = absurd (cc)
not_elements (Some (type.OpenArray a)) (Some (type.OpenArray b)) e h = absurd (cc)
not_elements t u e h = h

pub one_exact : (core : Core) (a b : TypeId) → typing.element_of (type_at core b) ≡ None → OneType core a b → a ≡ b
one_exact core a b e o = go (one_or_elements core a b o)
  where
    go : (a ≡ b) ⊎ IsSomeAnd (elements (type_at core a) (type_at core b)) (λ p. Unit {0}) → a ≡ b
    go (inl s) = s
    go (inr s) = absurd (not_elements (type_at core a) (type_at core b) e s)

-- sorts of types with no elements that are arrays
abbrev pub is_exact : Sort → Bool
is_exact (Ordinal kind) = true
is_exact String = true
is_exact (Set kind) = true
is_exact EmptySet = true
is_exact _ = false

pub no_range : (t : Option CoreType) → IsSomeAnd (range_of t) (λ r. Unit {0}) → typing.element_of t ≡ None
no_range (Some (type.Array at element)) h = absurd h
no_range (Some (type.DynamicArray element)) h = absurd h
no_range (Some (type.OpenArray element)) h = absurd h
no_range t h = refl

no_elements : (core : Core) (of : TypeId) (s : Sort) → Stands core of s → is_exact s ≡ true → typing.element_of (type_at core of) ≡ None
no_elements core of (Ordinal kind) h e = no_range (type_at core of) h.0
no_elements core of String h e = rw h refl
no_elements core of (Set kind) h e = rw h.1 refl
no_elements core of EmptySet h e = rw h refl
no_elements core of s h e = absurd (cc)

-- typed, and of this very type
abbrev pub Of : Core → Sees → TypeId → Tree → Type 0
Of core sees of e = IsTyped core sees e × (typing.type_of e ≡ of)

pub value_of_sort : (core : Core) (sees : Sees) (to : TypeId) (s : Sort) (e : Tree) → sort_of core to ≡ s → is_exact s ≡ true → IsValue core sees to e → Of core sees to e
value_of_sort core sees to s e q x h = let t = as_typed core sees to e h in (t.0, one_exact core (typing.type_of e) to (no_elements core to s (stands_as core to s q) x) t.1)

own_conversion : (core : Core) (checked : Bool) (e : Tree) → with_conversion e (typing.type_of e) (conversion core checked (typing.type_of e) (typing.type_of e)) ≡ e
own_conversion core checked e =
    ap (λ b. with_conversion e (typing.type_of e) (if b then None else Some (conversion_by core checked (typing.type_of e) (typing.type_of e) (sort_of core (typing.type_of e)) (sort_of core (typing.type_of e))))) (one_itself core.types (typing.type_of e))

own_constant : (core : Core) (checked : Bool) (c : Constant) (o : Option Const) → typing.type_of (constant_tree core checked c.of c o) ≡ c.of
own_constant core checked c (Some v) = refl
own_constant core checked c None = ap typing.type_of (own_conversion core checked (tree_of (constant c)))

own_type : (core : Core) (checked : Bool) (v : Value) → typing.type_of (as_type core checked (type_of v) v) ≡ type_of v
own_type core checked (constant c) = own_constant core checked c (retyped core c.of c.value)
own_type core checked (computed e) = ap typing.type_of (own_conversion core checked e)

-- a value as one of its own type
pub as_own : (core : Core) (sees : Sees) (checked : Bool) (v : Value) → IsSoundValue core sees v → Of core sees (type_of v) (as_type core checked (type_of v) v)
as_own core sees checked v h = ((as_typed core sees (type_of v) (as_type core checked (type_of v) v) (as_type_goes core sees checked (type_of v) v h (inl (one_itself core.types (type_of v))))).0, own_type core checked v)
