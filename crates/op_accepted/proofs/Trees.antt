-- Trees with a step more, and values as values of another type.
use Rattle.std.proofs.Common.{◌≡◌, ◌⊎◌, inl, inr, ℕ, ℤ, pos, negsuc, Bool, true, false, not, ◌&&◌, nat_lt, Option, Some, None, refl, sym, ap, subst, ◌∙◌, if◌then◌else◌}
use Rattle.std.proofs.lemmas.Bool.{and_from, and_parts, and_right, false≢true, lt-ltb, or_cases}
use Rattle.std.proofs.lemmas.Option.{none-some}
use Rattle.std.specs.Option.{IsSomeAnd}
use Rattle.op_check_expr.specs.Values.{Value, constant, computed, are_in, as_type, constant_tree, conversion, retyped, retyped_by, tree_of, type_of, with_conversion}
use Rattle.op_core.specs.Expression.{Expression as Tree, expression, constant as constant_root, Steps, no_steps, steps, Action, convert, behind, then as with_step}
use Rattle.op_core.specs.Sizes.{range_of, type_at}
use Rattle.op_core.specs.Types.{elements, is_one_type}
use Rattle.op_core.specs.Typing as typing
use Rattle.op_core.specs.declared.constant.Const.{Const}
use Rattle.op_core.specs.declared.constant.Const.TheVariants as const
use Rattle.op_core.specs.declared.ids.TypeId.{TypeId}
use Rattle.op_core.specs.declared.operation.Conversion.{Conversion}
use Rattle.op_core.specs.declared.operation.Origin.TheVariants.{Implied}
use Rattle.op_core.specs.declared.program.Core.{Core}
use Rattle.op_core.specs.declared.types.CoreType.TheVariants as type
use Rattle.op_meaning.specs.Every.{is_text, text_after}
use Rattle.op_plain.specs.Plain.{are_apart, are_plain_steps, is_plain_constant, is_plain_root, is_plain_step}
use Rattle.op_sizes.specs.Written.{is_implied}
use Rattle.op_typed.proofs.Sorting.{stands_as}
use Rattle.op_typed.proofs.TypeFacts.{one_or_elements}
use Rattle.op_types.specs.Assignable.{assignable, fits}
use Rattle.op_types.specs.Sorts.{is_reference, sort_by, sort_of}
use Rattle.op_types.specs.Values.{contains, in_range, within}
use Rattle.op_types.specs.declared.sort.OrdinalKind.{OrdinalKind}
use Rattle.op_types.specs.declared.sort.Sort.{Sort}
use Rattle.op_types.specs.declared.sort.Sort.TheVariants as sort
use Rattle.op_typing.specs.Simple.{IsSolidType, is_solid}
use Rattle.op_accepted.specs.Fit.{IsFitConstant, IsFitTables, IsFitTree, IsFitValue, any_text, ends_implied, ends_text, ends_written, stays_text}
use Rattle.op_accepted.proofs.SetTypes.{sort_solid}
use Rattle.op_typed.proofs.Trees.{type_then}
use Rattle.op_core.proofs.Agreeing.{some_is}

-- ---- with a step more

implied_behind : (before : Bool) (ss : Steps) (action : Action) (to : TypeId) → ends_implied before (behind ss action to) ≡ is_implied action
implied_behind before no_steps action to = refl
implied_behind before (steps a next others) action to = implied_behind (is_implied a) others action to

text_behind : (text : Bool) (ss : Steps) (action : Action) (to : TypeId) → ends_text text (behind ss action to) ≡ text_after (ends_text text ss) action
text_behind text no_steps action to = refl
text_behind text (steps a next others) action to = text_behind (text_after text a) others action to

apart_behind : (implied : Bool) (ss : Steps) (action : Action) (to : TypeId) → are_apart implied ss ≡ true → not (ends_implied implied ss && is_implied action) ≡ true → are_apart implied (behind ss action to) ≡ true
apart_behind implied no_steps action to h k = and_from (not (implied && is_implied action)) true k refl
apart_behind implied (steps a next others) action to h k =
    let both = and_parts (not (implied && is_implied a)) (are_apart (is_implied a) others) h in
    and_from (not (implied && is_implied a)) (are_apart (is_implied a) (behind others action to)) both.0 (apart_behind (is_implied a) others action to both.1 k)

plain_behind : (core : Core) (text : Bool) (ss : Steps) (action : Action) (to : TypeId) → are_plain_steps any_text core text ss ≡ true → is_plain_step any_text core (ends_text text ss) action to ≡ true → are_plain_steps any_text core text (behind ss action to) ≡ true
plain_behind core text no_steps action to h k = and_from (is_plain_step any_text core text action to) true k refl
plain_behind core text (steps a next others) action to h k =
    let both = and_parts (is_plain_step any_text core text a next) (are_plain_steps any_text core (text_after text a) others) h in
    and_from (is_plain_step any_text core text a next) (are_plain_steps any_text core (text_after text a) (behind others action to)) both.0 (plain_behind core (text_after text a) others action to both.1 k)

then_fits : (core : Core) (e : Tree) (action : Action) (to : TypeId) → IsFitTree core e → (is_implied action ≡ true → ends_written e ≡ true) → is_plain_step any_text core (stays_text e) action to ≡ true → IsFitTree core (with_step e action to)
then_fits core (expression root of others) action to h w p =
    let both = and_parts (is_plain_root any_text core root of) (are_apart false others && are_plain_steps any_text core (is_text root) others) h in
    let steps = and_parts (are_apart false others) (are_plain_steps any_text core (is_text root) others) both.1 in
    and_from (is_plain_root any_text core root of) (are_apart false (behind others action to) && are_plain_steps any_text core (is_text root) (behind others action to)) both.0
    (and_from (are_apart false (behind others action to)) (are_plain_steps any_text core (is_text root) (behind others action to)) (apart_behind false others action to steps.0 (apart (ends_implied false others) (is_implied action) w)) (plain_behind core (is_text root) others action to steps.1 p))
  where
    apart : (b c : Bool) → (c ≡ true → not b ≡ true) → not (b && c) ≡ true
    apart b true w = and_written b (w refl)
      where
        and_written : (b : Bool) → not b ≡ true → not (b && true) ≡ true
        and_written true h = h
        and_written false h = refl
    apart b false w = ap not (and_right b false refl)

-- a fit tree that is no text
abbrev pub IsOpenTree : Core → Tree → Type 0
IsOpenTree core e = IsFitTree core e × (stays_text e ≡ false)

-- behind a written step, which ends what a text is
pub step_fits : (core : Core) (e : Tree) (action : Action) (to : TypeId) → IsFitTree core e → is_implied action ≡ false → is_plain_step any_text core (stays_text e) action to ≡ true → text_after (stays_text e) action ≡ false → IsSolidType core to → IsFitValue core (computed (with_step e action to))
step_fits core (expression root of others) action to h w p t s = (
  (then_fits core (expression root of others) action to h (λ i. absurd (false≢true (sym w ∙ i))) p, subst (IsSolidType core) (sym (type_then (expression root of others) action to)) s),
  ap not (implied_behind false others action to ∙ w),
  text_behind (is_text root) others action to ∙ t,
)

-- behind what is no text
pub open_step : (core : Core) (e : Tree) (action : Action) (to : TypeId) → IsOpenTree core e → is_implied action ≡ false → is_plain_step any_text core false action to ≡ true → IsSolidType core to → IsFitValue core (computed (with_step e action to))
open_step core e action to h w p s =
    step_fits core e action to h.0 w (subst (λ b. is_plain_step any_text core b action to ≡ true) (sym h.1) p) (ap (λ b. text_after b action) h.1) s

-- ---- values

abbrev pub IsNoText : Const → Type 0
IsNoText (const.Text bytes) = ⊥
IsNoText v = Unit {0}

pub no_text_fits : (core : Core) (v : Const) (of : TypeId) → IsNoText v → IsSolidType core of → IsFitConstant core v of
no_text_fits core (const.Text bytes) of n s = absurd n
no_text_fits core v of n s = s

-- a string is not solid
pub no_string : (core : Core) (of : TypeId) → type_at core of ≡ Some type.String → IsSolidType core of → ⊥
no_string core of e s = false≢true (sym (ap is_solid e) ∙ s)

solid_no_text : (core : Core) (v : Const) (of : TypeId) → IsFitConstant core v of → IsSolidType core of → IsNoText v
solid_no_text core (const.Text bytes) of h s = no_string core of h s
solid_no_text core v of h s = tt

plain_constant : (core : Core) (v : Const) (of : TypeId) → IsFitConstant core v of → is_plain_constant any_text core v of ≡ true
plain_constant core (const.Text bytes) of h = refl
plain_constant core v of h = h

pub tree_fits : (core : Core) (v : Value) → IsFitValue core v → IsFitTree core (tree_of v)
tree_fits core (constant c) h =
    and_from (nat_lt 0 c.weight.nodes && is_plain_constant any_text core c.value c.of) true (and_from (nat_lt 0 c.weight.nodes) (is_plain_constant any_text core c.value c.of) (lt-ltb 0 c.weight.nodes h.0) (plain_constant core c.value c.of h.1)) refl
tree_fits core (computed e) h = h.0.0

no_text_root : (v : Const) (nodes words : ℕ) → IsNoText v → is_text (constant_root v nodes words) ≡ false
no_text_root (const.Text bytes) nodes words n = absurd n
no_text_root v nodes words n = refl

pub tree_open : (core : Core) (v : Value) → IsFitValue core v → IsSolidType core (type_of v) → IsOpenTree core (tree_of v)
tree_open core (constant c) h s = (tree_fits core (constant c) h, no_text_root c.value c.weight.nodes c.weight.words (solid_no_text core c.value c.of h.1 s))
tree_open core (computed e) h s = (h.0.0, h.2)

pub within_no_text : (n : ℤ) (w : Const) → within n ≡ Some w → IsNoText w
within_no_text n w e = go (contains (negsuc 2147483647, pos 2147483647) n) e
  where
    go : (b : Bool) → (if b then Some (const.Ordinal n) else None) ≡ Some w → IsNoText w
    go true e = subst IsNoText (some_is e) tt
    go false e = absurd (none-some _ e)

-- of a solid type or a text
pub value_is : (core : Core) (v : Value) → IsFitValue core v → IsSolidType core (type_of v) ⊎ (type_at core (type_of v) ≡ Some type.String)
value_is core (constant c) h = go c.value h.1
  where
    go : (v : Const) → IsFitConstant core v c.of → IsSolidType core c.of ⊎ (type_at core c.of ≡ Some type.String)
    go (const.Text bytes) k = inr k
    go v k = inl k
value_is core (computed e) h = inl h.0.1

-- ---- of another type

converted : (core : Core) (e : Tree) (to : TypeId) (c : Option Conversion) → IsOpenTree core e → ends_written e ≡ true → IsSolidType core to → IsOpenTree core (with_conversion e to c)
converted core e to None h w s = h
converted core (expression root of others) to (Some c) h w s = (
  then_fits core (expression root of others) (convert c Implied) to h.0 (λ i. w) (subst (λ b. is_plain_step any_text core b (convert c Implied) to ≡ true) (sym h.1) s),
  text_behind (is_text root) others (convert c Implied) to ∙ ap (λ b. text_after b (convert c Implied)) h.1,
)

pub in_range_no_text : (o : Option (ℤ × ℤ)) (n : ℤ) (w : Const) → in_range o n ≡ Some w → IsNoText w
in_range_no_text None n w e = absurd (cc)
in_range_no_text (Some r) n w e = go (contains r n) e
  where
    go : (b : Bool) → (if b then within n else None) ≡ Some w → IsNoText w
    go true e = within_no_text n w e
    go false e = absurd (cc)

-- what is of a solid type is no text
retyped_no_text : (core : Core) (to : TypeId) (s : Sort) (v w : Const) → sort_of core to ≡ s → IsSolidType core to → retyped_by core to s v ≡ Some w → IsNoText w
retyped_no_text core to (sort.Ordinal kind) (const.Ordinal n) w q s e = in_range_no_text (range_of (type_at core to)) n w e
retyped_no_text core to sort.String v w q s e = absurd (no_string core to (stands_as core to sort.String q) s)
retyped_no_text core to (sort.Set kind) (const.Set members) w q s e = go (are_in core (typing.base_of (type_at core to)) members) e
  where
    go : (b : Bool) → (if b then Some (const.Set members) else None) ≡ Some w → IsNoText w
    go true e = subst IsNoText (some_is e) tt
    go false e = absurd (none-some _ e)
retyped_no_text core to t const.Nil w q s e = go (is_reference t) e
  where
    go : (b : Bool) → (if b then Some const.Nil else None) ≡ Some w → IsNoText w
    go true e = subst IsNoText (some_is e) tt
    go false e = absurd (none-some _ e)
retyped_no_text core to t v w q s e = absurd (none-some _ e)

-- a value of a solid type as one of another
pub as_type_open : (core : Core) (checked : Bool) (to : TypeId) (v : Value) → IsFitValue core v → IsSolidType core (type_of v) → IsSolidType core to → IsOpenTree core (as_type core checked to v)
as_type_open core checked to (computed e) h s t = converted core e to (conversion core checked (typing.type_of e) to) (h.0.0, h.2) h.1 t
as_type_open core checked to (constant c) h s t = go (retyped core to c.value) refl
  where
    go : (o : Option Const) → retyped core to c.value ≡ o → IsOpenTree core (constant_tree core checked to c o)
    go (Some w) e =
        let k = retyped_no_text core to (sort_of core to) c.value w refl t e in
        tree_open core (constant (record { value = w; of = to; weight = c.weight })) (h.0, no_text_fits core w to k t) t
    go None e = converted core (tree_of (constant c)) to (conversion core checked c.of to) (tree_open core (constant c) h s) refl t

-- no text is assigned to what is solid
assigned_solid : (core : Core) (to : TypeId) (v : Value) → IsFitValue core v → assignable core (type_of v) to ≡ true → IsSolidType core to → IsSolidType core (type_of v)
assigned_solid core to v h a t = go (value_is core v h)
  where
    none : (from : TypeId) → type_at core from ≡ Some type.String → (from ≡ to) ⊎ IsSomeAnd (elements (type_at core from) (type_at core to)) (λ p. Unit {0}) → ⊥
    none from e (inl q) = no_string core to (subst (λ of. type_at core of ≡ Some type.String) q e) t
    none from e (inr q) = subst (λ o. IsSomeAnd (elements o (type_at core to)) (λ p. Unit {0})) e q

    by : (from : TypeId) → type_at core from ≡ Some type.String → (is_one_type core.types from to ≡ true) ⊎ (fits core (sort_of core from) (sort_of core to) ≡ true) → ⊥
    by from e (inl o) = none from e (one_or_elements core from to o)
    by from e (inr f) = false≢true (subst (λ s. fits core s (sort_of core to) ≡ true) (ap (sort_by core from) e) f)

    go : IsSolidType core (type_of v) ⊎ (type_at core (type_of v) ≡ Some type.String) → IsSolidType core (type_of v)
    go (inl s) = s
    go (inr e) = absurd (by (type_of v) e (or_cases (is_one_type core.types (type_of v) to) (fits core (sort_of core (type_of v)) (sort_of core to)) a))

pub as_type_fits : (core : Core) → IsFitTables core → (checked : Bool) (to : TypeId) (v : Value) → IsFitValue core v → IsSolidType core to → assignable core (type_of v) to ≡ true → IsFitTree core (as_type core checked to v)
as_type_fits core tables checked to v h t a = (as_type_open core checked to v h (assigned_solid core to v h a t) t).0

-- an ordinal value is no text
pub as_ordinal_fits : (core : Core) → IsFitTables core → (checked : Bool) (to : TypeId) (v : Value) (kind : OrdinalKind) → IsFitValue core v → IsSolidType core to → sort_of core (type_of v) ≡ sort.Ordinal kind → IsFitTree core (as_type core checked to v)
as_ordinal_fits core tables checked to v kind h t e = (as_type_open core checked to v h (sort_solid core (type_of v) (sort.Ordinal kind) e refl) t).0
