-- What operators, casts and functions make of fit values is fit.
use Rattle.std.proofs.Common.{◌≡◌, ◌<◌, ◌⊎◌, inl, inr, ℕ, Bool, true, false, ◌&&◌, ◌||◌, Option, Some, None, refl, sym, ap, subst, ◌∙◌, if◌then◌else◌}
use Rattle.std.proofs.lemmas.Bool.{and_from, false≢true, or_left, or_right}
use Rattle.std.proofs.lemmas.Option.{none-some}
use Rattle.op_base.specs.declared.place.Place.{Place}
use Rattle.op_check_expr.specs.Operating.{bound_type, cast_by, cast_of, computed_operation, computed_use, feature_of_argument, feature_of_operands, function_tree, function_type, index_type, is_evaluated, is_string, joins, left_type, length_type, makes_strings, operand_by, operated, operation_of, operation_tree, prefix_of, right_type, rule_of, set_beside, text_type, type_if, type_of_kind, used}
use Rattle.op_check_expr.specs.Values.{Value, constant, computed, as_type, constant_tree, retyped, retyped_by, tree_of, type_of}
use Rattle.op_core.specs.Expression.{apply, convert, operate, prefixed, then as with_step}
use Rattle.op_core.specs.Sizes.{type_at}
use Rattle.op_core.specs.declared.constant.Const.{Const}
use Rattle.op_core.specs.declared.constant.Const.TheVariants as const
use Rattle.op_core.specs.declared.ids.TypeId.{TypeId}
use Rattle.op_core.specs.declared.operation.Conversion.{Conversion}
use Rattle.op_core.specs.declared.operation.Function.{Function}
use Rattle.op_core.specs.declared.operation.Function.TheVariants.{Length, Low, High, Ord, Succ, Pred, Abs, Sqr, Odd, UpCase}
use Rattle.op_core.specs.declared.operation.Origin.TheVariants.{Cast as CastOrigin}
use Rattle.op_core.specs.declared.program.Core.{Core}
use Rattle.op_core.specs.declared.types.CoreType.{CoreType}
use Rattle.op_core.specs.declared.types.CoreType.TheVariants as type
use Rattle.op_meaning.specs.Every.{text_after}
use Rattle.op_plain.specs.Plain.{is_plain_expression, is_plain_step}
use Rattle.op_tree.specs.declared.operator.Operator.{Operator}
use Rattle.op_tree.specs.declared.operator.Operator.TheVariants.{Equal, NotEqual, Less, Greater, LessEqual, GreaterEqual, In_, Is, Add, Subtract, Or, Xor, Multiply, Slash, Div, Mod_, And, Shl, Shr, As_}
use Rattle.op_tree.specs.declared.operator.PrefixOperator.{PrefixOperator}
use Rattle.op_tree.specs.declared.position.Position.{Position}
use Rattle.op_typed.proofs.TypeFacts.{rooted}
use Rattle.op_typed.proofs.Sorting.{stands_as}
use Rattle.op_types.specs.Operators as table
use Rattle.op_types.specs.Sets.{common_set, set_over}
use Rattle.op_types.specs.Sorts.{is_text, sort_by, sort_of}
use Rattle.op_types.specs.Values.{bytes_of}
use Rattle.op_types.specs.declared.constant.Applied.{Applied}
use Rattle.op_types.specs.declared.constant.Applied.TheVariants.{Cast, Function as Function'}
use Rattle.op_types.specs.declared.constant.Constant.{Constant}
use Rattle.op_types.specs.declared.sort.OrdinalKind.{OrdinalKind}
use Rattle.op_types.specs.declared.sort.OrdinalKind.TheVariants as kind
use Rattle.op_types.specs.declared.sort.Sort.{Sort}
use Rattle.op_types.specs.declared.sort.Sort.TheVariants as sort
use Rattle.op_typing.specs.Simple.{IsSolidType, asks_text, is_solid}
use Rattle.op_judgement.specs.Judgement.{checked}
use Rattle.op_accepted.specs.Fit.{IfAny, IfTyped, IsFitConstant, IsFitTables, IsFitTree, IsFitValue, any_text, stays_text}
use Rattle.op_accepted.proofs.ConstantParts.{application_solid, common_sets, operation_solid, operator_fits, prefix_fits, prefixed_solid, use_fits}
use Rattle.op_accepted.proofs.Parts.{fits_changed, fits_entry, fits_fine, fits_unshown, fits_whether, fits_with}
use Rattle.op_accepted.proofs.SetTypes.{common_solid, over_is_set, set_solid, sort_solid}
use Rattle.op_accepted.proofs.Solid.{boolean_solid, char_solid, integer_solid, made_of}
use Rattle.op_accepted.proofs.Trees.{as_type_open, no_string, open_step, step_fits, tree_fits, tree_open, value_is}
use Rattle.op_core.proofs.Agreeing.{some_is}
use Rattle.op_judgement.specs.declared.rules.Feature.{Feature}
use Rattle.op_judgement.specs.declared.rules.Feature.TheVariants.{Strings}
use Rattle.op_judgement.specs.declared.rules.LanguageRule.TheVariants.{NoCast, NoOperator}
use Rattle.op_types.specs.ConstantParts.{is_folded, is_ordinal}

-- ---- signs

pub prefix_of_fits : {core : Core} → IsFitTables core → (o : PrefixOperator) (p : Position) (v : Value) → IsFitValue core v → IfTyped (IsFitValue core) (checked (prefix_of core o p v))
prefix_of_fits t o p (constant c) h = fits_changed constant (prefix_fits t p.place o c) (λ c q. q)
prefix_of_fits {core} t o p (computed e) h =
    fits_entry NoOperator p.place (table.prefixed o (sort_of core (type_of (computed e)))) (λ of q.
    let s = prefixed_solid t o (sort_of core (type_of (computed e))) of q in
    fits_fine (open_step core (as_type core true of (computed e)) (prefixed o p.switches.q) of (as_type_open core true of (computed e) h h.0.1 s) refl s s))

-- ---- operators

-- beside a string stands what is a text, where an operator is defined
left_text : (o : Operator) (b : Sort) (sets of : TypeId) → table.operation o sort.String b sets ≡ Some of → is_text b ≡ true
left_text o sort.String sets of e = refl
left_text o (sort.Ordinal kind.Char) sets of e = refl
left_text Add b sets of e = absurd (none-some _ e)
left_text Subtract b sets of e = absurd (none-some _ e)
left_text Multiply b sets of e = absurd (none-some _ e)
left_text Div b sets of e = absurd (none-some _ e)
left_text Mod_ b sets of e = absurd (none-some _ e)
left_text Shl b sets of e = absurd (none-some _ e)
left_text Shr b sets of e = absurd (none-some _ e)
left_text And b sets of e = absurd (none-some _ e)
left_text Or b sets of e = absurd (none-some _ e)
left_text Xor b sets of e = absurd (none-some _ e)
left_text Less b sets of e = absurd (none-some _ e)
left_text Greater b sets of e = absurd (none-some _ e)
left_text LessEqual b sets of e = absurd (none-some _ e)
left_text GreaterEqual b sets of e = absurd (none-some _ e)
left_text Equal b sets of e = absurd (none-some _ e)
left_text NotEqual b sets of e = absurd (none-some _ e)
left_text In_ b sets of e = absurd (none-some _ e)
left_text Is b sets of e = absurd (none-some _ e)
left_text As_ b sets of e = absurd (none-some _ e)
left_text Slash b sets of e = absurd (none-some _ e)

right_text : (o : Operator) (a : Sort) (sets of : TypeId) → table.operation o a sort.String sets ≡ Some of → is_text a ≡ true
right_text o sort.String sets of e = refl
right_text o (sort.Ordinal kind.Char) sets of e = refl
right_text Add a sets of e = absurd (none-some _ e)
right_text Subtract a sets of e = absurd (none-some _ e)
right_text Multiply a sets of e = absurd (none-some _ e)
right_text Div a sets of e = absurd (none-some _ e)
right_text Mod_ a sets of e = absurd (none-some _ e)
right_text Shl a sets of e = absurd (none-some _ e)
right_text Shr a sets of e = absurd (none-some _ e)
right_text And a sets of e = absurd (none-some _ e)
right_text Or a sets of e = absurd (none-some _ e)
right_text Xor a sets of e = absurd (none-some _ e)
right_text Less a sets of e = absurd (none-some _ e)
right_text Greater a sets of e = absurd (none-some _ e)
right_text LessEqual a sets of e = absurd (none-some _ e)
right_text GreaterEqual a sets of e = absurd (none-some _ e)
right_text Equal a sets of e = absurd (none-some _ e)
right_text NotEqual a sets of e = absurd (none-some _ e)
right_text In_ a sets of e = absurd (none-some _ e)
right_text Is a sets of e = absurd (none-some _ e)
right_text As_ a sets of e = absurd (none-some _ e)
right_text Slash a sets of e = absurd (none-some _ e)

shown : (b : Bool) (n : Feature) → (if b then Some n else None) ≡ None → b ≡ false
shown true n e = absurd (none-some _ (sym e))
shown false n e = refl

makes : (o : Operator) (a b : Sort) → is_text a ≡ true → is_text b ≡ true → (joins o || is_string a || is_string b) ≡ true → makes_strings o a b ≡ true
makes o a b h k s = and_from (is_text a && is_text b) (joins o || is_string a || is_string b) (and_from (is_text a) (is_text b) h k) s

-- where an operator makes no string, it works on what is solid
operand_is : (core : Core) (v : Value) → IsFitValue core v → (sort_of core (type_of v) ≡ sort.String → ⊥) → IsSolidType core (type_of v)
operand_is core v h g = go (value_is core v h)
  where
    go : IsSolidType core (type_of v) ⊎ (type_at core (type_of v) ≡ Some type.String) → IsSolidType core (type_of v)
    go (inl s) = s
    go (inr e) = absurd (g (ap (sort_by core (type_of v)) e))

no_string_left : (core : Core) (o : Operator) (a b sets of : TypeId) → table.operation o (sort_of core a) (sort_of core b) sets ≡ Some of → makes_strings o (sort_of core a) (sort_of core b) ≡ false → sort_of core a ≡ sort.String → ⊥
no_string_left core o a b sets of e m q =
    let k = left_text o (sort_of core b) sets of (subst (λ s. table.operation o s (sort_of core b) sets ≡ Some of) q e) in
    let n = subst (λ s. makes_strings o s (sort_of core b) ≡ false) q m in
    false≢true (sym n ∙ makes o sort.String (sort_of core b) refl k (or_left (joins o || true) (is_string (sort_of core b)) (or_right (joins o) true refl)))

no_string_right : (core : Core) (o : Operator) (a b sets of : TypeId) → table.operation o (sort_of core a) (sort_of core b) sets ≡ Some of → makes_strings o (sort_of core a) (sort_of core b) ≡ false → sort_of core b ≡ sort.String → ⊥
no_string_right core o a b sets of e m q =
    let k = right_text o (sort_of core a) sets of (subst (λ s. table.operation o (sort_of core a) s sets ≡ Some of) q e) in
    let n = subst (λ s. makes_strings o (sort_of core a) s ≡ false) q m in
    false≢true (sym n ∙ makes o (sort_of core a) sort.String k refl (or_right (joins o || is_string (sort_of core a)) true refl))

joins_no_texts : (o : Operator) (a b : Sort) → makes_strings o a b ≡ false → joins o ≡ true → (is_text a && is_text b) ≡ false
joins_no_texts o a b m j = go (is_text a && is_text b) m
  where
    go : (c : Bool) → (c && (joins o || is_string a || is_string b)) ≡ false → c ≡ false
    go true m = absurd (false≢true (sym m ∙ or_left (joins o || is_string a) (is_string b) (or_left (joins o) (is_string a) j)))
    go false m = refl

-- the types that operands go to
kind_solid : {core : Core} → IsFitTables core → (of : TypeId) (k : OrdinalKind) → sort_of core of ≡ sort.Ordinal k → IsSolidType core (type_of_kind k)
kind_solid t of kind.Integer e = integer_solid t
kind_solid t of kind.Boolean e = boolean_solid t
kind_solid t of kind.Char e = char_solid t
kind_solid {core} t of (kind.Enumeration root) e = ap is_solid (rooted core of (kind.Enumeration root) (stands_as core of (sort.Ordinal (kind.Enumeration root)) e).1).1

operand_solid : {core : Core} → IsFitTables core → (sets of : TypeId) → IsSolidType core of → IsSolidType core sets → IsSolidType core (operand_by sets of (sort_of core of))
operand_solid {core} t sets of h k = go (sort_of core of) refl
  where
    go : (s : Sort) → sort_of core of ≡ s → IsSolidType core (operand_by sets of s)
    go (sort.Ordinal kind) e = kind_solid t of kind e
    go (sort.Set kind) e = k
    go sort.EmptySet e = k
    go s e = h

left_solid : {core : Core} → IsFitTables core → (o : Operator) (a b : TypeId) → IsSolidType core a → IsSolidType core b → IsSolidType core (left_type core o a b)
left_solid t In_ a b h k = h
left_solid {core} t o a b h k = operand_solid t (common_set core a b) a h (common_solid t a b h k)

beside_solid : {core : Core} → IsFitTables core → (a b : TypeId) (s : Sort) → IsSolidType core b → IsSolidType core (set_beside core a b s)
beside_solid {core} t a b sort.EmptySet k = set_solid core (set_over core a) (over_is_set t a)
beside_solid t a b s k = k

right_solid : {core : Core} → IsFitTables core → (o : Operator) (a b : TypeId) → IsSolidType core a → IsSolidType core b → IsSolidType core (right_type core o a b)
right_solid {core} t In_ a b h k = beside_solid t a b (sort_of core b) k
right_solid {core} t o a b h k = operand_solid t (common_set core a b) b k (common_solid t a b h k)

operation_tree_fits : {core : Core} → IsFitTables core → (o : Operator) (checked : Bool) (a b : Value) (of : TypeId) → IsFitValue core a → IsFitValue core b → IsSolidType core (type_of a) → IsSolidType core (type_of b) → IsSolidType core of → IsFitValue core (operation_tree core o checked a b of)
operation_tree_fits {core} t o checked a b of h k s u w =
    let l = left_type core o (type_of a) (type_of b) in
    let r = right_type core o (type_of a) (type_of b) in
    let left = as_type_open core true l a h s (left_solid t o (type_of a) (type_of b) s u) in
    let right = as_type_open core true r b k u (right_solid t o (type_of a) (type_of b) s u) in
    open_step core (as_type core true l a) (operate o checked (as_type core true r b)) of left refl (and_from (is_solid (type_at core of)) (is_plain_expression any_text core (as_type core true r b)) w right.0) w

computed_operation_fits : {core : Core} → IsFitTables core → (o : Operator) (p : Position) (a b : Value) → IsFitValue core a → IsFitValue core b → IfTyped (IsFitValue core) (checked (computed_operation core o p a b))
computed_operation_fits {core} t o p a b h k =
    fits_entry NoOperator p.place (table.operation o (sort_of core (type_of a)) (sort_of core (type_of b)) (common_set core (type_of a) (type_of b))) (λ of e. fits_unshown _ p.place (feature_of_operands o (sort_of core (type_of a)) (sort_of core (type_of b))) (λ g.
    let m = shown (makes_strings o (sort_of core (type_of a)) (sort_of core (type_of b))) Strings g in
    let sets = common_set core (type_of a) (type_of b) in
    fits_fine (operation_tree_fits t o p.switches.q a b of h k (operand_is core a h (no_string_left core o (type_of a) (type_of b) sets of e m)) (operand_is core b k (no_string_right core o (type_of a) (type_of b) sets of e m))
    (operation_solid t o (sort_of core (type_of a)) (sort_of core (type_of b)) sets of (joins_no_texts o (sort_of core (type_of a)) (sort_of core (type_of b)) m) (common_sets t (type_of a) (type_of b)) e))))

operated_fits : {core : Core} → IsFitTables core → (start : Place) (o : Operator) (p : Position) (a b : Value) → IsFitValue core a → IsFitValue core b → IfTyped (IsFitValue core) (checked (operated core start o p a b))
operated_fits t start o p (constant a) (constant b) h k = fits_whether _ _ (is_folded o) (fits_changed constant (operator_fits t start o p.place a b) (λ c q. q)) (computed_operation_fits t o p (constant a) (constant b) h k)
operated_fits t start o p (constant a) (computed b) h k = computed_operation_fits t o p (constant a) (computed b) h k
operated_fits t start o p (computed a) b h k = computed_operation_fits t o p (computed a) b h k

pub operation_fits : {core : Core} → IsFitTables core → (start : Place) (o : Operator) (p : Position) {a b : Option Value} → IfAny (IsFitValue core) a → IfAny (IsFitValue core) b → IfTyped (IsFitValue core) (checked (operation_of core start o p a b))
operation_fits t start o p h k = fits_with h (λ a h. fits_with k (λ b k. operated_fits t start o p a b h k))

-- ---- casts

cast_solid : (core : Core) (from to : TypeId) (c : Conversion) → cast_by core from to (sort_of core from) (sort_of core to) ≡ Some c → IsSolidType core from × IsSolidType core to
cast_solid core from to c e = go (sort_of core from) (sort_of core to) refl refl e
  where
    go : (s u : Sort) → sort_of core from ≡ s → sort_of core to ≡ u → cast_by core from to s u ≡ Some c → IsSolidType core from × IsSolidType core to
    go (sort.Ordinal a) (sort.Ordinal b) q r e = (sort_solid core from (sort.Ordinal a) q refl, sort_solid core to (sort.Ordinal b) r refl)
    go s u q r e = absurd (none-some _ e)

cast_of_fits : (core : Core) (place : Place) (to : TypeId) (v : Value) → IsFitValue core v → IfTyped (IsFitValue core) (checked (cast_of core place to (tree_of v) (type_of v)))
cast_of_fits core place to v h =
    fits_entry NoCast place (cast_by core (type_of v) to (sort_of core (type_of v)) (sort_of core to)) (λ c e.
    let s = cast_solid core (type_of v) to c e in
    fits_fine (open_step core (tree_of v) (convert c CastOrigin) to (tree_open core v h s.0) refl s.1 s.1))

-- ---- functions

-- a value as one of its own type; a text stays what it is
as_itself : (core : Core) (v : Value) → IsFitValue core v → IsFitTree core (as_type core true (type_of v) v)
as_itself core v h = go v h (value_is core v h)
  where
    string : (c : Constant) (v : Const) → (0 < c.weight.nodes) → IsFitConstant core v c.of → type_at core c.of ≡ Some type.String → IsFitTree core (constant_tree core true c.of (record c { value = v }) (retyped core c.of v))
    string c v n k e =
        let w : retyped_by core c.of (sort_of core c.of) v ≡ Some (const.Text (bytes_of v)) = ap (λ s. retyped_by core c.of s v) (ap (sort_by core c.of) e) in
        subst (λ o. IsFitTree core (constant_tree core true c.of (record c { value = v }) o)) (sym w) (tree_fits core (constant (record { value = const.Text (bytes_of v); of = c.of; weight = c.weight })) (n, e))

    go : (v : Value) → IsFitValue core v → IsSolidType core (type_of v) ⊎ (type_at core (type_of v) ≡ Some type.String) → IsFitTree core (as_type core true (type_of v) v)
    go v h (inl s) = (as_type_open core true (type_of v) v h s s).0
    go (constant c) h (inr e) = string c c.value h.0 h.1 e
    go (computed e) h (inr q) = absurd (no_string core (type_of (computed e)) q h.0.1)

-- Length, Low and High also of a text
asked_step : (core : Core) (f : Function) (checked text : Bool) (of : TypeId) → asks_text f ≡ true → IsSolidType core of → is_plain_step any_text core text (apply f checked) of ≡ true
asked_step core f checked true of a s = and_from (asks_text f) (is_solid (type_at core of)) a s
asked_step core f checked false of a s = s

no_text_after : (text : Bool) (f : Function) (checked : Bool) → text_after text (apply f checked) ≡ false
no_text_after true f checked = refl
no_text_after false f checked = refl

asked_fits : (core : Core) (f : Function) (checked : Bool) (v : Value) (to of : TypeId) → IsFitValue core v → to ≡ type_of v → asks_text f ≡ true → IsSolidType core of → IsFitValue core (computed (with_step (as_type core true to v) (apply f checked) of))
asked_fits core f checked v to of h e a s = subst (λ to. IsFitValue core (computed (with_step (as_type core true to v) (apply f checked) of))) (sym e) (
    let tree = as_type core true (type_of v) v in
    step_fits core tree (apply f checked) of (as_itself core v h) refl (asked_step core f checked (stays_text tree) of a s) (no_text_after (stays_text tree) f checked) s)

-- Length does not take a Char
own_text : (s : Sort) (of : TypeId) → is_ordinal s ≡ false → text_type s of ≡ of
own_text (sort.Ordinal kind) of e = absurd (false≢true (sym e))
own_text s of e = refl

length_solid : {core : Core} → IsFitTables core → (index : Option TypeId) (of to : TypeId) → length_type index (sort_of core of) of ≡ Some to → IsSolidType core to
length_solid {core} t (Some index) of to e = subst (IsSolidType core) (some_is e) (integer_solid t)
length_solid t None of to e = application_solid t Length of to e

bounds_solid : {core : Core} → IsFitTables core → (of to : TypeId) → bound_type (index_type (type_at core of)) (sort_of core of) of ≡ Some to → IsSolidType core to
bounds_solid {core} t of to e = go (type_at core of) refl e
  where
    own : (s : Sort) → sort_of core of ≡ s → type_if (is_ordinal s) of ≡ Some to → IsSolidType core to
    own (sort.Ordinal kind) q e = subst (IsSolidType core) (some_is e) (sort_solid core of (sort.Ordinal kind) q refl)
    own s q e = absurd (none-some _ e)

    go : (o : Option CoreType) → type_at core of ≡ o → bound_type (index_type o) (sort_of core of) of ≡ Some to → IsSolidType core to
    go (Some (type.Array index element)) q e = subst (IsSolidType core) (some_is e) (made_of t of (type.Array index element) q).0
    go (Some (type.DynamicArray element)) q e = subst (IsSolidType core) (some_is e) (integer_solid t)
    go (Some (type.OpenArray element)) q e = subst (IsSolidType core) (some_is e) (integer_solid t)
    go (Some type.String) q e = subst (IsSolidType core) (some_is e) (integer_solid t)
    go o q e = own (sort_of core of) refl e

-- of what a function that takes no text is applied to; `to` is the type that it goes to
applied_fits : {core : Core} → IsFitTables core → (f : Function) (checked : Bool) (v : Value) (to of : TypeId) → IsFitValue core v → (sort_of core (type_of v) ≡ sort.String → ⊥) → (IsSolidType core (type_of v) → IsSolidType core to) → IsSolidType core of → IsFitValue core (computed (with_step (as_type core true to v) (apply f checked) of))
applied_fits {core} t f checked v to of h n u w =
    let s = operand_is core v h n in
    open_step core (as_type core true to v) (apply f checked) of (as_type_open core true to v h s (u s)) refl w w

takes_no_string : (core : Core) (f : Function) (of to : TypeId) → table.application f (sort_of core of) of ≡ Some to → table.application f sort.String of ≡ None → sort_of core of ≡ sort.String → ⊥
takes_no_string core f of to e n q = none-some _ (sym n ∙ subst (λ s. table.application f s of ≡ Some to) q e)

function_fits : {core : Core} → IsFitTables core → (f : Function) (checked : Bool) (v : Value) (of : TypeId) → IsFitValue core v → function_type core f (type_of v) ≡ Some of → feature_of_argument core f (type_of v) ≡ None → IsFitValue core (function_tree core f checked v of)
function_fits {core} t Length checked v of h e g =
    asked_fits core Length checked v (text_type (sort_of core (type_of v)) (type_of v)) of h (own_text (sort_of core (type_of v)) (type_of v) (shown (is_ordinal (sort_of core (type_of v))) Strings g)) refl (length_solid t (index_type (type_at core (type_of v))) (type_of v) of e)
function_fits {core} t Low checked v of h e g = asked_fits core Low checked v (type_of v) of h refl refl (bounds_solid t (type_of v) of e)
function_fits {core} t High checked v of h e g = asked_fits core High checked v (type_of v) of h refl refl (bounds_solid t (type_of v) of e)
function_fits {core} t Ord checked v of h e g = applied_fits t Ord checked v (type_of v) of h (takes_no_string core Ord (type_of v) of e refl) (λ s. s) (application_solid t Ord (type_of v) of e)
function_fits {core} t Succ checked v of h e g = applied_fits t Succ checked v (type_of v) of h (takes_no_string core Succ (type_of v) of e refl) (λ s. s) (application_solid t Succ (type_of v) of e)
function_fits {core} t Pred checked v of h e g = applied_fits t Pred checked v (type_of v) of h (takes_no_string core Pred (type_of v) of e refl) (λ s. s) (application_solid t Pred (type_of v) of e)
function_fits {core} t Abs checked v of h e g = applied_fits t Abs checked v table.integer of h (takes_no_string core Abs (type_of v) of e refl) (λ s. integer_solid t) (application_solid t Abs (type_of v) of e)
function_fits {core} t Sqr checked v of h e g = applied_fits t Sqr checked v table.integer of h (takes_no_string core Sqr (type_of v) of e refl) (λ s. integer_solid t) (application_solid t Sqr (type_of v) of e)
function_fits {core} t Odd checked v of h e g = applied_fits t Odd checked v table.integer of h (takes_no_string core Odd (type_of v) of e refl) (λ s. integer_solid t) (application_solid t Odd (type_of v) of e)
function_fits {core} t UpCase checked v of h e g = applied_fits t UpCase checked v table.char of h (takes_no_string core UpCase (type_of v) of e refl) (λ s. char_solid t) (application_solid t UpCase (type_of v) of e)
function_fits t f checked v of h e g = absurd (none-some _ e)

-- ---- what is used

computed_use_fits : {core : Core} → IsFitTables core → (p : Position) (what : Applied) (at : Place) (v : Value) → IsFitValue core v → IfTyped (IsFitValue core) (checked (computed_use core p what at v))
computed_use_fits {core} t p (Cast of) at v h = cast_of_fits core p.place of v h
computed_use_fits {core} t p (Function' f) at v h =
    fits_entry (rule_of f) at (function_type core f (type_of v)) (λ of e. fits_unshown _ p.place (feature_of_argument core f (type_of v)) (λ g. fits_fine (function_fits t f p.switches.q v of h e g)))

pub used_fits : {core : Core} → IsFitTables core → (p : Position) (what : Applied) (at : Place) (v : Value) → IsFitValue core v → IfTyped (IsFitValue core) (checked (used core p what at v))
used_fits {core} t p what at (constant c) h = fits_whether _ _ (is_evaluated core what) (fits_changed constant (use_fits t what p.place at c) (λ c q. q)) (computed_use_fits t p what at (constant c) h)
used_fits t p what at (computed e) h = computed_use_fits t p what at (computed e) h
