-- What constants are made of is fit: numbers, texts, and what operators, functions and sets make of them.
use Rattle.std.proofs.Common.{◌≡◌, ◌<◌, ℕ, ℤ, pos, negsuc, ◌-ℤ◌, ◌+ℤ◌, zero, suc, Bool, true, false, not, ◌&&◌, ◌||◌, List, [], ◌∷◌, ◌++◌, length, nat_eq, nat_le, Option, Some, None, refl, sym, ap, subst, ◌∙◌, arith, if◌then◌else◌}
use Rattle.std.proofs.lemmas.Bool.{false≢true}
use Rattle.std.proofs.lemmas.Option.{none-some}
use Rattle.std.specs.Int.{w32, cast_unsigned, int_bit_not}
use Rattle.std.specs.Prelude.{int_div, int_lt, int_rem, neg_ℤ, ◌*ℤ◌, unsigned_abs, ◌%◌}
use Rattle.std.specs.Option.{option_and_then, option_map}
use Rattle.op_base.specs.declared.place.Place.{Place}
use Rattle.op_check_expr.specs.Operating.{joins}
use Rattle.op_check_expr.specs.Values.{constant}
use Rattle.op_core.specs.Sizes.{integer_range, range_of, type_at}
use Rattle.op_core.specs.declared.constant.Const.{Const}
use Rattle.op_core.specs.declared.constant.Const.TheVariants as const
use Rattle.op_core.specs.declared.ids.TypeId.{TypeId}
use Rattle.op_core.specs.declared.operation.Function.{Function}
use Rattle.op_core.specs.declared.operation.Function.TheVariants.{Length, Ord, Succ, Pred, Abs, Sqr, Odd, UpCase}
use Rattle.op_core.specs.declared.program.Core.{Core}
use Rattle.op_core.specs.declared.types.CoreType.{CoreType}
use Rattle.op_core.specs.declared.types.CoreType.TheVariants as type
use Rattle.op_judgement.specs.Judgement.{both_typed, checked, with_part}
use Rattle.op_tree.specs.declared.operator.Operator.{Operator}
use Rattle.op_tree.specs.declared.operator.Operator.TheVariants.{Equal, NotEqual, Less, Greater, LessEqual, GreaterEqual, In_, Is, Add, Subtract, Or, Xor, Multiply, Slash, Div, Mod_, And, Shl, Shr, As_}
use Rattle.op_tree.specs.declared.operator.PrefixOperator.{PrefixOperator}
use Rattle.op_tree.specs.declared.operator.PrefixOperator.TheVariants.{Not, Plus, Minus}
use Rattle.op_types.specs.Assignable.{assignable}
use Rattle.op_types.specs.Folding.{bound_means, element_means, entered, gathered_means, numeral, operator_means, pair, prefix_means, range_means, single_means, use_means}
use Rattle.op_types.specs.Operators as table
use Rattle.op_types.specs.Sets.{common_set, set_over}
use Rattle.op_types.specs.Sorts.{are_sets, is_text, same_kind, sort_of}
use Rattle.op_types.specs.Values.{applied, before, bound_of, bytes_of, by_values, cast, compared_by, contains, end_by, if_zero, in_range, index_by, low_bits, most_text_bytes, number_of, on_numbers, on_sets, on_texts, operated, precedes_bytes, truth, within}
use Rattle.op_types.specs.declared.constant.Applied.{Applied}
use Rattle.op_types.specs.declared.constant.Applied.TheVariants.{Cast, Function as Function'}
use Rattle.op_types.specs.declared.constant.Constant.{Constant}
use Rattle.op_types.specs.declared.constant.Weight.{Weight}
use Rattle.op_types.specs.declared.sort.OrdinalKind.TheVariants as kind
use Rattle.op_types.specs.declared.sort.Sort.{Sort}
use Rattle.op_types.specs.declared.sort.Sort.TheVariants as sort
use Rattle.op_typing.specs.Simple.{IsSolidType, is_solid}
use Rattle.op_accepted.specs.Fit.{IfAny, IfTyped, IsFitConstant, IsFitTables, IsFitValue}
use Rattle.op_accepted.proofs.Parts.{fits_after, fits_entry, fits_fine, fits_test, fits_with, present}
use Rattle.op_accepted.proofs.SetTypes.{IsSetType, common_is_set, common_solid, empty_is_set, is_solid_sort, over_is_set, set_solid, sort_solid}
use Rattle.op_accepted.proofs.Solid.{boolean_solid, char_solid, integer_solid, ordinal_solid, string_is}
use Rattle.op_accepted.proofs.Trees.{IsNoText, in_range_no_text, no_text_fits, within_no_text}
use Rattle.op_core.proofs.Agreeing.{some_is}
use Rattle.op_judgement.specs.declared.rules.LanguageRule.{LanguageRule}
use Rattle.op_judgement.specs.declared.rules.LanguageRule.TheVariants.{NoCast, NoOperator, NotAssignable, NotOrdinal, NumberTooLarge, OutOfRange}
use Rattle.op_types.specs.ConstantParts.{is_ordinal, joined, made, no_members, nodes, rule_of, text_constant}

-- a constant as a value
abbrev pub IsFitFolded : Core → Constant → Type 0
IsFitFolded core c = IsFitValue core (constant c)

-- ---- what constants count for

joined_counts : (v : Const) (of : TypeId) (a b : Weight) → 0 < (made v of (joined a b)).weight.nodes
joined_counts v of a b = omega arith

pub nodes_count : (v : Const) (of : TypeId) (n : ℕ) → 0 < n → 0 < (made v of (nodes n)).weight.nodes
nodes_count v of n h = omega (arith, h)

-- what is there counts for two parts and a node
joined_entry : (core : Core) (rule : LanguageRule) (place : Place) (of : TypeId) (a b : Weight) (o : Option Const) → ((v : Const) → o ≡ Some v → IsFitConstant core v of) → IfTyped (IsFitFolded core) (checked (entered rule place of (joined a b) o))
joined_entry core rule place of a b o g = fits_entry rule place o (λ v e. fits_fine (joined_counts v of a b, g v e))

pub numeral_fits : {core : Core} → IsFitTables core → (place : Place) (count : ℕ) (n : ℤ) → 0 < count → IfTyped (IsFitFolded core) (checked (numeral place count n))
numeral_fits {core} t place count n h = fits_entry NumberTooLarge place (within n) (λ v e. fits_fine (nodes_count v table.integer count h, no_text_fits core v table.integer (within_no_text n v e) (integer_solid t)))

pub text_fits : {core : Core} → IsFitTables core → (text : List ℕ) → IsFitFolded core (text_constant text)
text_fits t [] = (nodes_count (const.Text []) table.string 1 (omega arith), string_is t)
text_fits t (b ∷ []) = (nodes_count (const.Text []) table.string 1 (omega arith), char_solid t)
text_fits t (b ∷ c ∷ text) = (nodes_count (const.Text []) table.string 1 (omega arith), string_is t)

-- ---- signs

arithmetic_solid : {core : Core} → IsFitTables core → (a b : Sort) (of : TypeId) → table.arithmetic a b ≡ Some of → IsSolidType core of
arithmetic_solid {core} t (sort.Ordinal kind.Integer) (sort.Ordinal kind.Integer) of e = subst (IsSolidType core) (some_is e) (integer_solid t)
arithmetic_solid t a b of e = absurd (none-some _ e)

logic_solid : {core : Core} → IsFitTables core → (a b : Sort) (of : TypeId) → table.logic a b ≡ Some of → IsSolidType core of
logic_solid {core} t (sort.Ordinal kind.Boolean) (sort.Ordinal kind.Boolean) of e = subst (IsSolidType core) (some_is e) (boolean_solid t)
logic_solid t a b of e = arithmetic_solid t a b of e

pub prefixed_solid : {core : Core} → IsFitTables core → (o : PrefixOperator) (a : Sort) (of : TypeId) → table.prefixed o a ≡ Some of → IsSolidType core of
prefixed_solid t Not a of e = logic_solid t a a of e
prefixed_solid t Plus a of e = arithmetic_solid t a a of e
prefixed_solid t Minus a of e = arithmetic_solid t a a of e

before_no_text : (o : PrefixOperator) (of : TypeId) (n : ℤ) (v : Const) → before o of n ≡ Some v → IsNoText v
before_no_text Plus of n v e = subst IsNoText (some_is e) tt
before_no_text Minus of n v e = within_no_text (neg_ℤ n) v e
before_no_text Not of n v e = go (nat_eq of.0 table.boolean.0) e
  where
    go : (b : Bool) → (if b then within (pos 1 -ℤ n) else Some (const.Ordinal (int_bit_not w32 n))) ≡ Some v → IsNoText v
    go true e = within_no_text (pos 1 -ℤ n) v e
    go false e = subst IsNoText (some_is e) tt

pub prefix_fits : {core : Core} → IsFitTables core → (place : Place) (o : PrefixOperator) (a : Constant) → IfTyped (IsFitFolded core) (checked (prefix_means core place o a))
prefix_fits {core} t place o a =
    fits_entry NoOperator place (table.prefixed o (sort_of core a.of)) (λ of e. joined_entry core OutOfRange place of a.weight (nodes 0) (before o of (number_of a.value)) (λ v g. no_text_fits core v of (before_no_text o of (number_of a.value) v g) (prefixed_solid t o (sort_of core a.of) of e)))

-- ---- operators

set_arithmetic_solid : {core : Core} → IsFitTables core → (a b : Sort) (sets of : TypeId) → (are_sets a b ≡ true → IsSolidType core sets) → table.set_arithmetic a b sets ≡ Some of → IsSolidType core of
set_arithmetic_solid {core} t a b sets of s e = go (are_sets a b) s e
  where
    go : (c : Bool) → (c ≡ true → IsSolidType core sets) → (if c then Some sets else table.arithmetic a b) ≡ Some of → IsSolidType core of
    go true s e = subst (IsSolidType core) (some_is e) (s refl)
    go false s e = arithmetic_solid t a b of e

compared_solid : {core : Core} → IsFitTables core → (b : Bool) (of : TypeId) → table.compared b ≡ Some of → IsSolidType core of
compared_solid {core} t true of e = subst (IsSolidType core) (some_is e) (boolean_solid t)
compared_solid t false of e = absurd (none-some _ e)

member_solid : {core : Core} → IsFitTables core → (a b : Sort) (of : TypeId) → table.member_of a b ≡ Some of → IsSolidType core of
member_solid t (sort.Ordinal a) (sort.Set b) of e = compared_solid t (same_kind a b) of e
member_solid {core} t (sort.Ordinal a) sort.EmptySet of e = subst (IsSolidType core) (some_is e) (boolean_solid t)
member_solid t a b of e = absurd (none-some _ e)

-- what an operator gives is solid, but for a text that is joined
pub operation_solid : {core : Core} → IsFitTables core → (o : Operator) (a b : Sort) (sets of : TypeId) → (joins o ≡ true → (is_text a && is_text b) ≡ false) → (are_sets a b ≡ true → IsSolidType core sets) → table.operation o a b sets ≡ Some of → IsSolidType core of
operation_solid {core} t Add a b sets of j s e = go (is_text a && is_text b) (j refl) e
  where
    go : (c : Bool) → c ≡ false → (if c then Some table.string else table.set_arithmetic a b sets) ≡ Some of → IsSolidType core of
    go true f e = absurd (false≢true (sym f))
    go false f e = set_arithmetic_solid t a b sets of s e
operation_solid t Subtract a b sets of j s e = set_arithmetic_solid t a b sets of s e
operation_solid t Multiply a b sets of j s e = set_arithmetic_solid t a b sets of s e
operation_solid t Div a b sets of j s e = arithmetic_solid t a b of e
operation_solid t Mod_ a b sets of j s e = arithmetic_solid t a b of e
operation_solid t Shl a b sets of j s e = arithmetic_solid t a b of e
operation_solid t Shr a b sets of j s e = arithmetic_solid t a b of e
operation_solid t And a b sets of j s e = logic_solid t a b of e
operation_solid t Or a b sets of j s e = logic_solid t a b of e
operation_solid t Xor a b sets of j s e = logic_solid t a b of e
operation_solid t Less a b sets of j s e = compared_solid t (table.ordered a b) of e
operation_solid t Greater a b sets of j s e = compared_solid t (table.ordered a b) of e
operation_solid t LessEqual a b sets of j s e = compared_solid t (table.included a b) of e
operation_solid t GreaterEqual a b sets of j s e = compared_solid t (table.included a b) of e
operation_solid t Equal a b sets of j s e = compared_solid t (table.equated a b) of e
operation_solid t NotEqual a b sets of j s e = compared_solid t (table.equated a b) of e
operation_solid t In_ a b sets of j s e = member_solid t a b of e
operation_solid t Is a b sets of j s e = absurd (none-some _ e)
operation_solid t As_ a b sets of j s e = absurd (none-some _ e)
operation_solid t Slash a b sets of j s e = absurd (none-some _ e)

-- to the type that two sets go to
pub common_sets : {core : Core} → IsFitTables core → (a b : TypeId) → are_sets (sort_of core a) (sort_of core b) ≡ true → IsSolidType core (common_set core a b)
common_sets {core} t a b h = go (sort_of core a) (sort_of core b) refl refl h
  where
    both : (u w : Sort) → sort_of core a ≡ u → sort_of core b ≡ w → is_solid_sort u ≡ true → is_solid_sort w ≡ true → IsSolidType core (common_set core a b)
    both u w q r h k = common_solid t a b (sort_solid core a u q h) (sort_solid core b w r k)

    go : (u w : Sort) → sort_of core a ≡ u → sort_of core b ≡ w → are_sets u w ≡ true → IsSolidType core (common_set core a b)
    go (sort.Set x) (sort.Set y) q r h = both (sort.Set x) (sort.Set y) q r refl refl
    go (sort.Set x) sort.EmptySet q r h = both (sort.Set x) sort.EmptySet q r refl refl
    go sort.EmptySet (sort.Set y) q r h = both sort.EmptySet (sort.Set y) q r refl refl
    go sort.EmptySet sort.EmptySet q r h = both sort.EmptySet sort.EmptySet q r refl refl
    go u w q r h = absurd (false≢true h)

truth_no_text : (b : Bool) (v : Const) → Some (truth b) ≡ Some v → IsNoText v
truth_no_text true v e = subst IsNoText (some_is e) tt
truth_no_text false v e = subst IsNoText (some_is e) tt

compared_no_text : (o : Operator) (less more : Bool) (v : Const) → compared_by o less more ≡ Some v → IsNoText v
compared_no_text Equal less more v e = truth_no_text (not (less || more)) v e
compared_no_text NotEqual less more v e = truth_no_text (less || more) v e
compared_no_text Less less more v e = truth_no_text less v e
compared_no_text Greater less more v e = truth_no_text more v e
compared_no_text LessEqual less more v e = truth_no_text (not more) v e
compared_no_text GreaterEqual less more v e = truth_no_text (not less) v e
compared_no_text o less more v e = absurd (none-some _ e)

if_zero_no_text : (n : ℤ) (o : Option Const) (v : Const) → ((v : Const) → o ≡ Some v → IsNoText v) → if_zero n None o ≡ Some v → IsNoText v
if_zero_no_text (pos zero) o v g e = absurd (none-some _ e)
if_zero_no_text (pos (suc n)) o v g e = g v e
if_zero_no_text (negsuc n) o v g e = g v e

numbers_no_text : (o : Operator) (a b : ℤ) (v : Const) → on_numbers o a b ≡ Some v → IsNoText v
numbers_no_text Add a b v e = within_no_text (a +ℤ b) v e
numbers_no_text Subtract a b v e = within_no_text (a -ℤ b) v e
numbers_no_text Multiply a b v e = within_no_text (a *ℤ b) v e
numbers_no_text Div a b v e = if_zero_no_text b (within (int_div a b)) v (λ v e. within_no_text (int_div a b) v e) e
numbers_no_text Mod_ a b v e = if_zero_no_text b (Some (const.Ordinal (int_rem a b))) v (λ v e. subst IsNoText (some_is e) tt) e
numbers_no_text Shl a b v e = subst IsNoText (some_is e) tt
numbers_no_text Shr a b v e = subst IsNoText (some_is e) tt
numbers_no_text And a b v e = subst IsNoText (some_is e) tt
numbers_no_text Or a b v e = subst IsNoText (some_is e) tt
numbers_no_text Xor a b v e = subst IsNoText (some_is e) tt
numbers_no_text o a b v e = compared_no_text o (int_lt a b) (int_lt b a) v e

sets_no_text : (o : Operator) (a b : List ℕ) (v : Const) → on_sets o a b ≡ Some v → IsNoText v
sets_no_text Equal a b v e = truth_no_text _ v e
sets_no_text NotEqual a b v e = truth_no_text _ v e
sets_no_text LessEqual a b v e = truth_no_text _ v e
sets_no_text GreaterEqual a b v e = truth_no_text _ v e
sets_no_text o a b v e = subst IsNoText (some_is e) tt

values_no_text : (o : Operator) (a b v : Const) → by_values o a b ≡ Some v → IsNoText v
values_no_text o (const.Set a) (const.Set b) v e = sets_no_text o a b v e
values_no_text o (const.Ordinal n) (const.Set b) v e = truth_no_text _ v e
values_no_text o a b v e = numbers_no_text o (number_of a) (number_of b) v e

-- of two texts a text is made where they are joined, else a Boolean
texts_fit : {core : Core} → IsFitTables core → (o : Operator) (a b : Sort) (sets of : TypeId) (x y : List ℕ) (v : Const) → (is_text a && is_text b) ≡ true → (are_sets a b ≡ true → IsSolidType core sets) → table.operation o a b sets ≡ Some of → on_texts o x y ≡ Some v → IsFitConstant core v of
texts_fit {core} t Add a b sets of x y v k s e g = go (nat_le (length (x ++ y)) most_text_bytes) g
  where
    string : table.string ≡ of
    string = some_is (subst (λ c. (if c then Some table.string else table.set_arithmetic a b sets) ≡ Some of) k e)

    go : (c : Bool) → (if c then Some (const.Text (x ++ y)) else None) ≡ Some v → IsFitConstant core v of
    go true g = subst (λ v. IsFitConstant core v of) (some_is g) (subst (λ of. type_at core of ≡ Some type.String) string (string_is t))
    go false g = absurd (none-some _ g)
texts_fit {core} t o a b sets of x y v k s e g = no_text_fits core v of (compared_no_text o (precedes_bytes x y) (precedes_bytes y x) v g) (operation_solid t o a b sets of (λ j. absurd (false≢true j)) s e)

operated_fits : {core : Core} → IsFitTables core → (o : Operator) (a b : Sort) (sets of : TypeId) (x y v : Const) → (are_sets a b ≡ true → IsSolidType core sets) → table.operation o a b sets ≡ Some of → operated o a b x y ≡ Some v → IsFitConstant core v of
operated_fits {core} t o a b sets of x y v s e g = go (is_text a && is_text b) refl g
  where
    go : (c : Bool) → (is_text a && is_text b) ≡ c → (if c then on_texts o (bytes_of x) (bytes_of y) else by_values o x y) ≡ Some v → IsFitConstant core v of
    go true k g = texts_fit t o a b sets of (bytes_of x) (bytes_of y) v k s e g
    go false k g = no_text_fits core v of (values_no_text o x y v g) (operation_solid t o a b sets of (λ _. k) s e)

pub operator_fits : {core : Core} → IsFitTables core → (start : Place) (o : Operator) (place : Place) (a b : Constant) → IfTyped (IsFitFolded core) (checked (operator_means core start o place a b))
operator_fits {core} t start o place a b =
    fits_entry NoOperator place (table.operation o (sort_of core a.of) (sort_of core b.of) (common_set core a.of b.of)) (λ of e. joined_entry core OutOfRange start of a.weight b.weight (operated o (sort_of core a.of) (sort_of core b.of) a.value b.value) (λ v g.
    operated_fits t o (sort_of core a.of) (sort_of core b.of) (common_set core a.of b.of) of a.value b.value v (λ s. common_sets t a.of b.of s) e g))

-- ---- functions and casts

cast_fits : (core : Core) (of : TypeId) (n : ℤ) (v : Const) → cast (type_at core of) n ≡ Some v → IsFitConstant core v of
cast_fits core of n v e = go (type_at core of) refl e
  where
    ranged : (t : Option CoreType) → type_at core of ≡ t → (o : Option (ℤ × ℤ)) → range_of t ≡ o → in_range o n ≡ Some v → IsFitConstant core v of
    ranged t q None r e = absurd (none-some _ e)
    ranged t q (Some r) i e = no_text_fits core v of (in_range_no_text (Some r) n v e) (ordinal_solid core of r (ap range_of q ∙ i))

    go : (t : Option CoreType) → type_at core of ≡ t → cast t n ≡ Some v → IsFitConstant core v of
    go (Some (type.Integer kind)) q e = no_text_fits core v of (within_no_text (low_bits (integer_range kind).0 (integer_range kind).1 n) v e) (ap is_solid q)
    go (Some type.Char) q e = no_text_fits core v of (within_no_text (low_bits (pos 0) (pos 255) n) v e) (ap is_solid q)
    go t q e = ranged t q (range_of t) refl e

applied_no_text : (core : Core) (f : Function) (of : TypeId) (a v : Const) → applied core f of a ≡ Some v → IsNoText v
applied_no_text core Ord of a v e = subst IsNoText (some_is e) tt
applied_no_text core Succ of a v e = in_range_no_text (range_of (type_at core of)) (number_of a +ℤ pos 1) v e
applied_no_text core Pred of a v e = in_range_no_text (range_of (type_at core of)) (number_of a -ℤ pos 1) v e
applied_no_text core Abs of a v e = within_no_text (pos (unsigned_abs (number_of a))) v e
applied_no_text core Sqr of a v e = within_no_text (number_of a *ℤ number_of a) v e
applied_no_text core Odd of a v e = within_no_text (pos (cast_unsigned w32 (number_of a) % 2)) v e
applied_no_text core UpCase of a v e = within_no_text (if contains (pos 97, pos 122) (number_of a) then number_of a -ℤ pos 32 else number_of a) v e
applied_no_text core Length of a v e = within_no_text (pos (length (bytes_of a))) v e
applied_no_text core f of a v e = absurd (none-some _ e)

-- what a function gives of a value that is no text, or the length of a text
pub application_solid : {core : Core} → IsFitTables core → (f : Function) (of to : TypeId) → table.application f (sort_of core of) of ≡ Some to → IsSolidType core to
application_solid {core} t f of to e = go f (sort_of core of) refl e
  where
    go : (f : Function) (s : Sort) → sort_of core of ≡ s → table.application f s of ≡ Some to → IsSolidType core to
    go Ord (sort.Ordinal kind) q e = subst (IsSolidType core) (some_is e) (integer_solid t)
    go Succ (sort.Ordinal kind) q e = subst (IsSolidType core) (some_is e) (sort_solid core of (sort.Ordinal kind) q refl)
    go Pred (sort.Ordinal kind) q e = subst (IsSolidType core) (some_is e) (sort_solid core of (sort.Ordinal kind) q refl)
    go Abs a q e = arithmetic_solid t a a to e
    go Sqr a q e = arithmetic_solid t a a to e
    go Odd (sort.Ordinal kind.Integer) q e = subst (IsSolidType core) (some_is e) (boolean_solid t)
    go Length sort.String q e = subst (IsSolidType core) (some_is e) (integer_solid t)
    go Length (sort.Ordinal kind.Char) q e = subst (IsSolidType core) (some_is e) (integer_solid t)
    go UpCase (sort.Ordinal kind.Char) q e = subst (IsSolidType core) (some_is e) (char_solid t)
    go f s q e = absurd (none-some _ e)

pub use_fits : {core : Core} → IsFitTables core → (what : Applied) (place at : Place) (a : Constant) → IfTyped (IsFitFolded core) (checked (use_means core what place at a))
use_fits {core} t (Cast of) place at a =
    fits_test NoCast place (is_ordinal (sort_of core a.of)) (λ o. joined_entry core OutOfRange place of a.weight (nodes 0) (cast (type_at core of) (number_of a.value)) (λ v e. cast_fits core of (number_of a.value) v e))
use_fits {core} t (Function' f) place at a =
    fits_entry (rule_of f) at (table.application f (sort_of core a.of) a.of) (λ of e. joined_entry core OutOfRange place of a.weight (nodes 0) (applied core f a.of a.value) (λ v g. no_text_fits core v of (applied_no_text core f a.of a.value v g) (application_solid t f a.of of e)))

pub bound_fits : (core : Core) (f : Function) (of : TypeId × Place) → IfTyped (IsFitFolded core) (checked (bound_means core f of))
bound_fits core f of = fits_entry NotOrdinal of.1 (bound_of core f of.0) (λ b e. fits_fine (nodes_count b.0 b.1 2 (omega arith), ranged (index_by of.0 (type_at core of.0)) b e))
  where
    ranged : (index : TypeId) (b : Const × TypeId) → option_map (λ v. (v, index)) (option_and_then (λ r. within (end_by f r)) (range_of (type_at core index))) ≡ Some b → IsFitConstant core b.0 b.1
    ranged index b e = by (range_of (type_at core index)) refl e
      where
        at : (r : ℤ × ℤ) → range_of (type_at core index) ≡ Some r → (o : Option Const) → within (end_by f r) ≡ o → option_map (λ v. (v, index)) o ≡ Some b → IsFitConstant core b.0 b.1
        at r q None g e = absurd (none-some _ e)
        at r q (Some v) g e = subst (λ b. IsFitConstant core b.0 b.1) (some_is e) (no_text_fits core v index (within_no_text (end_by f r) v g) (ordinal_solid core index r q))

        by : (o : Option (ℤ × ℤ)) → range_of (type_at core index) ≡ o → option_map (λ v. (v, index)) (option_and_then (λ r. within (end_by f r)) o) ≡ Some b → IsFitConstant core b.0 b.1
        by None q e = absurd (none-some _ e)
        by (Some r) q e = at r q (within (end_by f r)) refl e

-- ---- sets

-- what is gathered for a set, which counts for a node where it is put in brackets
abbrev pub IsFitSet : Core → Constant → Type 0
IsFitSet core c = IsNoText c.value × IsSetType core c.of

pub single_fits : {core : Core} → IsFitTables core → (at : Place) (a : Option Constant) → IfTyped (IsFitSet core) (checked (single_means core at a))
single_fits {core} t at a = fits_after (fits_with (present (checked (with_part (element_means core at) a)).typed) (λ a _. fits_fine (tt, over_is_set t a.of)))

pub range_fits : {core : Core} → IsFitTables core → (at : Place) (a : Option Constant) (at' : Place) (b : Option Constant) → IfTyped (IsFitSet core) (checked (range_means core at a at' b))
range_fits {core} t at a at' b =
    fits_after (fits_with (present (both_typed pair (checked (with_part (element_means core at) a)).typed (checked (with_part (element_means core at') b)).typed)) (λ ab _.
    fits_test NotAssignable at' (assignable core ab.1.of ab.0.of) (λ _. fits_fine (tt, common_is_set t (set_over core ab.0.of) (set_over core ab.1.of) (over_is_set t ab.0.of) (over_is_set t ab.1.of)))))

pub gathered_fits : {core : Core} → IsFitTables core → (at : Place) {a b : Option Constant} → IfAny (IsFitSet core) a → IfAny (IsFitSet core) b → IfTyped (IsFitSet core) (checked (gathered_means core at a b))
gathered_fits {core} t at h k =
    fits_with h (λ a h. fits_with k (λ b k. fits_test NotAssignable at (are_sets (sort_of core a.of) (sort_of core b.of)) (λ _. fits_fine (tt, common_is_set t a.of b.of h.1 k.1))))

pub no_members_fit : {core : Core} → IsFitTables core → IsFitSet core no_members
no_members_fit t = (tt, empty_is_set t)

pub bracketed_fits : (core : Core) (a : Constant) → IsFitSet core a → IsFitFolded core (made a.value a.of (joined a.weight (nodes 0)))
bracketed_fits core a h = (joined_counts a.value a.of a.weight (nodes 0), no_text_fits core a.value a.of h.0 (set_solid core a.of h.1))

pub brackets_fit : (core : Core) (c : Constant) → IsFitFolded core c → IsFitFolded core (made c.value c.of (joined c.weight (nodes 0)))
brackets_fit core c h = (joined_counts c.value c.of c.weight (nodes 0), h.1)
