-- Where every name stands for what is there, each statement is a sound one or breaks a rule.
use Rattle.std.proofs.Common.{◌≡◌, ℕ, zero, suc, ℤ, ◌≤ℤ◌, not, Bool, true, false, is_some, List, [], ◌∷◌, ◌++◌, slice_get, IsTrue, Option, Some, None, refl, sym, ap, subst, ◌∙◌, arith}
use Rattle.std.proofs.lemmas.Bool.{false≢true, not-true, or_parts, true≢false}
use Rattle.std.proofs.lemmas.Int.{ints}
use Rattle.std.proofs.lemmas.List.Elements.{All-cons, All-nil}
use Rattle.std.proofs.lemmas.List.Folds.{list_any-append}
use Rattle.std.proofs.lemmas.List.Sums.{fold-append}
use Rattle.std.specs.List.{All}
use Rattle.std.specs.Option.{IsSomeAnd, option_map}
use Rattle.std.specs.Prelude.{pos, int_le}
use Rattle.op_base.specs.declared.place.Place.{Place}
use Rattle.op_typed.proofs.Trees.{as_type_value, as_typed, tree_typed}
use Rattle.op_typed.proofs.Expressions.{called_alone_whole, element_whole, given_to_whole, target_whole, value_of_whole, variable_whole}
use Rattle.op_check_expr.specs.Expressions.{position_of}
use Rattle.op_check_expr.specs.Phrases.{is_writable_variable}
use Rattle.op_check_expr.specs.Scopes.{Here}
use Rattle.op_typed.specs.Settled.{IsSettled, IsSoundValue}
use Rattle.op_check_expr.specs.Values.{Value, as_type, constant, computed, tree_of, type_of}
use Rattle.op_check_expr.specs.declared.scope.Around.{Around}
use Rattle.op_check_expr.specs.declared.scope.Around.TheVariants.{Loop, Finally}
use Rattle.op_typed.proofs.Hosts.{goes_to_host, hosted, kind_of_whole, number_within, one_ordinal, place_with_characters, text_of}
use Rattle.op_check_stmt.specs.Case.{both_bounds, bound, bound_means, branch_labels, label, labels, selected_by, selector, spot}
use Rattle.op_check_stmt.specs.LabelLaw.{at_most}
use Rattle.op_check_stmt.specs.Labels.{once, repeated}
use Rattle.op_check_stmt.specs.Leaving.{by_reach, entered, in_finally, is_finally, jump_of, reach_of}
use Rattle.op_check_stmt.specs.Procedure as procedures
use Rattle.op_check_stmt.specs.Procedure.{Called, Values, base_by, base_in, called, called_means, change, change_means, count_means, exit_means, halt_means, is_text, item, items, jump_means, member, plain_call, procedure, result_of, set, text, unwritten, values, written}
use Rattle.op_check_stmt.specs.Statement.{all_spots, bound_of, branches, case_head, case_statement, condition, first_class, for_statement, looped, paired, statement, statements, stored, tried, type_in, with_branch, within}
use Rattle.op_typed.specs.Surrounding.{Surrounds}
use Rattle.op_check_stmt.specs.Variable.{counter, counter_named, counter_row, host_of, is_ordinal}
use Rattle.op_check_stmt.specs.declared.case.Bound.{Bound}
use Rattle.op_check_stmt.specs.declared.leaving.Jump.{Jump}
use Rattle.op_check_stmt.specs.declared.leaving.Jump.TheVariants.{Break, Continue}
use Rattle.op_check_stmt.specs.declared.leaving.Reach.{Reach}
use Rattle.op_check_stmt.specs.declared.leaving.Reach.TheVariants.{Nowhere, Inside, Beyond}
use Rattle.op_check_stmt.specs.declared.variable.Counter.{Counter}
use Rattle.op_core.specs.Expression.{Expression as Tree}
use Rattle.op_core.specs.Faults.{Checked}
use Rattle.op_core.specs.Members.{Kind}
use Rattle.op_core.specs.Relations.{Filled, Whole, filled}
use Rattle.op_core.specs.Sizes.{range_of, type_at}
use Rattle.op_core.specs.Sound.{IsFounded, Row, is_whole}
use Rattle.op_core.specs.Statement.{plain, padded, write, count, Statement, block, if_then, if_else, while_do, repeat_until, try_finally, assign, call as call_statement, exit_with, halt, built_in, Branches, Statements, statements as core_statements}
use Rattle.op_core.specs.StatementTyping as place
use Rattle.op_core.specs.StatementTyping.{AreBranches, AreStatements, Bounds, Has, IsElementOf, IsItem, IsLabel, IsStatement, IsTarget, IsTargetOf, IsText, IsVariable}
use Rattle.op_core.specs.Typing as typing
use Rattle.op_core.specs.Typing.{IsBoolean, IsInteger, IsOrdinal, IsSet, IsTyped, IsValue, OneType, Sees, Within}
use Rattle.op_core.specs.declared.ids.TypeId.{TypeId}
use Rattle.op_core.specs.declared.ids.VariableId.{VariableId}
use Rattle.op_core.specs.declared.program.Core.{Core}
use Rattle.op_core.specs.declared.routine.Variable.{Variable as VariableRow}
use Rattle.op_core.specs.declared.statement.Label.{Label}
use Rattle.op_core.specs.declared.types.CoreType.{CoreType}
use Rattle.op_core.specs.declared.types.CoreType.TheVariants as type
use Rattle.op_core.specs.declared.types.IntegerKind.TheVariants.{Signed32}
use Rattle.op_judgement.proofs.Completing.{whole_after, whole_as, whole_behind, whole_changed_so, whole_entered, whole_followed, whole_gives, whole_rule, whole_standing, whole_tested, whole_two, whole_upon}
use Rattle.op_judgement.specs.Judgement.{Judgement, changed, checked, fault, given, unless}
use Rattle.op_judgement.specs.declared.rules.LanguageRule.TheVariants.{EmptyRange, LeavesFinally, NotAssignable, NotBoolean, NotOrdinal, NotWritable, NotWritten, VariableOfAnotherType, WrongArguments}
use Rattle.op_tree.specs.Expression.{Expression, Argument, value as value_argument, padded as padded_argument, rounded, Arguments, no_arguments, arguments, Designator, Element, one, range, Elements, no_elements, elements}
use Rattle.op_tree.specs.Statement as tree
use Rattle.op_tree.specs.declared.position.Name.{Name}
use Rattle.op_tree.specs.declared.statement.Direction.{Direction}
use Rattle.op_tree.specs.declared.statement.Direction.TheVariants.{To, Downto}
use Rattle.op_typed.proofs.Constants.{ordinal_sort}
use Rattle.op_typed.proofs.Sorting.{stands_as}
use Rattle.op_typed.proofs.TypeFacts.{boolean_kind, integer_kind, stands_for}
use Rattle.op_types.specs.Assignable.{assignable}
use Rattle.op_types.specs.ConstantParts.{start_of}
use Rattle.op_types.specs.Names.{lower, meaning_of}
use Rattle.op_types.specs.Operators as table
use Rattle.op_types.specs.Sorts.{sort_of}
use Rattle.op_typed.specs.Standing.{StandsFor}
use Rattle.op_types.specs.declared.sort.Sort.{Sort}
use Rattle.op_types.specs.declared.sort.Sort.TheVariants.{Ordinal, String}
use Rattle.op_types.specs.declared.visible.BuiltIn as types
use Rattle.op_types.specs.declared.visible.BuiltIn.TheVariants as name
use Rattle.op_types.specs.declared.visible.Meaning.{Meaning}
use Rattle.op_types.specs.declared.visible.Meaning.TheVariants.{Variable, Spoiled}

-- ---- what stands round a part

settled_within : {sees : Sees} {here : Here} (part : Around) → IsSettled sees here → IsSettled sees (within here part)
settled_within part s = record { founded = s.founded; names = s.names; own = s.own }

reach_within : (around : List Around) (part : Around) → reach_of (around ++ part ∷ []) ≡ entered (reach_of around) part
reach_within around part = fold-append entered Nowhere around (part ∷ [])

finally_within : (around : List Around) (part : Around) → in_finally (around ++ part ∷ []) ≡ false → (in_finally around ≡ false) × (is_finally part ≡ false)
finally_within around part e = let h = or_parts _ _ (sym (list_any-append is_finally around (part ∷ [])) ∙ e) in (h.0, (or_parts _ _ h.1).0)

looped_within : {here : Here} {at : place.Here} (counter : Option VariableId) → Surrounds here at → Surrounds (looped here counter) (place.in_loop at)
looped_within {here} counter s = record { result = s.result; loop = λ e. refl; routine = λ e. s.routine (finally_within here.around (Loop counter) e).0 }

beyond : (r : Reach) → entered r Finally ≡ Inside → ⊥
beyond Nowhere e = absurd (cc)
beyond Inside e = absurd (cc)
beyond Beyond e = absurd (cc)

finally_part : {here : Here} {at : place.Here} → Surrounds here at → Surrounds (within here Finally) (place.in_finally at)
finally_part {here} s = record {
  result = s.result;
  loop = λ e. absurd (beyond (reach_of here.around) (sym (reach_within here.around Finally) ∙ e));
  routine = λ e. absurd (true≢false (finally_within here.around Finally e).1);
}

-- ---- expressions in statements

-- of the very type, where only that is one with it
has_kind : (core : Core) (sees : Sees) (of : TypeId) (t : CoreType) → Kind core of t → IsOrdinal core of → (e : Tree) → IsValue core sees of e → Has (λ core of. Kind core of t) core sees e
has_kind core sees of t k o e h = let v = as_typed core sees of e h in (v.0, ap (type_at core) (one_ordinal core (typing.type_of e) of o v.1) ∙ k)

boolean_ordinal : {core : Core} → IsFounded core → IsOrdinal core table.boolean
boolean_ordinal f = rw (boolean_kind f) tt

has_integer : {core : Core} (sees : Sees) → IsFounded core → (e : Tree) → IsValue core sees table.integer e → Has IsInteger core sees e
has_integer {core} sees f e h = has_kind core sees table.integer (type.Integer Signed32) (integer_kind f) (rw (integer_kind f) tt) e h

condition_whole : {sees : Sees} {here : Here} → IsSettled sees here → (e : Expression) → Whole (Has IsBoolean here.core sees) (checked (condition here e))
condition_whole {sees} {here} s e =
    whole_behind (value_of_whole s None e) (λ v h. whole_tested NotBoolean (start_of e) (assignable here.core (type_of v) table.boolean) (λ a.
    whole_gives (has_kind here.core sees table.boolean type.Boolean (boolean_kind s.founded) (boolean_ordinal s.founded) (as_type here.core false table.boolean v) (as_type_value here.core sees false table.boolean v h a))))

-- ---- the selector of a case, and its labels

abbrev IsSelector : Core → Sees → Tree → Type 0
IsSelector core sees e = IsTyped core sees e × IsTrue (is_whole (type_at core (typing.type_of e)))

selected_whole : {core : Core} {sees : Sees} → IsFounded core → (at : Place) (v : Value) → IsSoundValue core sees v → (s : Sort) → sort_of core (type_of v) ≡ s → Whole (IsSelector core sees) (checked (selected_by core at v s))
selected_whole {core} {sees} f at v h (Ordinal kind) e =
    let of = host_of core (type_of v) in
    let tree = as_type core false of v in
    let w = (hosted (type_of v) f e).whole in
    let t = as_typed core sees of tree (as_type_value core sees false of v h (goes_to_host (type_of v) f e)) in
    whole_gives (t.0, ap (λ of. is_whole (type_at core of)) (one_ordinal core (typing.type_of tree) of (kind_of_whole core of w).ordinal t.1) ∙ w)
selected_whole f at v h String e = whole_rule
selected_whole f at v h s e = whole_rule

selector_whole : {sees : Sees} {here : Here} → IsSettled sees here → (e : Expression) → Whole (IsSelector here.core sees) (checked (selector here e))
selector_whole {sees} {here} s e = whole_behind (value_of_whole s None e) (λ v h. selected_whole {sees = sees} s.founded (start_of e) v h (sort_of here.core (type_of v)) refl)

abbrev IsIn : Core → TypeId → ℤ → Type 0
IsIn core of n = IsSomeAnd (range_of (type_at core of)) (λ r. Within r n)

bound_means_whole : {core : Core} (sees : Sees) → IsFounded core → (at : Place) (of : TypeId) → IsTrue (is_whole (type_at core of)) → (v : Value) → IsSoundValue core sees v → Whole (λ b. IsIn core of b.number) (checked (bound_means core at (Some of) v))
bound_means_whole {core} sees f at of w (constant c) h = whole_tested NotAssignable at (assignable core c.of of) (λ a. whole_gives (number_within of f w c h a))
bound_means_whole {core} sees f at of w (computed e) h = whole_tested NotAssignable at (assignable core (typing.type_of e) of) (λ _. whole_rule)

bound_whole : {sees : Sees} {here : Here} → IsSettled sees here → (of : TypeId) → IsTrue (is_whole (type_at here.core of)) → (e : Expression) → Whole (λ b. IsIn here.core of b.number) (checked (bound here (Some of) e))
bound_whole {sees} s of w e = whole_behind (value_of_whole s None e) (λ v h. bound_means_whole sees s.founded (start_of e) of w v h)

both_in : (o : Option (ℤ × ℤ)) (low high : ℤ) → IsSomeAnd o (λ r. Within r low) → IsSomeAnd o (λ r. Within r high) → IsSomeAnd o (λ r. Within r low × Within r high)
both_in (Some r) low high h k = (h, k)
both_in None low high h k = h

below_itself : (a : ℤ) → a ≤ℤ a
below_itself a = omega (arith, ints)

both_bounds_whole : (core : Core) (of : TypeId) (at : Place) {low high : Option Bound} → Filled (λ b. IsIn core of b.number) low → Filled (λ b. IsIn core of b.number) high → Whole (λ s. IsLabel core of s.label) (checked (both_bounds at low high))
both_bounds_whole core of at (filled low h) (filled high k) = whole_tested EmptyRange at (int_le low.number high.number) (λ e. whole_gives (both_in (range_of (type_at core of)) low.number high.number h k, at_most e))

label_whole : {sees : Sees} {here : Here} → IsSettled sees here → (of : TypeId) → IsTrue (is_whole (type_at here.core of)) → (e : Element) → Whole (λ s. IsLabel here.core of s.label) (checked (label here (Some of) e))
label_whole {sees} {here} s of w (one e) = whole_changed_so (λ b. spot (start_of e) b b b.weight) (bound_whole s of w e) (λ b h. (both_in (range_of (type_at here.core of)) b.number b.number h h, below_itself b.number))
label_whole {sees} {here} s of w (range e f) = whole_followed (bound_whole s of w e) (λ low h. whole_followed (bound_whole s of w f) (λ high k. both_bounds_whole here.core of (start_of e) h k))

labels_whole : {sees : Sees} {here : Here} → IsSettled sees here → (of : TypeId) → IsTrue (is_whole (type_at here.core of)) → (es : Elements) → Whole (All (IsLabel here.core of)) (checked (labels here (Some of) es))
labels_whole {sees} {here} s of w no_elements = whole_gives (All-nil (IsLabel here.core of))
labels_whole {sees} {here} s of w (elements e es) =
    whole_two (λ l others. l ∷ others) (whole_changed_so (λ s. s.label) (label_whole s of w e) (λ x h. h)) (labels_whole s of w es) (λ l ls h k. All-cons (IsLabel here.core of) l ls h k)

branch_labels_whole : {sees : Sees} {here : Here} → IsSettled sees here → (of : TypeId) → IsTrue (is_whole (type_at here.core of)) → (es : Elements) → Whole (All (IsLabel here.core of)) (checked (branch_labels here (Some of) es))
branch_labels_whole s of w no_elements = whole_rule
branch_labels_whole s of w (elements e es) = labels_whole s of w (elements e es)

once_whole : {A : Type 0} {P : A → Type 0} {o : Option A} → Filled P o → (at : Option Place) → Whole P (once o at)
once_whole h None = whole_standing h
once_whole h (Some at) = whole_rule

-- ---- the variable of a loop

abbrev IsCounter : Core → Sees → Counter → Type 0
IsCounter core sees c = IsOrdinal core c.bounds × IsVariable sees core c.variable (λ of. Bounds core of (type_at core of) c.bounds)

row_is : {A : Type 0} (table : List A) (n : ℕ) → Row table n → slice_get table n ≡ None → ⊥
row_is [] n l e = absurd (omega (arith, l))
row_is (a ∷ table) zero l e = absurd (cc)
row_is (a ∷ table) (suc n) l e = row_is table n (omega (arith, l)) e

counter_row_whole : (sees : Sees) (here : Here) → IsFounded here.core → (at : Place) (id : VariableId) → sees.variable id → Row here.core.variables id.0 → (o : Option VariableRow) → slice_get here.core.variables id.0 ≡ o → Whole (IsCounter here.core sees) (checked (counter_row here at id o))
counter_row_whole sees here f at id seen row None e = absurd (row_is here.core.variables id.0 row e)
counter_row_whole sees here f at id seen row (Some v) e =
    whole_tested NotOrdinal at (is_ordinal (sort_of here.core v.of)) (λ a.
    let k = ordinal_sort (sort_of here.core v.of) a in
    let to = hosted v.of f k.1 in
    whole_tested NotWritable at (is_writable_variable here id) (λ _. whole_gives ((kind_of_whole here.core (host_of here.core v.of) to.whole).ordinal, (seen, rw e to.bounds))))

counter_named_whole : (sees : Sees) (here : Here) → IsFounded here.core → (at : Place) (m : Option Meaning) → ((x : Meaning) → m ≡ Some x → StandsFor here.core sees x) → Whole (IsCounter here.core sees) (checked (counter_named here at m))
counter_named_whole sees here f at None h = whole_rule
counter_named_whole sees here f at (Some Spoiled) h = absurd (h Spoiled refl)
counter_named_whole sees here f at (Some (Variable id w)) h = let k = h (Variable id w) refl in counter_row_whole sees here f at id k.0 k.1 (slice_get here.core.variables id.0) refl
counter_named_whole sees here f at (Some m) h = whole_rule

counter_whole : {sees : Sees} {here : Here} → IsSettled sees here → (n : Name) → Whole (IsCounter here.core sees) (checked (counter here n))
counter_whole {sees} {here} s n = counter_named_whole sees here s.founded n.position.place (meaning_of here.visible (lower n.text)) (λ m e. stands_for here.core sees here.visible s.names (lower n.text) m e)

-- ---- built-in procedures

has_text : (core : Core) (sees : Sees) (v : Value) → IsSoundValue core sees v → is_text (sort_of core (type_of v)) ≡ true → Has IsText core sees (tree_of v)
has_text core sees (constant c) h a = (tree_typed core sees (constant c) h, text_of core c.of a)
has_text core sees (computed e) h a = (h, text_of core (typing.type_of e) a)

text_whole : {sees : Sees} {here : Here} → IsSettled sees here → (e : Expression) → Whole (Has IsText here.core sees) (checked (text here e))
text_whole {sees} {here} s e = whole_behind (value_of_whole s None e) (λ v h. whole_tested NotWritten (start_of e) (is_text (sort_of here.core (type_of v))) (λ a. whole_gives (has_text here.core sees v h a)))

item_whole : {sees : Sees} {here : Here} → IsSettled sees here → (a : Argument) → Whole (IsItem here.core sees) (checked (item here a))
item_whole s (value_argument e) = whole_changed_so plain (text_whole s e) (λ t h. h)
item_whole {sees} s (padded_argument e width) = whole_two padded (text_whole s e) (given_to_whole s table.integer false width) (λ t w h k. (h, has_integer sees s.founded w k))
item_whole s (rounded e width digits) = whole_rule

items_whole : {sees : Sees} {here : Here} → IsSettled sees here → (args : Arguments) → Whole (All (IsItem here.core sees)) (checked (items here args))
items_whole {sees} {here} s no_arguments = whole_gives (All-nil (IsItem here.core sees))
items_whole {sees} {here} s (arguments a rest) = whole_two (λ x xs. x ∷ xs) (item_whole s a) (items_whole s rest) (λ x xs h k. All-cons (IsItem here.core sees) x xs h k)

-- a statement of such a place
abbrev Is : Sees → Here → place.Here → Statement → Type 0
Is sees here at = IsStatement here.core sees at

written_whole : {sees : Sees} {here : Here} (at : place.Here) → IsSettled sees here → (ends_line : Bool) (args : Arguments) → Whole (Is sees here at) (checked (written here ends_line args))
written_whole at s ends_line args = whole_changed_so (λ xs. built_in (write xs ends_line)) (items_whole s args) (λ xs h. h)

counted_whole : {sees : Sees} {here : Here} → IsSettled sees here → (ranges : Bool) (e : Expression) → Whole (IsTarget IsOrdinal here.core sees) (checked (procedures.counted here ranges e))
counted_whole {sees} {here} s ranges e =
    whole_behind (variable_whole s None e) (λ t h. whole_tested NotOrdinal (start_of e) (is_ordinal (sort_of here.core (typing.type_of t))) (λ a.
    let k = ordinal_sort (sort_of here.core (typing.type_of t)) a in
    whole_gives ((h.0, (stands_as here.core (typing.type_of t) (Ordinal k.0) k.1).0), place_with_characters here.core t h.1)))

unit_integer : {core : Core} (sees : Sees) → IsFounded core → Has IsInteger core sees (unwritten (pos 1))
unit_integer sees f = ((rw (integer_kind f) (omega (arith, ints), omega (arith, ints)), tt), integer_kind f)

zero_integer : {core : Core} (sees : Sees) → IsFounded core → Has IsInteger core sees (unwritten (pos 0))
zero_integer sees f = ((rw (integer_kind f) (omega (arith, ints), omega (arith, ints)), tt), integer_kind f)

count_whole : {sees : Sees} {here : Here} (at : place.Here) → IsSettled sees here → (direction : Direction) (n : Name) (given : Values) → Whole (Is sees here at) (checked (count_means here direction n given))
count_whole {sees} {here} at s direction n (procedures.one e) =
    whole_two (λ t m. built_in (count direction t m n.position.switches.q)) (counted_whole s (position_of e).switches.r e) (whole_gives {P = Has IsInteger here.core sees} {a = unwritten (pos 1)} (unit_integer sees s.founded)) (λ t m h k. (h, k))
count_whole {sees} at s direction n (procedures.two e f) =
    whole_two (λ t m. built_in (count direction t m n.position.switches.q)) (counted_whole s (position_of e).switches.r e) (given_to_whole s table.integer false f) (λ t m h k. (h, has_integer sees s.founded m k))
count_whole at s direction n procedures.none = whole_rule
count_whole at s direction n procedures.others = whole_rule

set_by : (t : Option CoreType) → is_some (base_by t) ≡ true → IsSomeAnd (typing.base_of t) (λ base. Unit {0})
set_by (Some (type.Set base)) e = tt
set_by t e = absurd (false≢true e)

set_whole : {sees : Sees} {here : Here} → IsSettled sees here → (e : Expression) → Whole (IsTargetOf false IsSet here.core sees) (checked (set here e))
set_whole {sees} {here} s e =
    whole_behind (variable_whole s None e) (λ t h. whole_tested VariableOfAnotherType (start_of e) (is_some (base_by (type_at here.core (typing.type_of t)))) (λ a.
    whole_gives ((h.0, set_by (type_at here.core (typing.type_of t)) a), h.1)))

abbrev IsMember : Core → Sees → Option CoreType → Tree → Type 0
IsMember core sees t e = IsTyped core sees e × IsSomeAnd (typing.base_of t) (λ base. OneType core (typing.type_of e) base)

member_whole : {sees : Sees} {here : Here} → IsSettled sees here → (t : Option CoreType) → IsSomeAnd (typing.base_of t) (λ base. Unit {0}) → (e : Expression) → Whole (IsMember here.core sees t) (checked (member here (base_by t) e))
member_whole {sees} {here} s (Some (type.Set base)) h e = whole_as (element_whole s base e) (λ m k. as_typed here.core sees base m k)
member_whole s t h e = absurd h

changes : (core : Core) (sees : Sees) (at : place.Here) (includes : Bool) (set e : Tree) → IsElementOf core sees set e → IsStatement core sees at (change includes set e)
changes core sees at true set e h = h
changes core sees at false set e h = h

change_whole : {sees : Sees} {here : Here} (at : place.Here) → IsSettled sees here → (includes : Bool) (n : Name) (given : Values) → Whole (Is sees here at) (checked (change_means here includes n given))
change_whole {sees} {here} at s includes n (procedures.two e f) =
    whole_upon (change includes) (λ o. checked (member here (base_in here.core o) f)) (set_whole s e) (λ t h. member_whole s (type_at here.core (typing.type_of t)) h.0.1 f) (λ t m h k. changes here.core sees at includes t m (h, k.0, k.1))
change_whole at s includes n procedures.none = whole_rule
change_whole at s includes n (procedures.one e) = whole_rule
change_whole at s includes n procedures.others = whole_rule

exits_whole : (here : Here) {P : Statement → Type 0} {c : Checked Statement} (at : Place) → (in_finally here.around ≡ false → Whole P c) → Whole P (unless (fault LeavesFinally at) c (not (in_finally here.around)))
exits_whole here at h = whole_tested LeavesFinally at (not (in_finally here.around)) (λ a. h (not-true (in_finally here.around) a))

exit_whole : {sees : Sees} {here : Here} {at : place.Here} → IsSettled sees here → Surrounds here at → (n : Name) (given : Values) → Whole (Is sees here at) (checked (exit_means here n given))
exit_whole {sees} {here} s r n procedures.none = exits_whole here n.position.place (λ a. whole_gives (r.routine a))
exit_whole {sees} {here} s r n (procedures.one e) =
    whole_entered WrongArguments n.position.place (result_of here) (λ of is. exits_whole here n.position.place (λ a.
    whole_changed_so exit_with (given_to_whole s of (position_of e).switches.r e) (λ t h. (r.routine a, subst (λ o. IsSomeAnd o (λ of. IsValue here.core sees of t)) (sym (r.result ∙ is)) h))))
exit_whole s r n (procedures.two e f) = whole_rule
exit_whole s r n procedures.others = whole_rule

halt_whole : {sees : Sees} {here : Here} (at : place.Here) → IsSettled sees here → (n : Name) (given : Values) → Whole (Is sees here at) (checked (halt_means here n given))
halt_whole {sees} at s n procedures.none = whole_gives (zero_integer sees s.founded)
halt_whole {sees} at s n (procedures.one e) = whole_changed_so halt (given_to_whole s table.integer false e) (λ t h. has_integer sees s.founded t h)
halt_whole at s n (procedures.two e f) = whole_rule
halt_whole at s n procedures.others = whole_rule

leaving_whole : {P : Statement → Type 0} (at : Place) (s : Statement) (reach : Reach) → (reach ≡ Inside → P s) → Whole P (checked (by_reach at s reach))
leaving_whole at s Nowhere h = whole_rule
leaving_whole at s Inside h = whole_gives (h refl)
leaving_whole at s Beyond h = whole_rule

jumps : (core : Core) (sees : Sees) (at : place.Here) (jump : Jump) → at.loop ≡ true → IsStatement core sees at (jump_of jump)
jumps core sees at Break h = h
jumps core sees at Continue h = h

jump_whole : {sees : Sees} {here : Here} {at : place.Here} → Surrounds here at → (jump : Jump) (n : Name) (given : Values) → Whole (Is sees here at) (checked (jump_means here jump n given))
jump_whole {sees} {here} {at} r jump n procedures.none = leaving_whole n.position.place (jump_of jump) (reach_of here.around) (λ e. jumps here.core sees at jump (r.loop e))
jump_whole r jump n (procedures.one e) = whole_rule
jump_whole r jump n (procedures.two e f) = whole_rule
jump_whole r jump n procedures.others = whole_rule

plain_whole : {sees : Sees} {here : Here} (at : place.Here) → IsSettled sees here → (d : Designator) → Whole (Is sees here at) (checked (plain_call here d))
plain_whole at s d = whole_changed_so call_statement (called_alone_whole s d) (λ t h. h)

procedure_whole : {sees : Sees} {here : Here} (at : place.Here) → IsSettled sees here → Surrounds here at → (d : Designator) (b : types.BuiltIn) (c : Called) → Whole (Is sees here at) (checked (procedure here d b c))
procedure_whole at s r d name.Write c = written_whole at s false c.given
procedure_whole at s r d name.WriteLn c = written_whole at s true c.given
procedure_whole at s r d name.Inc c = count_whole at s To c.name (values c.given)
procedure_whole at s r d name.Dec c = count_whole at s Downto c.name (values c.given)
procedure_whole at s r d name.Include c = change_whole at s true c.name (values c.given)
procedure_whole at s r d name.Exclude c = change_whole at s false c.name (values c.given)
procedure_whole at s r d name.Exit c = exit_whole s r c.name (values c.given)
procedure_whole at s r d name.Halt c = halt_whole at s c.name (values c.given)
procedure_whole at s r d name.Break c = jump_whole r Break c.name (values c.given)
procedure_whole at s r d name.Continue c = jump_whole r Continue c.name (values c.given)
procedure_whole at s r d b c = plain_whole at s d

called_whole : {sees : Sees} {here : Here} (at : place.Here) → IsSettled sees here → Surrounds here at → (d : Designator) (c : Option Called) → Whole (Is sees here at) (checked (called_means here d c))
called_whole at s r d None = plain_whole at s d
called_whole at s r d (Some c) = procedure_whole at s r d c.which c

-- ---- statements

tried_whole : {P : Statement → Type 0} (at : Option Place) (body : Judgement Statements) (whole : Judgement Statement) → Whole P (checked whole) → Whole P (checked (tried at body whole))
tried_whole None body whole h = h
tried_whole (Some at) body whole h = whole_after whole_rule

abbrev AreBounds : Core → Sees → TypeId → Tree × Tree → Type 0
AreBounds core sees of bounds = IsValue core sees of bounds.0 × IsValue core sees of bounds.1

abbrev Counts : Sees → Here → Counter × (Tree × Tree) → Type 0
Counts sees here head = IsCounter here.core sees head.0 × AreBounds here.core sees head.0.bounds head.1

counts : (sees : Sees) (here : Here) (at : place.Here) (direction : Direction) (head : Counter × (Tree × Tree)) (body : Statement) → Counts sees here head → Is sees here (place.in_loop at) body → Is sees here at (for_statement direction head.0 head.1 body)
counts sees here at direction head body h k =
    let first = as_typed here.core sees head.0.bounds head.1.0 h.1.0 in
    let is = sym (one_ordinal here.core (typing.type_of head.1.0) head.0.bounds h.0.0 first.1) in (
      subst (λ to. IsVariable sees here.core head.0.variable (λ of. Bounds here.core of (type_at here.core of) to)) is h.0.1,
      first.0,
      subst (λ to. IsValue here.core sees to head.1.1) is h.1.1,
      k,
    )

bounds_whole : {sees : Sees} {here : Here} → IsSettled sees here → (n : Name) (e f : Expression) → Whole (Counts sees here) (checked (paired (counter here n) (given (counter here n) (λ c. paired (bound_of here c e) (bound_of here c f)))))
bounds_whole {sees} {here} s n e f =
    whole_upon {R = Counts sees here} (λ c bounds. (c, bounds)) (λ c. checked (paired (bound_of here c e) (bound_of here c f))) (counter_whole s n)
    (λ c h. whole_two {R = AreBounds here.core sees c.bounds} (λ a b. (a, b)) (given_to_whole s c.bounds false e) (given_to_whole s c.bounds false f) (λ x y p q. (p, q)))
    (λ c bounds h k. (h, k))

abbrev Selects : Sees → Here → place.Here → Tree × Branches → Type 0
Selects sees here at head = Has IsOrdinal here.core sees head.0 × AreBranches here.core sees at (typing.type_of head.0) head.1

-- the selector of a case, with its branches
head_whole : {sees : Sees} {here : Here} (at : place.Here) → IsSettled sees here → (e : Expression) (bs : tree.Branches) → ((of : TypeId) → IsTrue (is_whole (type_at here.core of)) → Whole (AreBranches here.core sees at of) (checked (branches here (Some of) bs))) → Whole (Selects sees here at) (checked (case_head here e bs (λ of. branches here of bs)))
head_whole {sees} {here} at s e bs g =
    whole_followed (whole_upon {R = Selects sees here at} (λ e bs. (e, bs)) (λ o. checked (branches here (type_in o) bs)) (selector_whole s e) (λ t h. g (typing.type_of t) h.1) (λ t bs h k. ((h.0, (kind_of_whole here.core (typing.type_of t) h.1).ordinal), k)))
    (λ head h. once_whole h (repeated (all_spots here (type_in (checked (selector here e)).typed) bs)))

mutual
  pub statement_whole : {sees : Sees} {here : Here} (at : place.Here) → IsSettled sees here → Surrounds here at → (x : tree.Statement) → Whole (Is sees here at) (checked (statement here x))
  statement_whole at s r tree.empty = whole_gives tt
  statement_whole at s r (tree.block ss) = whole_changed_so block (statements_whole at s r ss) (λ x h. h)
  statement_whole at s r (tree.if_then e x) = whole_two if_then (condition_whole s e) (statement_whole at s r x) (λ e x h k. (h, k))
  statement_whole {sees} {here} at s r (tree.if_else e x y) =
      whole_two (λ (p : Tree × Statement) y. if_else p.0 p.1 y)
      (whole_two {R = λ p. Has IsBoolean here.core sees p.0 × Is sees here at p.1} (λ e x. (e, x)) (condition_whole s e) (statement_whole at s r x) (λ e x h k. (h, k)))
      (statement_whole at s r y) (λ p y h k. (h.0, h.1, k))
  statement_whole {sees} {here} at s r (tree.case_of e bs) = whole_two case_statement (head_whole at s e bs (λ of w. branches_whole at s r of w bs)) (whole_gives {P = AreStatements here.core sees at} tt) (λ head ss h k. (h.0, h.1, k))
  statement_whole at s r (tree.case_else e bs ss) = whole_two case_statement (head_whole at s e bs (λ of w. branches_whole at s r of w bs)) (statements_whole at s r ss) (λ head ss h k. (h.0, h.1, k))
  statement_whole at s r (tree.while_do e x) =
      whole_two while_do (condition_whole s e) (statement_whole (place.in_loop at) (settled_within (Loop None) s) (looped_within None r) x) (λ e x h k. (h, k))
  statement_whole at s r (tree.repeat_until ss e) =
      whole_two repeat_until (statements_whole (place.in_loop at) (settled_within (Loop None) s) (looped_within None r) ss) (condition_whole s e) (λ ss e h k. (h, k))
  statement_whole {sees} {here} at s r (tree.for_to n e direction f x) =
      let id = option_map (λ c. c.variable) (checked (counter here n)).typed in
      whole_two (λ (head : Counter × (Tree × Tree)) x. for_statement direction head.0 head.1 x) (bounds_whole s n e f)
      (statement_whole (place.in_loop at) (settled_within (Loop id) s) (looped_within id r) x) (λ head x h k. counts sees here at direction head x h k)
  statement_whole at s r (tree.for_in n e x) = whole_rule
  statement_whole at s r (tree.try_finally ss ts) =
      whole_two try_finally (statements_whole at s r ss) (statements_whole (place.in_finally at) (settled_within Finally s) (finally_part r) ts) (λ ss ts h k. (h, k))
  statement_whole at s r (tree.try_except ss ts) = whole_after whole_rule
  statement_whole {sees} {here} at s r (tree.try_on ss hs) = tried_whole (first_class hs) (statements here ss) (changed block (statements here ss)) (whole_changed_so block (statements_whole at s r ss) (λ x h. h))
  statement_whole at s r (tree.try_on_else ss hs ts) = whole_after whole_rule
  statement_whole at s r (tree.raise p e) = whole_rule
  statement_whole at s r (tree.reraise p) = whole_rule
  statement_whole at s r (tree.inherited p) = whole_rule
  statement_whole at s r (tree.inherited_call p d) = whole_rule
  statement_whole {sees} {here} at s r (tree.call d) = called_whole at s r d (called here.visible d)
  statement_whole {sees} {here} at s r (tree.assign d p e) =
      whole_upon assign (λ t. checked (stored here (option_map typing.type_of t) p.switches.r e)) (target_whole s d) (λ t h. given_to_whole s (typing.type_of t) p.switches.r e) (λ t e h k. (h.0, h.1, k))

  branches_whole : {sees : Sees} {here : Here} (at : place.Here) → IsSettled sees here → Surrounds here at → (of : TypeId) → IsTrue (is_whole (type_at here.core of)) → (bs : tree.Branches) → Whole (AreBranches here.core sees at of) (checked (branches here (Some of) bs))
  branches_whole at s r of w tree.no_branches = whole_gives tt
  branches_whole {sees} {here} at s r of w (tree.branches es x bs) =
      whole_two with_branch
      (whole_two {R = λ (b : List Label × Statement). All (IsLabel here.core of) b.0 × Is sees here at b.1} (λ ls x. (ls, x)) (branch_labels_whole s of w es) (statement_whole at s r x) (λ ls x h k. (h, k)))
      (branches_whole at s r of w bs) (λ b bs h k. (h.0, h.1, k))

  pub statements_whole : {sees : Sees} {here : Here} (at : place.Here) → IsSettled sees here → Surrounds here at → (xs : tree.Statements) → Whole (AreStatements here.core sees at) (checked (statements here xs))
  statements_whole at s r tree.no_statements = whole_gives tt
  statements_whole at s r (tree.statements x xs) = whole_two core_statements (statement_whole at s r x) (statements_whole at s r xs) (λ x xs h k. (h, k))
