-- Where tables and names are fit, each expression that has a type is fit.
use Rattle.std.proofs.Common.{◌≡◌, ℕ, suc, pos, Bool, true, false, ◌&&◌, List, [], ◌∷◌, ◌++◌, slice_get, Option, Some, None, refl, subst, arith, if◌then◌else◌}
use Rattle.std.proofs.lemmas.Bool.{and_from, and_parts}
use Rattle.std.proofs.lemmas.Option.{none-some}
use Rattle.std.specs.Option.{IfSome, option_and_then, option_map}
use Rattle.std.specs.Prelude.{position}
use Rattle.op_base.specs.declared.place.Place.{Place}
use Rattle.op_check_expr.specs.Calling.{behind, call_of, call_tree, given_behind, given_first, parameters_for, parameters_in, plan_for, plan_of, result_type}
use Rattle.op_check_expr.specs.Constructors.{Member, is_small}
use Rattle.op_check_expr.specs.Constructors as made
use Rattle.op_check_expr.specs.Expressions as means
use Rattle.op_check_expr.specs.Expressions.{call_means, member_by, position_of, position_of_designator, ranged, settled, settled_by, still_at_position, text_denoted, value_in, with_member}
use Rattle.op_check_expr.specs.Phrases as phrase
use Rattle.op_check_expr.specs.Phrases.{alone_behind, alone_by, alone_value, is_call, is_own, is_result, last_call, own_result, result_at, result_denoted, result_first, result_in, result_named, routine_alone, routine_in, selectors_behind, target_by, target_from}
use Rattle.op_check_expr.specs.Naming as naming
use Rattle.op_check_expr.specs.Naming.{Denoted, Meant, number_at}
use Rattle.op_check_expr.specs.Scopes.{Here}
use Rattle.op_check_expr.specs.Values.{Value, constant, computed, in_brackets, tree_of, type_of}
use Rattle.op_check_expr.specs.declared.call.Plan.{Plan}
use Rattle.op_check_expr.specs.declared.call.Plan.TheVariants as plan
use Rattle.op_core.proofs.Growing.{all_at}
use Rattle.op_core.specs.Expression.{Argument as GivenArgument, Arguments as GivenArguments, no_arguments as none_given, arguments as more_given, bracket as bracket_step}
use Rattle.op_core.specs.Faults.{Checked, both, none as no_faults}
use Rattle.op_core.specs.Rows.{rows}
use Rattle.op_core.specs.Sizes.{type_at}
use Rattle.op_core.specs.Typing as typing
use Rattle.op_core.specs.declared.constant.Const.TheVariants.{Text}
use Rattle.op_core.specs.declared.ids.RoutineId.{RoutineId}
use Rattle.op_core.specs.declared.ids.TypeId.{TypeId}
use Rattle.op_core.specs.declared.ids.VariableId.{VariableId}
use Rattle.op_core.specs.declared.program.Core.{Core}
use Rattle.op_core.specs.declared.routine.Parameter.{Parameter}
use Rattle.op_core.specs.declared.routine.Routine.{Routine}
use Rattle.op_core.specs.declared.routine.Variable.{Variable as VariableRow}
use Rattle.op_plain.specs.Plain.{are_plain_arguments, is_plain_argument}
use Rattle.op_tree.specs.Expression.{Expression, chain, prefixed, number, nil, set, literal, designated, inherited, Operations, no_operations, operation, Elements, no_elements, elements, Element, one, range, Designator, designator, Root, named, string, bracketed, Selectors, no_selectors, selectors, Selector, member, index, call, Expressions, no_expressions, expressions, Arguments, no_arguments, arguments, Argument, value, padded, rounded}
use Rattle.op_tree.specs.declared.position.Name.{Name}
use Rattle.op_tree.specs.declared.position.Position.{Position}
use Rattle.op_types.specs.Assignable.{assignable}
use Rattle.op_types.specs.Operators as table
use Rattle.op_types.specs.Names.{lower, meaning_of}
use Rattle.op_types.specs.declared.constant.Applied.{Applied}
use Rattle.op_typing.specs.Simple.{IsSolidType, is_solid}
use Rattle.op_judgement.specs.Judgement.{Judgement, both_typed, checked}
use Rattle.op_accepted.specs.Fit.{IfAny, IfTyped, IsFitHere, IsFitTables, IsFitTree, IsFitValue, IsSolidTree, any_text, none, some, typed}
use Rattle.op_accepted.proofs.ConstantParts.{bound_fits, brackets_fit, nodes_count, numeral_fits, text_fits}
use Rattle.op_accepted.proofs.Constructors.{AreFitMembers, IsFitMember, members_behind, set_of_fits}
use Rattle.op_accepted.proofs.Leaves.{IsFitArgument, IsFitDenoted, field_fits, indexed_fits, name_fits, number_fits, passed_fits, row_is, stored_fits, target_value_fits, variable_tree_fits, variable_value_fits}
use Rattle.op_accepted.proofs.Operations.{operation_fits, prefix_of_fits, used_fits}
use Rattle.op_accepted.proofs.Parts.{any_map, fits_any, fits_behind, fits_changed, fits_fine, fits_followed, fits_silent, fits_standing, fits_test, fits_with}
use Rattle.op_accepted.proofs.Solid.{nothing_solid, string_is}
use Rattle.op_accepted.proofs.Trees.{as_type_fits, open_step, tree_fits}
use Rattle.op_core.proofs.Agreeing.{some_is}
use Rattle.op_judgement.specs.declared.rules.LanguageRule.TheVariants.{NoSetElement, NoStatement, NotAssignable}
use Rattle.op_types.specs.ConstantParts.{joined_name, number_behind, text_constant}

-- ---- calls

abbrev pub AreFitArguments : Core → GivenArguments → Type 0
AreFitArguments core args = are_plain_arguments any_text core args ≡ true

abbrev EachSolid : Core → List Parameter → Type 0
EachSolid core ps = (n : ℕ) (p : Parameter) → slice_get ps n ≡ Some p → IsSolidType core p.of

parameters_solid : {here : Here} → IsFitHere here → (plan : Option Plan) → EachSolid here.core (parameters_for here plan)
parameters_solid {here} s (Some (plan.Routine id)) n p e = go (slice_get here.core.routines id.0) e
  where
    go : (o : Option Routine) → slice_get (parameters_in here o) n ≡ Some p → IsSolidType here.core p.of
    go (Some r) e = row_is (λ p. IsSolidType here.core p.of) here.core.parameters r.parameters n p s.tables.parameters e
    go None e = absurd (none-some _ e)
parameters_solid s plan n p e = absurd (none-some _ e)

result_solid : {core : Core} → IsFitTables core → (result : Option TypeId) → IfSome result (IsSolidType core) → IsSolidType core (result_type result)
result_solid t None h = nothing_solid t
result_solid t (Some of) h = h

call_tree_fits : {here : Here} → IsFitHere here → (id : RoutineId) (args : GivenArguments) → AreFitArguments here.core args → IfAny (IsFitValue here.core) (option_map (call_tree id args) (slice_get here.core.routines id.0))
call_tree_fits {here} s id args h = go (slice_get here.core.routines id.0) refl
  where
    go : (o : Option Routine) → slice_get here.core.routines id.0 ≡ o → IfAny (IsFitValue here.core) (option_map (call_tree id args) o)
    go None e = none
    go (Some r) e =
        let solid = result_solid s.tables r.result (all_at (λ r. IfSome r.result (IsSolidType here.core)) here.core.routines id.0 r s.tables.results e) in
        let root = and_from (is_solid (type_at here.core (result_type r.result))) (are_plain_arguments any_text here.core args) solid h in
        some (call_tree id args r) ((and_from (is_solid (type_at here.core (result_type r.result)) && are_plain_arguments any_text here.core args) true root refl, solid), refl, refl)

call_of_fits : {here : Here} → IsFitHere here → (plan : Option Plan) {o : Option GivenArguments} → IfAny (AreFitArguments here.core) o → IfAny (IsFitValue here.core) (call_of here plan o)
call_of_fits s (Some (plan.Routine id)) none = none
call_of_fits s (Some (plan.Routine id)) (some args k) = call_tree_fits s id args k
call_of_fits s plan h = none

first_fits : (core : Core) (plan : Option Plan) → IfAny (AreFitArguments core) (given_first plan)
first_fits core (Some (plan.Routine id)) = some none_given refl
first_fits core plan = none

-- what is given, by what the one argument and all arguments are
abbrev GivesFit : Core → (List Parameter → Option GivenArguments → Judgement GivenArguments) → Type 0
GivesFit core given = (ps : List Parameter) → EachSolid core ps → (o : Option GivenArguments) → IfAny (AreFitArguments core) o → IfTyped (AreFitArguments core) (checked (given ps o))

abbrev IsFitSole : Core → (Applied → Position → Judgement Value) → Type 0
IsFitSole core sole = (what : Applied) (p : Position) → IfTyped (IsFitValue core) (checked (sole what p))

call_means_fits : {here : Here} → IsFitHere here → (plan : Option Plan) (sole : Applied → Position → Judgement Value) (given : List Parameter → Option GivenArguments → Judgement GivenArguments) → IsFitSole here.core sole → GivesFit here.core given → IfTyped (IsFitValue here.core) (checked (call_means here plan sole given))
call_means_fits {here} s (Some (plan.Bound f of at)) sole given h k = fits_changed constant (bound_fits here.core f (of, at)) (λ c q. q)
call_means_fits s (Some (plan.Sole what p)) sole given h k = h what p
call_means_fits {here} s plan sole given h k = fits_followed (k (parameters_for here plan) (parameters_solid s plan) (given_first plan) (first_fits here.core plan)) (λ o i. fits_standing (call_of_fits s plan i))

-- ---- names

settled_by_fits : {here : Here} → IsFitHere here → (p : Position) (what : Meant) → IsFitDenoted here.core (naming.denoted p what) → IfTyped (IsFitValue here.core) (checked (settled_by here p what))
settled_by_fits s p (naming.value v) h = fits_fine h
settled_by_fits s p (naming.type_name of) h = fits_silent
settled_by_fits {here} s p what h = fits_followed (fits_any (checked (plan_for here false p what no_arguments))) (λ plan i. fits_standing (call_of_fits s plan (first_fits here.core plan)))

settled_fits : {here : Here} → IsFitHere here → (d : Denoted) → IsFitDenoted here.core d → IfTyped (IsFitValue here.core) (checked (settled here d))
settled_fits s d h = settled_by_fits s d.position d.what h

member_fits : {here : Here} → IsFitHere here → (m : Name) (d : Denoted) (what : Meant) → IsFitDenoted here.core d → IfTyped (IsFitDenoted here.core) (checked (member_by here m d what))
member_fits s m d (naming.unit text) h = name_fits s (joined_name text m.text) m.text m.position
member_fits s m d what h = fits_behind (settled_fits s d h) (λ v k. field_fits s.tables m v k)

still_fits : (core : Core) (d : Option Denoted) {c : Checked Value} → IfTyped (IsFitValue core) c → IfTyped (IsFitDenoted core) (record { typed = still_at_position (means.position_of_denoted d) c.typed; faults = both no_faults c.faults })
still_fits core None h = typed none
still_fits core (Some d) {c} (typed h) = typed (go c.typed h)
  where
    go : (o : Option Value) → IfAny (IsFitValue core) o → IfAny (IsFitDenoted core) (still_at_position (Some d.position) o)
    go None none = none
    go (Some v) (some _ h) = some (naming.valued d.position v) h

-- ---- lists

any_member : (core : Core) {o : Option (List Member)} {q : Option Member} → IfAny (AreFitMembers core) o → IfAny (IsFitMember core) q → IfAny (AreFitMembers core) (with_member o q)
any_member core none k = none
any_member core (some ms h) none = none
any_member core (some ms h) (some m k) = some (ms ++ m ∷ []) (members_behind core ms m h k)

any_range : (core : Core) (at at' : Place) {o q : Option Value} → IfAny (IsFitValue core) o → IfAny (IsFitValue core) q → IfAny (IsFitMember core) (both_typed (ranged at at') o q)
any_range core at at' none k = none
any_range core at at' (some a h) none = none
any_range core at at' (some a h) (some b k) = some (made.range at a at' b) (h, k)

range_fits : (core : Core) (at at' : Place) {a b : Checked Value} → IfTyped (IsFitValue core) a → IfTyped (IsFitValue core) b → IfTyped (IsFitMember core) (record { typed = both_typed (ranged at at') a.typed b.typed; faults = both a.faults b.faults })
range_fits core at at' (typed h) (typed k) = typed (any_range core at at' h k)

arguments_behind : (core : Core) (args : GivenArguments) (a : GivenArgument) → AreFitArguments core args → IsFitArgument core a → AreFitArguments core (behind args a)
arguments_behind core none_given a h k = and_from (is_plain_argument any_text core a) true k refl
arguments_behind core (more_given x xs) a h k =
    let both = and_parts (is_plain_argument any_text core x) (are_plain_arguments any_text core xs) h in
    and_from (is_plain_argument any_text core x) (are_plain_arguments any_text core (behind xs a)) both.0 (arguments_behind core xs a both.1 k)

any_arguments : (core : Core) {o : Option GivenArguments} {q : Option GivenArgument} → IfAny (AreFitArguments core) o → IfAny (IsFitArgument core) q → IfAny (AreFitArguments core) (given_behind o q)
any_arguments core none k = none
any_arguments core (some args h) none = none
any_arguments core (some args h) (some a k) = some (behind args a) (arguments_behind core args a h k)

brackets_fits : (core : Core) (v : Value) → IsFitValue core v → IsFitValue core (in_brackets v)
brackets_fits core (constant c) h = brackets_fit core c h
brackets_fits core (computed e) h = open_step core e bracket_step (typing.type_of e) (h.0.0, h.2) refl h.0.1 h.0.1

-- ---- expressions

mutual
  pub value_fits : (here : Here) → IsFitHere here → (wanted : Option TypeId) (e : Expression) → IfTyped (IsFitValue here.core) (checked (value_in here wanted e))
  value_fits here s wanted (chain first rest) = fits_followed (value_fits here s None first) (λ a h. operations_fit here s (position_of first).place rest h)
  value_fits here s wanted (prefixed o p e) = number_fits s.tables (number_behind o e) _ (fits_behind (value_fits here s None e) (λ v h. prefix_of_fits s.tables o p v h))
  value_fits here s wanted (number n p) = fits_changed constant (numeral_fits s.tables p.place 1 (pos n) (omega arith)) (λ c q. q)
  value_fits here s wanted (nil p) = fits_silent
  value_fits here s wanted (set p es) = fits_behind (members_fit here s es (some [] tt)) (λ ms h. set_of_fits s.tables wanted ms h)
  value_fits here s wanted (literal text p no_selectors) = typed (some (constant (text_constant text)) (text_fits s.tables text))
  value_fits here s wanted (literal text p (selectors x xs)) =
      fits_behind (selected_fits here s (selectors x xs) (some (text_denoted p text) (nodes_count (Text text) table.string 1 (omega arith), string_is s.tables))) (λ d k. settled_fits s d k)
  value_fits here s wanted (designated d) = fits_behind (designator_fits here s d) (λ d k. settled_fits s d k)
  value_fits here s wanted (inherited p d) = fits_silent

  operations_fit : (here : Here) → IsFitHere here → (start : Place) (rest : Operations) {o : Option Value} → IfAny (IsFitValue here.core) o → IfTyped (IsFitValue here.core) (checked (means.operations here start o rest))
  operations_fit here s start no_operations h = fits_standing h
  operations_fit here s start (operation o p e others) h = fits_followed (value_fits here s None e) (λ b k. fits_followed (operation_fits s.tables start o p h k) (λ c i. operations_fit here s start others i))

  members_fit : (here : Here) → IsFitHere here → (es : Elements) {o : Option (List Member)} → IfAny (AreFitMembers here.core) o → IfTyped (AreFitMembers here.core) (checked (means.members here o es))
  members_fit here s no_elements h = fits_standing h
  members_fit here s (elements e es) h = fits_followed (member_in_fits here s e) (λ m k. members_fit here s es (any_member here.core h k))

  member_in_fits : (here : Here) → IsFitHere here → (e : Element) → IfTyped (IsFitMember here.core) (checked (means.member_in here e))
  member_in_fits here s (one e) = fits_changed (made.one (position_of e).place) (value_fits here s None e) (λ v h. h)
  member_in_fits here s (range e f) = range_fits here.core (position_of e).place (position_of f).place (value_fits here s None e) (value_fits here s None f)

  designator_fits : (here : Here) → IsFitHere here → (d : Designator) → IfTyped (IsFitDenoted here.core) (checked (means.designator_of here d))
  designator_fits here s (designator root ss) = fits_followed (root_fits here s root) (λ d h. selected_fits here s ss h)

  root_fits : (here : Here) → IsFitHere here → (root : Root) → IfTyped (IsFitDenoted here.core) (checked (means.root_of here root))
  root_fits here s (named n) = name_fits s (lower n.text) n.text n.position
  root_fits here s (string p) = fits_silent
  root_fits here s (bracketed p e) = fits_changed (λ v. naming.valued p (in_brackets v)) (value_fits here s None e) (λ v h. brackets_fits here.core v h)

  selected_fits : (here : Here) → IsFitHere here → (ss : Selectors) {o : Option Denoted} → IfAny (IsFitDenoted here.core) o → IfTyped (IsFitDenoted here.core) (checked (means.selected here o ss))
  selected_fits here s no_selectors h = fits_standing h
  selected_fits here s (selectors x xs) h = fits_followed (select_fits here s x h) (λ c k. selected_fits here s xs k)

  select_fits : (here : Here) → IsFitHere here → (x : Selector) {o : Option Denoted} → IfAny (IsFitDenoted here.core) o → IfTyped (IsFitDenoted here.core) (checked (means.select here o x))
  select_fits here s (member m) h = fits_with h (λ d k. member_fits s m d d.what k)
  select_fits here s (index p es) {o} h = still_fits here.core o (fits_followed (fits_with h (λ d k. settled_fits s d k)) (λ a k. elements_fit here s p.place es k))
  select_fits here s (call args) {o} h =
      still_fits here.core o (fits_followed (fits_any (checked (plan_of here false o args))) (λ plan i.
      call_means_fits s plan (λ what p. means.sole here what p args) (λ ps so_far. means.given here ps so_far args) (sole_fits here s args) (λ ps q o k. arguments_fit here s args ps q k)))

  elements_fit : (here : Here) → IsFitHere here → (bracket : Place) (es : Expressions) {o : Option Value} → IfAny (IsFitValue here.core) o → IfTyped (IsFitValue here.core) (checked (means.elements_at here bracket o es))
  elements_fit here s bracket no_expressions h = fits_standing h
  elements_fit here s bracket (expressions e es) h = fits_followed (value_fits here s None e) (λ v k. fits_followed (indexed_fits s.tables bracket (position_of e).place h k) (λ b i. elements_fit here s bracket es i))

  sole_fits : (here : Here) → IsFitHere here → (args : Arguments) → IsFitSole here.core (λ what p. means.sole here what p args)
  sole_fits here s (arguments (value e) no_arguments) what p = fits_behind (value_fits here s None e) (λ v h. used_fits s.tables p what (position_of e).place v h)
  sole_fits here s args what p = fits_silent

  arguments_fit : (here : Here) → IsFitHere here → (args : Arguments) (ps : List Parameter) → EachSolid here.core ps → {o : Option GivenArguments} → IfAny (AreFitArguments here.core) o → IfTyped (AreFitArguments here.core) (checked (means.given here ps o args))
  arguments_fit here s no_arguments ps q h = fits_standing h
  arguments_fit here s (arguments a others) [] q h = fits_followed (argument_fits here s a None none) (λ b k. arguments_fit here s others [] q (any_arguments here.core h k))
  arguments_fit here s (arguments a others) (p ∷ ps) q h = fits_followed (argument_fits here s a (Some p) (some p (q 0 p refl))) (λ b k. arguments_fit here s others ps (λ n p e. q (suc n) p e) (any_arguments here.core h k))

  argument_fits : (here : Here) → IsFitHere here → (a : Argument) (p : Option Parameter) → IfAny (λ p. IsSolidType here.core p.of) p → IfTyped (IsFitArgument here.core) (checked (means.argument here p a))
  argument_fits here s (value e) None h = fits_behind (fits_any (checked (value_in here None e))) (λ v i. fits_silent)
  argument_fits here s (value e) (Some p) (some _ h) = fits_behind (value_fits here s (Some p.of) e) (λ v k. passed_fits here s.tables p (position_of e) v h k)
  argument_fits here s (padded e width) p h = fits_silent
  argument_fits here s (rounded e width digits) p h = fits_silent

-- a call, by what is called
call_fits : {here : Here} → IsFitHere here → (plan : Option Plan) (args : Arguments) → IfTyped (IsFitValue here.core) (checked (means.called here plan args))
call_fits {here} s plan args = call_means_fits s plan (λ what p. means.sole here what p args) (λ ps so_far. means.given here ps so_far args) (sole_fits here s args) (λ ps q o k. arguments_fit here s args ps q k)

-- ---- what statements are made of

pub value_of_fits : (here : Here) → IsFitHere here → (wanted : Option TypeId) (e : Expression) → IfTyped (IsFitValue here.core) (checked (phrase.value here wanted e))
unfolding phrase.value
value_of_fits here s wanted e = value_fits here s wanted e

pub given_fits : (here : Here) → IsFitHere here → (to : TypeId) → IsSolidType here.core to → (ranges : Bool) (e : Expression) → IfTyped (IsFitTree here.core) (checked (phrase.given here to ranges e))
unfolding phrase.given
given_fits here s to solid ranges e = fits_behind (value_fits here s (Some to) e) (λ v h. stored_fits s.tables (position_of e).place ranges to v h solid)

pub variable_fits : (here : Here) → IsFitHere here → (of : Option TypeId) (e : Expression) → IfTyped (IsSolidTree here.core) (checked (phrase.variable here of e))
unfolding phrase.variable
variable_fits here s of e = fits_behind (value_fits here s None e) (λ v h. variable_value_fits here (position_of e).place of v h)

pub element_fits : (here : Here) → IsFitHere here → (base : TypeId) → IsSolidType here.core base → (e : Expression) → IfTyped (IsFitTree here.core) (checked (phrase.element here base e))
unfolding phrase.element
element_fits here s base solid e =
    fits_behind (value_fits here s None e) (λ v h. fits_test NotAssignable (position_of e).place (assignable here.core (type_of v) base) (λ a. fits_test NoSetElement (position_of e).place (is_small v) (λ _. fits_fine (as_type_fits here.core s.tables true base v h solid a))))

-- the result of the routine whose body this is
own_fits : {here : Here} → IsFitHere here → (id : RoutineId) (v : VariableId × TypeId) → own_result here id ≡ Some v → IsSolidType here.core v.1
own_fits {here} s id v e = go (is_own here.routine id) e
  where
    at : (r : Routine) (k : ℕ) (n : Option ℕ) (o : Option VariableRow) → slice_get (rows here.core.variables r.variables) k ≡ o → option_and_then (λ n. option_map (λ v. (record { 0 = n }, v.of)) o) n ≡ Some v → IsSolidType here.core v.1
    at r k (Some n) (Some x) q e = subst (λ v. IsSolidType here.core v.1) (some_is e) (row_is (λ v. IsSolidType here.core v.of) here.core.variables r.variables k x s.tables.variables q)
    at r k (Some n) None q e = absurd (none-some _ e)
    at r k None o q e = absurd (none-some _ e)

    by : (r : Routine) (o : Option ℕ) → option_and_then (result_at r.variables (rows here.core.variables r.variables)) o ≡ Some v → IsSolidType here.core v.1
    by r (Some k) e = at r k (number_at r.variables k) (slice_get (rows here.core.variables r.variables) k) refl e
    by r None e = absurd (none-some _ e)

    in_row : (o : Option Routine) → result_in here.core o ≡ Some v → IsSolidType here.core v.1
    in_row (Some r) e = by r (position is_result (rows here.core.variables r.variables)) e
    in_row None e = absurd (none-some _ e)

    go : (b : Bool) → (if b then result_in here.core (slice_get here.core.routines id.0) else None) ≡ Some v → IsSolidType here.core v.1
    go true e = in_row (slice_get here.core.routines id.0) e
    go false e = absurd (none-some _ e)

target_by_fits : (here : Here) → IsFitHere here → (d : Designator) (id : Option RoutineId) → IfTyped (IsSolidTree here.core) (checked (target_by here d id))
target_by_fits here s d (Some id) = fits_silent
target_by_fits here s d None = fits_behind (value_fits here s None (designated d)) (λ v k. target_value_fits here (position_of_designator d).place v k)

result_named_fits : {here : Here} → IsFitHere here → (n : Name) → IfAny (IsFitDenoted here.core) (result_named here n)
result_named_fits {here} s n = go (routine_in (meaning_of here.visible (lower n.text)))
  where
    at : (o : Option (VariableId × TypeId)) → ((v : VariableId × TypeId) → o ≡ Some v → IsSolidType here.core v.1) → IfAny (IsFitDenoted here.core) (option_map (result_denoted n.position) o)
    at (Some v) h = some (result_denoted n.position v) (variable_tree_fits here.core v.0 v.1 (h v refl))
    at None h = none

    go : (o : Option RoutineId) → IfAny (IsFitDenoted here.core) (option_map (result_denoted n.position) (option_and_then (own_result here) o))
    go (Some id) = at (own_result here id) (λ v e. own_fits s id v e)
    go None = none

result_first_fits : {here : Here} → IsFitHere here → (d : Designator) → IfAny (IsFitDenoted here.core) (result_first here d)
result_first_fits s (designator (named n) (selectors (call args) ss)) = none
result_first_fits s (designator (named n) ss) = result_named_fits s n
result_first_fits s d = none

target_from_fits : (here : Here) → IsFitHere here → (d : Designator) {o : Option Denoted} → IfAny (IsFitDenoted here.core) o → IfTyped (IsSolidTree here.core) (checked (target_from here d o))
target_from_fits here s d (some r h) = fits_behind (fits_behind (selected_fits here s (selectors_behind d) (some r h)) (λ c k. settled_fits s c k)) (λ v k. target_value_fits here (position_of_designator d).place v k)
target_from_fits here s d none = target_by_fits here s d (routine_alone here d)

pub target_fits : (here : Here) → IsFitHere here → (d : Designator) → IfTyped (IsSolidTree here.core) (checked (phrase.target here d))
unfolding phrase.target
target_fits here s d = target_from_fits here s d (result_first_fits s d)

-- ---- a call alone

any_tree : (core : Core) {o : Option Value} → IfAny (IsFitValue core) o → IfAny (IsFitTree core) (option_map tree_of o)
any_tree core h = any_map tree_of h (λ v k. tree_fits core v k)

alone_value_fits : (core : Core) (start : Place) (b : Bool) {o : Option Value} → IfAny (IsFitValue core) o → IfTyped (IsFitTree core) (checked (alone_value start b o))
alone_value_fits core start b h = fits_test NoStatement start b (λ _. fits_standing (any_tree core h))

alone_fits : {here : Here} → IsFitHere here → (start : Place) (d : Denoted) (what : Meant) → IfTyped (IsFitTree here.core) (checked (alone_by here start d what))
alone_fits s start d (naming.value v) = fits_silent
alone_fits s start d (naming.type_name of) = fits_silent
alone_fits {here} s start d what = fits_followed (fits_any (checked (plan_for here true d.position what no_arguments))) (λ plan i. fits_standing (any_tree here.core (call_of_fits s plan (first_fits here.core plan))))

alone_behind_fits : (here : Here) → IsFitHere here → (start : Place) (ss : Selectors) (r : Option (Selectors × Arguments)) {o : Option Denoted} → IfAny (IsFitDenoted here.core) o → IfTyped (IsFitTree here.core) (checked (alone_behind here start o ss r))
alone_behind_fits here s start ss None h = fits_behind (selected_fits here s ss h) (λ d k. alone_fits s start d d.what)
alone_behind_fits here s start ss (Some r) h =
    fits_followed (selected_fits here s r.0 h) (λ c k. fits_followed (fits_any (checked (plan_of here true c r.1))) (λ plan i.
    fits_followed (call_fits s plan r.1) (λ v q. alone_value_fits here.core start (is_call plan) q)))

pub called_alone_fits : (here : Here) → IsFitHere here → (d : Designator) → IfTyped (IsFitTree here.core) (checked (phrase.call_alone here d))
unfolding phrase.call_alone
called_alone_fits here s (designator root ss) = fits_followed (root_fits here s root) (λ d h. alone_behind_fits here s (position_of_designator (designator root ss)).place ss (last_call ss) h)
