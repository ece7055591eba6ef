-- Where all names stand for what is there, each expression is sound or breaks a rule.
use Rattle.std.proofs.Common.{◌≡◌, ℕ, pred, pos, nat_eq, Bool, ◌||◌, is_some, true, false, List, [], ◌∷◌, ◌++◌, append_assoc, append-nil, length, slice_get, Option, Some, None, refl, sym, ap, subst, ◌∙◌, arith}
use Rattle.std.proofs.lemmas.Bool.{and_parts, eqb-true, false≢true}
use Rattle.std.proofs.lemmas.Option.{none-some}
use Rattle.std.specs.Option.{option_and_then, option_map}
use Rattle.std.specs.Prelude.{if◌then◌else◌, position}
use Rattle.op_base.specs.declared.place.Place.{Place}
use Rattle.op_judgement.proofs.Completing.{whole_behind, whole_changed_so, whole_entered, whole_followed, whole_gives, whole_rule, whole_standing, whole_tested, whole_with}
use Rattle.op_core.proofs.Growing.{all_at}
use Rattle.op_core.proofs.OneType.{one_itself}
use Rattle.op_core.proofs.Rows.{there_is}
use Rattle.op_core.specs.Expression.{Argument as GivenArgument, Arguments as GivenArguments, no_arguments as none_given, arguments as more_given, bracket as bracket_step}
use Rattle.op_core.specs.Faults.{Checked, both, front as front_faults, behind as behind_faults, none as no_faults}
use Rattle.op_core.specs.Members.{There}
use Rattle.op_core.specs.Relations.{Filled, Whole, filled, typed, faulty}
use Rattle.op_core.specs.Rows.{rows}
use Rattle.op_core.specs.Sound.{IsHeaded, Row}
use Rattle.op_core.specs.Typing as typing
use Rattle.op_core.specs.Typing.{AreArguments, GivesType, IsArgument, IsTyped, IsValue, Sees, is_place}
use Rattle.op_core.specs.declared.ids.RoutineId.{RoutineId}
use Rattle.op_core.specs.declared.ids.TypeId.{TypeId}
use Rattle.op_core.specs.declared.ids.VariableId.{VariableId}
use Rattle.op_core.specs.declared.operation.Function.{Function}
use Rattle.op_core.specs.declared.operation.Function.TheVariants.{Low, High}
use Rattle.op_core.specs.declared.program.Core.{Core}
use Rattle.op_core.specs.declared.routine.Owner.TheVariants.{Unit as OfUnit}
use Rattle.op_core.specs.declared.routine.Parameter.{Parameter}
use Rattle.op_core.specs.declared.routine.Routine.{Routine}
use Rattle.op_tree.specs.Expression.{Expression, chain, prefixed, number, nil, set, literal, designated, inherited, Operations, no_operations, operation, Elements, no_elements, elements, Element, one, range, Designator, designator, Root, named, string, bracketed, Selectors, no_selectors, selectors, Selector, member, index, call, Expressions, no_expressions, expressions, Arguments, no_arguments, arguments, value, padded, rounded}
use Rattle.op_tree.specs.declared.position.Name.{Name}
use Rattle.op_tree.specs.declared.position.Position.{Position}
use Rattle.op_judgement.specs.Judgement.{Judgement, both_typed, checked, followed, with_part}
use Rattle.op_judgement.specs.declared.rules.LanguageRule.TheVariants.{NoSetElement, NoStatement, NotAssignable, WrongArguments, WrongKindOfName}
use Rattle.op_typed.proofs.Leaves.{AreSound, AsVariable, IsSoundMember, field_whole, indexed_whole, name_whole, number_whole, operation_whole, passed_whole, prefix_whole, set_whole, sound_behind, stored_whole, target_value_whole, used_whole, variable_value_whole}
use Rattle.op_typed.proofs.Operations.{numbered}
use Rattle.op_typed.proofs.Trees.{as_type_value, tree_typed, typed_then}
use Rattle.op_check_expr.specs.Calling.{are_given, are_plain, behind, bound_plan, built_in_plan, call_of, call_tree, count_of, function_plan, given_behind, given_first, parameters_in, plan_for, plan_of, result_type, routine_plan, sole_plan}
use Rattle.op_check_expr.specs.Constructors.{Member, is_small}
use Rattle.op_check_expr.specs.Constructors as made
use Rattle.op_check_expr.specs.Expressions as means
use Rattle.op_check_expr.specs.Expressions.{call_means, member_by, position_of, position_of_designator, ranged, settled, settled_by, still_at_position, text_denoted, value_in, with_member}
use Rattle.op_check_expr.specs.Phrases as phrase
use Rattle.op_check_expr.specs.Phrases.{alone_behind, alone_by, alone_value, is_call, is_own, is_result, last_call, own_result, result_at, result_denoted, result_first, result_in, result_named, routine_alone, routine_in, selectors_behind, target_by, target_from}
use Rattle.op_check_expr.specs.Naming as naming
use Rattle.op_check_expr.specs.Naming.{Denoted, Meant, variable_tree}
use Rattle.op_check_expr.specs.Parts.{standing}
use Rattle.op_check_expr.specs.Scopes.{Here}
use Rattle.op_typed.specs.Settled.{IsKnown, IsSettled, IsSoundValue, IsThere}
use Rattle.op_check_expr.specs.Values.{Value, constant, computed, in_brackets, tree_of, type_of}
use Rattle.op_check_expr.specs.declared.call.Plan.{Plan}
use Rattle.op_check_expr.specs.declared.call.Plan.TheVariants.{Bound, Sole, Routine as RoutinePlan}
use Rattle.op_core.proofs.Agreeing.{some_is}
use Rattle.op_typed.proofs.Constants.{bound_whole, literal_sound, numeral_whole}
use Rattle.op_typed.proofs.TypeFacts.{nothing_kind, string_kind}
use Rattle.op_types.specs.Assignable.{assignable}
use Rattle.op_types.specs.ConstantParts.{joined_name, number_behind, only_value, type_named, type_of_value}
use Rattle.op_types.specs.Names.{lower, meaning_of}
use Rattle.op_types.specs.Operators as table
use Rattle.op_types.specs.declared.constant.Applied.{Applied}
use Rattle.op_types.specs.declared.constant.Applied.TheVariants.{Cast, Function as Function'}
use Rattle.op_types.specs.declared.visible.BuiltIn.{BuiltIn}
use Rattle.op_types.specs.declared.visible.BuiltIn.TheVariants.{Chr, Function as FunctionNamed}

-- one argument, a value
abbrev HasOne : Arguments → Type 0
HasOne args = (e : Expression) × (only_value args ≡ Some e)

-- what is used, and what is given to parameters
abbrev Uses : Sees → Here → Arguments → (Applied → Position → Judgement Value) → Type 0
Uses sees here args sole = (a : Applied) (p : Position) → HasOne args → Whole (IsSoundValue here.core sees) (checked (sole a p))

abbrev Gives : Sees → Here → Arguments → (List Parameter → Option GivenArguments → Judgement GivenArguments) → Type 0
Gives sees here args given = (ps : List Parameter) → are_given ps args ≡ true → Whole (AreArguments here.core sees ps) (checked (given ps (Some none_given)))

-- ---- calls

-- a routine that may be called, with its row
record Callable (sees : Sees) (here : Here) (id : RoutineId) : Type 0 where
  seen : sees.routine id
  row : Routine
  is : slice_get here.core.routines id.0 ≡ Some row

callable : (sees : Sees) (here : Here) (id : RoutineId) → sees.routine id × Row here.core.routines id.0 → Callable sees here id
callable sees here id h = let r = there_is here.core.routines id.0 h.1 in record { seen = h.0; row = r.0; is = r.1 }

gives_type : {sees : Sees} {here : Here} → IsSettled sees here → (result : Option TypeId) → GivesType here.core result (result_type result)
gives_type s None = nothing_kind s.founded
gives_type {sees} {here} s (Some of) = one_itself here.core.types of

-- what is called is there, and its arguments are such as it takes
abbrev IsSoundPlan : Sees → Here → Arguments → Plan → Type 0
IsSoundPlan sees here args (Bound f of at) = HasOne args
IsSoundPlan sees here args (Sole what p) = HasOne args
IsSoundPlan sees here args (RoutinePlan id) = (c : Callable sees here id) × (are_given (rows here.core.parameters c.row.parameters) args ≡ true)

routine_plan_whole : (sees : Sees) (here : Here) (alone : Bool) (p : Position) (id : RoutineId) (args : Arguments) (c : Callable sees here id) → Whole (IsSoundPlan sees here args) (checked (with_part (routine_plan here alone p id args) (slice_get here.core.routines id.0)))
routine_plan_whole sees here alone p id args c =
    subst (λ o. Whole (IsSoundPlan sees here args) (checked (with_part (routine_plan here alone p id args) o))) (sym c.is)
    (whole_tested WrongKindOfName p.place (alone || is_some c.row.result) (λ _.
    whole_tested WrongArguments p.place (are_given (rows here.core.parameters c.row.parameters) args) (λ g. whole_gives (c, g))))

sole_plan_whole : (sees : Sees) (here : Here) (p : Position) (what : Applied) (args : Arguments) → Whole (IsSoundPlan sees here args) (checked (sole_plan p what (only_value args)))
sole_plan_whole sees here p what args = whole_entered WrongArguments p.place (only_value args) (λ e q. whole_gives {a = Sole what p} (e, q))

bound_plan_whole : (sees : Sees) (here : Here) (p : Position) (f : Function) (args : Arguments) → Whole (IsSoundPlan sees here args) (checked (bound_plan p f (only_value args) (type_named here.visible args)))
bound_plan_whole sees here p f args = go (only_value args) refl
  where
    at : (e : Expression) (of : Option (TypeId × Place)) → only_value args ≡ Some e → Whole (IsSoundPlan sees here args) (checked (bound_plan p f (Some e) of))
    at e None q = whole_gives {a = Sole (Function' f) p} (e, q)
    at e (Some of) q = whole_gives {a = Bound f of.0 of.1} (e, q)

    go : (o : Option Expression) → only_value args ≡ o → Whole (IsSoundPlan sees here args) (checked (bound_plan p f o (option_and_then (type_of_value here.visible) o)))
    go None q = whole_rule
    go (Some e) q = at e (type_of_value here.visible e) q

function_plan_whole : (sees : Sees) (here : Here) (p : Position) (f : Function) (args : Arguments) → Whole (IsSoundPlan sees here args) (checked (function_plan here p f args))
function_plan_whole sees here p Low args = bound_plan_whole sees here p Low args
function_plan_whole sees here p High args = bound_plan_whole sees here p High args
function_plan_whole sees here p f args = sole_plan_whole sees here p (Function' f) args

built_in_plan_whole : (sees : Sees) (here : Here) (p : Position) (b : BuiltIn) (args : Arguments) → Whole (IsSoundPlan sees here args) (checked (built_in_plan here p b args))
built_in_plan_whole sees here p Chr args = sole_plan_whole sees here p (Cast table.char) args
built_in_plan_whole sees here p (FunctionNamed f) args = function_plan_whole sees here p f args
built_in_plan_whole sees here p b args = whole_rule

plan_for_whole : (sees : Sees) (here : Here) (alone : Bool) (p : Position) (what : Meant) (args : Arguments) → IsThere here.core sees what → Whole (IsSoundPlan sees here args) (checked (plan_for here alone p what args))
plan_for_whole sees here alone p (naming.value v) args h = whole_rule
plan_for_whole sees here alone p (naming.routine id) args h = routine_plan_whole sees here alone p id args (callable sees here id h)
plan_for_whole sees here alone p (naming.type_name of) args h = sole_plan_whole sees here p (Cast of) args
plan_for_whole sees here alone p (naming.unit text) args h = whole_rule
plan_for_whole sees here alone p (naming.built_in b) args h = built_in_plan_whole sees here p b args

plan_whole : (sees : Sees) (here : Here) (alone : Bool) (args : Arguments) {o : Option Denoted} → Filled (IsKnown here.core sees) o → Whole (IsSoundPlan sees here args) (checked (plan_of here alone o args))
plan_whole sees here alone args (filled d k) = plan_for_whole sees here alone d.position d.what args k

-- what a routine gives
routine_gives : {sees : Sees} {here : Here} → IsSettled sees here → (id : RoutineId) (c : Callable sees here id) {o : Option GivenArguments} → Filled (AreArguments here.core sees (rows here.core.parameters c.row.parameters)) o → Filled (IsSoundValue here.core sees) (call_of here (Some (RoutinePlan id)) o)
routine_gives {sees} {here} s id c (filled args a) =
    let headed = all_at (IsHeaded here.core) here.core.routines id.0 c.row s.founded.routines c.is in
    let k : There here.core.routines id.0 (λ r. (r.owner ≡ OfUnit) × GivesType here.core r.result (result_type c.row.result) × AreArguments here.core sees (rows here.core.parameters r.parameters) args) = rw c.is (headed.0, gives_type s c.row.result, a) in
    subst (λ o. Filled (IsSoundValue here.core sees) (option_map (call_tree id args) o)) (sym c.is) (filled (call_tree id args c.row) ((c.seen, k), tt))

-- what a plan gives, by what its arguments are
called_whole : {sees : Sees} {here : Here} → IsSettled sees here → (args : Arguments) (sole : Applied → Position → Judgement Value) (given : List Parameter → Option GivenArguments → Judgement GivenArguments) → Uses sees here args sole → Gives sees here args given → {o : Option Plan} → Filled (IsSoundPlan sees here args) o → Whole (IsSoundValue here.core sees) (checked (call_means here o sole given))
called_whole s args sole given uses gives (filled (Bound f of at) k) = whole_changed_so constant (bound_whole s.founded f (of, at)) (λ c q. q)
called_whole s args sole given uses gives (filled (Sole what p) k) = uses what p k
called_whole {sees} {here} s args sole given uses gives (filled (RoutinePlan id) (c, g)) =
    whole_followed (subst (λ o. Whole (AreArguments here.core sees ps) (checked (given (parameters_in here o) (Some none_given)))) (sym c.is) (gives ps g))
    (λ o a. whole_standing (routine_gives s id c a))
  where
    ps : List Parameter
    ps = rows here.core.parameters c.row.parameters

-- ---- names alone

no_parameters : (core : Core) (sees : Sees) (ps : List Parameter) → are_given ps no_arguments ≡ true → AreArguments core sees ps none_given
no_parameters core sees [] e = tt
no_parameters core sees (p ∷ ps) e = let n = eqb-true (length (p ∷ ps)) 0 (and_parts (nat_eq (length (p ∷ ps)) 0) true e).0 in absurd (omega (arith, n))

bare_gives : {sees : Sees} {here : Here} → IsSettled sees here → {o : Option Plan} → Filled (IsSoundPlan sees here no_arguments) o → Filled (IsSoundValue here.core sees) (call_of here o (given_first o))
bare_gives s (filled (Bound f of at) (e, q)) = absurd (none-some _ q)
bare_gives s (filled (Sole what p) (e, q)) = absurd (none-some _ q)
bare_gives {sees} {here} s (filled (RoutinePlan id) (c, g)) = routine_gives s id c (filled none_given (no_parameters here.core sees (rows here.core.parameters c.row.parameters) g))

bare_whole : {sees : Sees} {here : Here} → IsSettled sees here → (alone : Bool) (p : Position) (what : Meant) → IsThere here.core sees what → Whole (IsSoundValue here.core sees) (checked (followed (plan_for here alone p what no_arguments) (λ plan. standing (call_of here plan (given_first plan)))))
bare_whole {sees} {here} s alone p what h = whole_followed (plan_for_whole sees here alone p what no_arguments h) (λ o k. whole_standing (bare_gives s k))

settled_by_whole : {sees : Sees} {here : Here} → IsSettled sees here → (p : Position) (what : Meant) → IsThere here.core sees what → Whole (IsSoundValue here.core sees) (checked (settled_by here p what))
settled_by_whole s p (naming.value v) h = whole_gives h
settled_by_whole s p (naming.type_name of) h = whole_rule
settled_by_whole s p (naming.routine id) h = bare_whole s false p (naming.routine id) h
settled_by_whole s p (naming.unit text) h = bare_whole s false p (naming.unit text) h
settled_by_whole s p (naming.built_in b) h = bare_whole s false p (naming.built_in b) h

settled_whole : {sees : Sees} {here : Here} → IsSettled sees here → (d : Denoted) → IsKnown here.core sees d → Whole (IsSoundValue here.core sees) (checked (settled here d))
settled_whole s d h = settled_by_whole s d.position d.what h

member_whole : {sees : Sees} {here : Here} → IsSettled sees here → (m : Name) (d : Denoted) (what : Meant) → IsKnown here.core sees d → Whole (IsKnown here.core sees) (checked (member_by here m d what))
member_whole s m d (naming.unit text) h = name_whole s (joined_name text m.text) m.text m.position
member_whole {sees} {here} s m d (naming.value v) h = whole_behind (settled_whole s d h) (λ v k. field_whole here.core sees m v k)
member_whole {sees} {here} s m d (naming.type_name of) h = whole_behind (settled_whole s d h) (λ v k. field_whole here.core sees m v k)
member_whole {sees} {here} s m d (naming.routine id) h = whole_behind (settled_whole s d h) (λ v k. field_whole here.core sees m v k)
member_whole {sees} {here} s m d (naming.built_in b) h = whole_behind (settled_whole s d h) (λ v k. field_whole here.core sees m v k)

still_filled : (core : Core) (sees : Sees) (p : Position) {o : Option Value} → Filled (IsSoundValue core sees) o → Filled (IsKnown core sees) (still_at_position (Some p) o)
still_filled core sees p (filled v h) = filled (naming.valued p v) h

still_whole : (core : Core) (sees : Sees) {d : Option Denoted} {c : Checked Value} → Filled (IsKnown core sees) d → Whole (IsSoundValue core sees) c → Whole (IsKnown core sees) (record { typed = still_at_position (means.position_of_denoted d) c.typed; faults = both no_faults c.faults })
still_whole core sees (filled d k) (typed h) = typed (still_filled core sees d.position h)
still_whole core sees (filled d k) (faulty r i) = faulty r (behind_faults i)

-- ---- lists

filled_member : (core : Core) (sees : Sees) {o : Option (List Member)} {q : Option Member} → Filled (AreSound core sees) o → Filled (IsSoundMember core sees) q → Filled (AreSound core sees) (with_member o q)
filled_member core sees (filled ms h) (filled m k) = filled (ms ++ m ∷ []) (sound_behind core sees ms m h k)

filled_range : (core : Core) (sees : Sees) (at at' : Place) {o q : Option Value} → Filled (IsSoundValue core sees) o → Filled (IsSoundValue core sees) q → Filled (IsSoundMember core sees) (both_typed (ranged at at') o q)
filled_range core sees at at' (filled a h) (filled b k) = filled (made.range at a at' b) (h, k)

range_whole : (core : Core) (sees : Sees) (at at' : Place) {a b : Checked Value} → Whole (IsSoundValue core sees) a → Whole (IsSoundValue core sees) b → Whole (IsSoundMember core sees) (record { typed = both_typed (ranged at at') a.typed b.typed; faults = both a.faults b.faults })
range_whole core sees at at' (typed h) (typed k) = typed (filled_range core sees at at' h k)
range_whole core sees at at' (faulty r i) k = faulty r (front_faults i)
range_whole core sees at at' (typed h) (faulty r i) = faulty r (behind_faults i)

arguments_behind : (core : Core) (sees : Sees) (ps : List Parameter) (args : GivenArguments) (p : Parameter) (a : GivenArgument) → AreArguments core sees ps args → IsArgument core sees p a → AreArguments core sees (ps ++ p ∷ []) (behind args a)
arguments_behind core sees [] none_given p a h k = (k, tt)
arguments_behind core sees [] (more_given x xs) p a h k = absurd h
arguments_behind core sees (q ∷ qs) none_given p a h k = absurd h
arguments_behind core sees (q ∷ qs) (more_given x xs) p a h k = (h.0, arguments_behind core sees qs xs p a h.1 k)

filled_arguments : (core : Core) (sees : Sees) (ps : List Parameter) (p : Parameter) {o : Option GivenArguments} {q : Option GivenArgument} → Filled (AreArguments core sees ps) o → Filled (IsArgument core sees p) q → Filled (AreArguments core sees (ps ++ p ∷ [])) (given_behind o q)
filled_arguments core sees ps p (filled args h) (filled a k) = filled (behind args a) (arguments_behind core sees ps args p a h k)

brackets_sound : (core : Core) (sees : Sees) (v : Value) → IsSoundValue core sees v → IsSoundValue core sees (in_brackets v)
brackets_sound core sees (constant c) h = h
brackets_sound core sees (computed e) h = typed_then core sees e bracket_step (typing.type_of e) h refl

-- ---- expressions

mutual
  value_whole : {sees : Sees} {here : Here} → IsSettled sees here → (wanted : Option TypeId) (e : Expression) → Whole (IsSoundValue here.core sees) (checked (value_in here wanted e))
  value_whole s wanted (chain first rest) = whole_followed (value_whole s None first) (λ a h. behind_whole s (position_of first).place rest h)
  value_whole {sees} {here} s wanted (prefixed o p e) = number_whole sees s.founded (number_behind o e) _ (whole_behind (value_whole s None e) (λ v h. prefix_whole here.core sees s.founded o p v h))
  value_whole s wanted (number n p) = whole_changed_so constant (numeral_whole s.founded p.place 1 (pos n)) (λ c q. q)
  value_whole s wanted (nil p) = whole_rule
  value_whole {sees} {here} s wanted (set p es) = whole_behind (members_whole s es (filled [] tt)) (λ ms h. set_whole here.core sees s.founded wanted ms h _ refl)
  value_whole s wanted (literal text p no_selectors) = whole_gives (literal_sound s.founded text)
  value_whole s wanted (literal text p (selectors x xs)) = whole_behind (selected_whole s (selectors x xs) (filled (text_denoted p text) (string_kind s.founded))) (λ d k. settled_whole s d k)
  value_whole s wanted (designated d) = whole_behind (designator_whole s d) (λ d k. settled_whole s d k)
  value_whole s wanted (inherited p d) = whole_rule

  behind_whole : {sees : Sees} {here : Here} → IsSettled sees here → (start : Place) (rest : Operations) {o : Option Value} → Filled (IsSoundValue here.core sees) o → Whole (IsSoundValue here.core sees) (checked (means.operations here start o rest))
  behind_whole s start no_operations h = whole_standing h
  behind_whole {sees} {here} s start (operation o p e others) h =
      whole_followed (value_whole s None e) (λ b k. whole_followed (operation_whole here.core sees s.founded start o p h k) (λ c i. behind_whole s start others i))

  members_whole : {sees : Sees} {here : Here} → IsSettled sees here → (es : Elements) {o : Option (List Member)} → Filled (AreSound here.core sees) o → Whole (AreSound here.core sees) (checked (means.members here o es))
  members_whole s no_elements h = whole_standing h
  members_whole {sees} {here} s (elements e es) h = whole_followed (member_in_whole s e) (λ m k. members_whole s es (filled_member here.core sees h k))

  member_in_whole : {sees : Sees} {here : Here} → IsSettled sees here → (e : Element) → Whole (IsSoundMember here.core sees) (checked (means.member_in here e))
  member_in_whole s (one e) = whole_changed_so (made.one (position_of e).place) (value_whole s None e) (λ v h. h)
  member_in_whole {sees} {here} s (range e f) =
      range_whole here.core sees (position_of e).place (position_of f).place (value_whole s None e) (value_whole s None f)

  designator_whole : {sees : Sees} {here : Here} → IsSettled sees here → (d : Designator) → Whole (IsKnown here.core sees) (checked (means.designator_of here d))
  designator_whole s (designator root ss) = whole_followed (root_whole s root) (λ d h. selected_whole s ss h)

  root_whole : {sees : Sees} {here : Here} → IsSettled sees here → (root : Root) → Whole (IsKnown here.core sees) (checked (means.root_of here root))
  root_whole s (named n) = name_whole s (lower n.text) n.text n.position
  root_whole s (string p) = whole_rule
  root_whole {sees} {here} s (bracketed p e) = whole_changed_so (λ v. naming.valued p (in_brackets v)) (value_whole s None e) (λ v h. brackets_sound here.core sees v h)

  selected_whole : {sees : Sees} {here : Here} → IsSettled sees here → (ss : Selectors) {o : Option Denoted} → Filled (IsKnown here.core sees) o → Whole (IsKnown here.core sees) (checked (means.selected here o ss))
  selected_whole s no_selectors h = whole_standing h
  selected_whole s (selectors x xs) h = whole_followed (select_whole s x h) (λ c k. selected_whole s xs k)

  select_whole : {sees : Sees} {here : Here} → IsSettled sees here → (x : Selector) {o : Option Denoted} → Filled (IsKnown here.core sees) o → Whole (IsKnown here.core sees) (checked (means.select here o x))
  select_whole s (member m) h = whole_with h (λ d k. member_whole s m d d.what k)
  select_whole {sees} {here} s (index p es) h = still_whole here.core sees h (whole_followed (whole_with h (λ d k. settled_whole s d k)) (λ a k. elements_whole s p.place es k))
  select_whole {sees} {here} s (call args) h =
      still_whole here.core sees h
      (whole_followed (plan_whole sees here false args h) (λ o k.
      called_whole s args (λ what p. means.sole here what p args) (λ ps so_far. means.given here ps so_far args) (λ a p e. sole_whole s a p args e.0 e.1) (λ ps g.
      let both = and_parts (nat_eq (length ps) (count_of args)) (are_plain args) g in
      given_whole s args [] ps (filled none_given tt) (eqb-true (length ps) (count_of args) both.0) both.1) k))

  elements_whole : {sees : Sees} {here : Here} → IsSettled sees here → (bracket : Place) (es : Expressions) {o : Option Value} → Filled (IsSoundValue here.core sees) o → Whole (IsSoundValue here.core sees) (checked (means.elements_at here bracket o es))
  elements_whole s bracket no_expressions h = whole_standing h
  elements_whole {sees} {here} s bracket (expressions e es) h =
      whole_followed (value_whole s None e) (λ v k. whole_followed (indexed_whole here.core sees s.founded bracket (position_of e).place h k) (λ b i. elements_whole s bracket es i))

  sole_whole : {sees : Sees} {here : Here} → IsSettled sees here → (what : Applied) (p : Position) (args : Arguments) (e : Expression) → only_value args ≡ Some e → Whole (IsSoundValue here.core sees) (checked (means.sole here what p args))
  sole_whole {sees} {here} s what p (arguments (value e) no_arguments) f q = whole_behind (value_whole s None e) (λ v h. used_whole here.core sees s.founded p what (position_of e).place v h)
  sole_whole s what p args f q = absurd (none-some _ q)

  given_whole : {sees : Sees} {here : Here} → IsSettled sees here → (args : Arguments) (qs ps : List Parameter) {o : Option GivenArguments} → Filled (AreArguments here.core sees qs) o → length ps ≡ count_of args → are_plain args ≡ true → Whole (AreArguments here.core sees (qs ++ ps)) (checked (means.given here ps o args))
  given_whole {sees} {here} s no_arguments qs [] {o} h e g = whole_standing (subst (λ xs. Filled (AreArguments here.core sees xs) o) (sym (append-nil qs)) h)
  given_whole s no_arguments qs (p ∷ ps) h e g = absurd (omega (arith, e))
  given_whole s (arguments a others) qs [] h e g = absurd (omega (arith, e))
  given_whole {sees} {here} s (arguments (value v) others) qs (p ∷ ps) {o} h e g =
      whole_followed (whole_behind (value_whole s (Some p.of) v) (λ v' k. passed_whole here sees p (position_of v) v' k)) (λ b k.
      subst (λ xs. Whole (AreArguments here.core sees xs) (checked (means.given here ps (given_behind o b) others))) (append_assoc qs (p ∷ []) ps)
      (given_whole s others (qs ++ p ∷ []) ps (filled_arguments here.core sees qs p h k) (ap pred e) g))
  given_whole s (arguments (padded v width) others) qs (p ∷ ps) h e g = absurd (false≢true g)
  given_whole s (arguments (rounded v width digits) others) qs (p ∷ ps) h e g = absurd (false≢true g)

-- a call, by what is called
call_whole : {sees : Sees} {here : Here} → IsSettled sees here → (args : Arguments) {o : Option Plan} → Filled (IsSoundPlan sees here args) o → Whole (IsSoundValue here.core sees) (checked (means.called here o args))
call_whole {sees} {here} s args h =
    called_whole s args (λ what p. means.sole here what p args) (λ ps so_far. means.given here ps so_far args) (λ a p e. sole_whole s a p args e.0 e.1) (λ ps g.
    let both = and_parts (nat_eq (length ps) (count_of args)) (are_plain args) g in
    given_whole s args [] ps (filled none_given tt) (eqb-true (length ps) (count_of args) both.0) both.1) h

-- ---- what statements are made of

pub value_of_whole : {sees : Sees} {here : Here} → IsSettled sees here → (wanted : Option TypeId) (e : Expression) → Whole (IsSoundValue here.core sees) (checked (phrase.value here wanted e))
unfolding phrase.value
value_of_whole s wanted e = value_whole s wanted e

pub given_to_whole : {sees : Sees} {here : Here} → IsSettled sees here → (to : TypeId) (ranges : Bool) (e : Expression) → Whole (IsValue here.core sees to) (checked (phrase.given here to ranges e))
unfolding phrase.given
given_to_whole {sees} {here} s to ranges e = whole_behind (value_whole s (Some to) e) (λ v h. stored_whole here.core sees (position_of e).place ranges to v h)

pub variable_whole : {sees : Sees} {here : Here} → IsSettled sees here → (of : Option TypeId) (e : Expression) → Whole (AsVariable here.core sees of) (checked (phrase.variable here of e))
unfolding phrase.variable
variable_whole {sees} {here} s of e = whole_behind (value_whole s None e) (λ v h. variable_value_whole here sees (position_of e).place of v h)

pub element_whole : {sees : Sees} {here : Here} → IsSettled sees here → (base : TypeId) (e : Expression) → Whole (IsValue here.core sees base) (checked (phrase.element here base e))
unfolding phrase.element
element_whole {sees} {here} s base e =
    whole_behind (value_whole s None e) (λ v h.
    whole_tested NotAssignable (position_of e).place (assignable here.core (type_of v) base) (λ a. whole_tested NoSetElement (position_of e).place (is_small v) (λ _. whole_gives (as_type_value here.core sees true base v h a))))

-- the result of the routine whose body this is
own_sound : {sees : Sees} {here : Here} → IsSettled sees here → (id : RoutineId) (v : VariableId × TypeId) → own_result here id ≡ Some v → IsTyped here.core sees (variable_tree v.0 v.1)
own_sound {sees} {here} s id v e = go here.routine refl (is_own here.routine id) refl e
  where
    at : (r : Routine) → here.routine ≡ Some id → slice_get here.core.routines id.0 ≡ Some r → (o : Option ℕ) → option_and_then (result_at r.variables (rows here.core.variables r.variables)) o ≡ Some v → IsTyped here.core sees (variable_tree v.0 v.1)
    at r own q (Some k) e =
        let n = numbered here.core.variables r.variables k (λ n v. (record { 0 = n }, v.of)) v e in
        subst (λ v. IsTyped here.core sees (variable_tree v.0 v.1)) n.is ((s.own id r own q n.number n.within, rw n.is_there refl), tt)
    at r own q None e = absurd (none-some _ e)

    by : here.routine ≡ Some id → (o : Option Routine) → slice_get here.core.routines id.0 ≡ o → result_in here.core o ≡ Some v → IsTyped here.core sees (variable_tree v.0 v.1)
    by own (Some r) q e = at r own q (position is_result (rows here.core.variables r.variables)) e
    by own None q e = absurd (none-some _ e)

    go : (o : Option RoutineId) → here.routine ≡ o → (b : Bool) → is_own o id ≡ b → (if b then result_in here.core (slice_get here.core.routines id.0) else None) ≡ Some v → IsTyped here.core sees (variable_tree v.0 v.1)
    go (Some own) q true f e = let n = eqb-true own.0 id.0 f in by (q ∙ ap (λ n. Some (record { 0 = n })) n) (slice_get here.core.routines id.0) refl e
    go None q true f e = absurd (false≢true f)
    go o q false f e = absurd (none-some _ e)

target_by_whole : {sees : Sees} {here : Here} → IsSettled sees here → (d : Designator) (id : Option RoutineId) → Whole (λ t. IsTyped here.core sees t × (is_place true here.core t ≡ true)) (checked (target_by here d id))
target_by_whole s d (Some id) = whole_rule
target_by_whole {sees} {here} s d None = whole_behind (value_whole s None (designated d)) (λ v k. target_value_whole here sees (position_of_designator d).place v k)

named_sound : {sees : Sees} {here : Here} → IsSettled sees here → (n : Name) (r : Denoted) → result_named here n ≡ Some r → IsKnown here.core sees r
named_sound {sees} {here} s n r e = go (routine_in (meaning_of here.visible (lower n.text))) e
  where
    at : (id : RoutineId) (o : Option (VariableId × TypeId)) → own_result here id ≡ o → option_map (result_denoted n.position) o ≡ Some r → IsKnown here.core sees r
    at id (Some v) q e = subst (IsKnown here.core sees) (some_is e) (own_sound s id v q)
    at id None q e = absurd (none-some _ e)

    go : (o : Option RoutineId) → option_map (result_denoted n.position) (option_and_then (own_result here) o) ≡ Some r → IsKnown here.core sees r
    go (Some id) e = at id (own_result here id) refl e
    go None e = absurd (none-some _ e)

first_sound : {sees : Sees} {here : Here} → IsSettled sees here → (d : Designator) (r : Denoted) → result_first here d ≡ Some r → IsKnown here.core sees r
first_sound s (designator (named n) (selectors (call args) ss)) r e = absurd (none-some _ e)
first_sound s (designator (named n) ss) r e = named_sound s n r e
first_sound s d r e = absurd (none-some _ e)

target_from_whole : {sees : Sees} {here : Here} → IsSettled sees here → (d : Designator) (o : Option Denoted) → result_first here d ≡ o → Whole (λ t. IsTyped here.core sees t × (is_place true here.core t ≡ true)) (checked (target_from here d o))
target_from_whole {sees} {here} s d (Some r) e =
    whole_behind (whole_behind (selected_whole s (selectors_behind d) (filled r (first_sound s d r e))) (λ c k. settled_whole s c k))
    (λ v k. target_value_whole here sees (position_of_designator d).place v k)
target_from_whole {sees} {here} s d None e = target_by_whole s d (routine_alone here d)

pub target_whole : {sees : Sees} {here : Here} → IsSettled sees here → (d : Designator) → Whole (λ t. IsTyped here.core sees t × (is_place true here.core t ≡ true)) (checked (phrase.target here d))
unfolding phrase.target
target_whole {sees} {here} s d = target_from_whole s d (result_first here d) refl

-- ---- a call alone

filled_tree : (core : Core) (sees : Sees) {o : Option Value} → Filled (IsSoundValue core sees) o → Filled (IsTyped core sees) (option_map tree_of o)
filled_tree core sees (filled v h) = filled (tree_of v) (tree_typed core sees v h)

alone_value_whole : (core : Core) (sees : Sees) (start : Place) (b : Bool) {o : Option Value} → Filled (IsSoundValue core sees) o → Whole (IsTyped core sees) (checked (alone_value start b o))
alone_value_whole core sees start b h = whole_tested NoStatement start b (λ _. whole_standing (filled_tree core sees h))

bare_tree_whole : {sees : Sees} {here : Here} → IsSettled sees here → (p : Position) (what : Meant) → IsThere here.core sees what → Whole (IsTyped here.core sees) (checked (followed (plan_for here true p what no_arguments) (λ plan. standing (option_map tree_of (call_of here plan (given_first plan))))))
bare_tree_whole {sees} {here} s p what h = whole_followed (plan_for_whole sees here true p what no_arguments h) (λ o k. whole_standing (filled_tree here.core sees (bare_gives s k)))

alone_whole : {sees : Sees} {here : Here} → IsSettled sees here → (start : Place) (d : Denoted) (what : Meant) → IsThere here.core sees what → Whole (IsTyped here.core sees) (checked (alone_by here start d what))
alone_whole s start d (naming.value v) h = whole_rule
alone_whole s start d (naming.type_name of) h = whole_rule
alone_whole s start d (naming.routine id) h = bare_tree_whole s d.position (naming.routine id) h
alone_whole s start d (naming.unit text) h = bare_tree_whole s d.position (naming.unit text) h
alone_whole s start d (naming.built_in b) h = bare_tree_whole s d.position (naming.built_in b) h

alone_behind_whole : {sees : Sees} {here : Here} → IsSettled sees here → (start : Place) (ss : Selectors) (r : Option (Selectors × Arguments)) {o : Option Denoted} → Filled (IsKnown here.core sees) o → Whole (IsTyped here.core sees) (checked (alone_behind here start o ss r))
alone_behind_whole s start ss None h = whole_behind (selected_whole s ss h) (λ d k. alone_whole s start d d.what k)
alone_behind_whole {sees} {here} s start ss (Some r) h =
    whole_followed (selected_whole s r.0 h) (λ c k. whole_followed (plan_whole sees here true r.1 k) (λ plan i.
    whole_followed (call_whole s r.1 i) (λ v q. alone_value_whole here.core sees start (is_call plan) q)))

pub called_alone_whole : {sees : Sees} {here : Here} → IsSettled sees here → (d : Designator) → Whole (IsTyped here.core sees) (checked (phrase.call_alone here d))
unfolding phrase.call_alone
called_alone_whole s (designator root ss) = whole_followed (root_whole s root) (λ d h. alone_behind_whole s (position_of_designator (designator root ss)).place ss (last_call ss) h)
