-- The items of expressions are typed, and what is found is of the type that is written at them.
use Rattle.std.proofs.Common.{◌≡◌, ◌⊎◌, inl, inr, ℕ, ◌+◌, Bool, true, false, List, [], ◌∷◌, Option, Some, None, slice_get, IfSome, refl, sym, ap, subst, arith}
use Rattle.std.proofs.lemmas.Int.{ints}
use Rattle.std.proofs.lemmas.List.Elements.{All-drop, All-take}
use Rattle.std.specs.List.{All}
use Rattle.op_core.specs.Expression.{Expression, expression, Root, constant, variable, object, call, construct, set, eof, eoln, Steps, no_steps, steps, Action, convert, bracket, field, index, method, prefixed, operate, is, apply, copy, Elements, no_elements, elements, Element, one as one_element, range, Arguments, no_arguments, arguments, Argument, value, place, array, listed}
use Rattle.op_core.specs.Members.{There}
use Rattle.op_core.specs.Rows.{rows}
use Rattle.op_core.specs.Sizes.{type_at}
use Rattle.op_core.specs.Sound.{IsSound, within}
use Rattle.op_core.specs.Typing.{AreArguments, AreElements, AreSteps, Fits, GivesType, IsAction, IsArgument, IsElement, IsRoot, IsTyped, IsValue, OneType, Sees, base_of, takes_place, type_after, type_of}
use Rattle.op_core.specs.declared.constant.Const.{Const}
use Rattle.op_core.specs.declared.constant.Const.TheVariants.{Ordinal, Text, Set as SetOf, Nil as NilOf}
use Rattle.op_core.specs.declared.ids.TypeId.{TypeId}
use Rattle.op_core.specs.declared.ids.VariableId.{VariableId}
use Rattle.op_core.specs.declared.program.Core.{Core}
use Rattle.op_core.specs.declared.routine.Owner.TheVariants.{Unit as OfUnit}
use Rattle.op_core.specs.declared.routine.Parameter.{Parameter}
use Rattle.op_core.specs.declared.routine.Role.TheVariants.{Object as ObjectRole, Parameter as ParameterRole}
use Rattle.op_core.specs.declared.routine.Routine.{Routine}
use Rattle.op_meaning.specs.Actions.{combine, single as lone, span}
use Rattle.op_meaning.specs.Every.{EveryNode, argument_nodes, arguments_nodes, element_nodes, elements_nodes, is_text, root_nodes, steps_nodes, text_after}
use Rattle.op_meaning.specs.Expressions.{Here, Found, Now, find, find_root, find_step, find_steps, gather, gather_one, given_by, goes_on_at, make, of_constant, pass, pass_one, past, past_whole, path_of, receiver_by, receiver_of, result_of, second_here}
use Rattle.op_meaning.specs.Items.{then_do, ◌&◌, only, act, enter}
use Rattle.op_meaning.specs.Paths.{path_to, root_of}
use Rattle.op_meaning.specs.Shapes.{is_reference, shape_of}
use Rattle.op_tree.specs.declared.heading.ParameterMode.{ParameterMode}
use Rattle.op_tree.specs.declared.heading.ParameterMode.TheVariants.{Value, Var, Const_, Out}
use Rattle.op_tree.specs.declared.operator.Operator.TheVariants.{Add}
use Rattle.op_typing.proofs.Actions.{both}
use Rattle.op_typing.proofs.Founds.{FoundIs, IsOwn, NowIs, StateIs, any_own, apply_found, bracket_found, convert_found, env_at, field_found, index_found, instance_not_solid, measure_found, operate_found, own_text, path_typed, pick_found, prefix_found}
use Rattle.op_typing.proofs.Paths.{root_path, root_typed, temporary_path}
use Rattle.op_typing.proofs.Rows.{each_row, not_true, some_and, some_then}
use Rattle.op_typing.proofs.Types.{one_back_solid, set_word, solid_is, solid_small, value_word}
use Rattle.op_typing.specs.Simple.{IsSimple, IsSimpleProgram, IsSimpleRoutine, IsSimpleStep, IsSolidType, simple_asks}
use Rattle.op_typing.specs.Typed.{AreTyped, AreTypedGiven, IsComposite, IsSingle, IsTypedCall, IsTypedGiven, IsTypedReceiver, PathTo, RootIs}

-- whether what comes out in the end is still a text that is written there
abbrev pub text_end : Bool → Steps → Bool
text_end text no_steps = text
text_end text (steps action next others) = text_end (text_after text action) others

abbrev pub is_text_at_end : Expression → Bool
is_text_at_end (expression root of others) = text_end (is_text root) others

-- what is a value of the type is typed, and of a type that is one with it
pub value_typed : (core : Core) (sees : Sees) (of : TypeId) (e : Expression) → IsValue core sees of e → IsTyped core sees e × OneType core (type_of e) of
value_typed core sees of (expression root from others) h = ((h.0, h.1), h.2)

by_value_mode : (mode : ParameterMode) → takes_place mode ≡ false → is_reference (ParameterRole mode) ≡ false
by_value_mode Value h = refl
by_value_mode Const_ h = refl
by_value_mode Var h = absurd (not_true (sym h))
by_value_mode Out h = absurd (not_true (sym h))

by_place_mode : (mode : ParameterMode) → takes_place mode ≡ true → is_reference (ParameterRole mode) ≡ true
by_place_mode Var h = refl
by_place_mode Out h = refl
by_place_mode Value h = absurd (not_true h)
by_place_mode Const_ h = absurd (not_true h)

-- of a routine that is called with these arguments
abbrev IsCalled : Core → Sees → Arguments → TypeId → Routine → Type 0
IsCalled core sees given of y = (y.owner ≡ OfUnit) × GivesType core y.result of × AreArguments core sees (rows core.parameters y.parameters) given

abbrev pub AreSolid : Core → List Parameter → Type 0
AreSolid core ps = All (λ p. IsSolidType core p.of) ps

pub parameters_solid : (core : Core) → IsSimpleProgram core → (y : Routine) → AreSolid core (rows core.parameters y.parameters)
parameters_solid core simple y = All-take (λ p. IsSolidType core p.of) _ _ (All-drop (λ p. IsSolidType core p.of) _ _ simple.parameters)

pub first_solid : (core : Core) (p : Parameter) (ps : List Parameter) → AreSolid core (p ∷ ps) → IsSolidType core p.of
first_solid core p ps h = each_row (λ p. IsSolidType core p.of) (p ∷ ps) 0 p h refl

pub others_solid : (core : Core) (p : Parameter) (ps : List Parameter) → AreSolid core (p ∷ ps) → AreSolid core ps
others_solid core p ps h = All-drop (λ p. IsSolidType core p.of) 1 (p ∷ ps) h

module _ (core : Core) (sound : IsSound core) (simple : IsSimpleProgram core) (r : ℕ) (x : Routine) (is_there : slice_get core.routines r ≡ Some x) where
  -- ---- variables and constants

  pub variable_typed : (id : VariableId) (of : TypeId) → (within core r).variable id → There core.variables id.0 (λ v. v.of ≡ of) → IsSolidType core of → PathTo core r (path_to (root_of core r id)) of
  variable_typed id of sees h solid =
      let (v, e, same) = some_and (slice_get core.variables id.0) (λ v. v.of ≡ of) h in
      root_path core r (root_of core r id) of (subst (λ of. RootIs core r (root_of core r id) of) same (root_typed core sound simple r x is_there id v sees e)) (solid_small core sound of solid)

  constant_typed : (c : Const) (nodes words : ℕ) (of : TypeId) (t : ℕ) → Fits core c of → EveryNode (simple_asks core) (root_nodes (constant c nodes words) of) → FoundIs core r (is_text (constant c nodes words)) of (of_constant c t)
  constant_typed (Ordinal n) nodes words of t h solid = ((value_word core sound of n h, tt), (solid, tt))
  constant_typed (SetOf es) nodes words of t h solid = ((set_word _, tt), (solid, tt))
  constant_typed (Text bytes) nodes words of t h short = (tt, (bytes, refl, short))
  constant_typed NilOf nodes words of t h solid = (tt, (solid, tt))

  -- ---- calls

  receiver_typed : (result : Option TypeId) (here : Here) → IfSome result (IsSolidType core) → IsTypedReceiver core result (receiver_of core result here)
  receiver_typed None here h = tt
  receiver_typed (Some of) here h = by (solid_is core of h)
    where
      by : ((kind : _) × IsSingle core of kind) ⊎ IsComposite core of → IsTypedReceiver core (Some of) (receiver_by (shape_of core of) of here)
      by (inl (kind, e)) = subst (λ s. IsTypedReceiver core (Some of) (receiver_by s of here)) (sym e) (kind, e)
      by (inr e) = subst (λ s. IsTypedReceiver core (Some of) (receiver_by s of here)) (sym e) (refl, e, solid_small core sound of h, (here.whole, refl))

  given_typed : (of : TypeId) (here : Here) (p : Parameter) → of ≡ p.of → IsSolidType core of → takes_place p.mode ≡ false → IsTypedGiven core r (given_by (shape_of core of) of here) p
  given_typed of here p same solid mode = by (solid_is core of solid)
    where
      by : ((kind : _) × IsSingle core of kind) ⊎ IsComposite core of → IsTypedGiven core r (given_by (shape_of core of) of here) p
      by (inl (kind, e)) = subst (λ s. IsTypedGiven core r (given_by s of here) p) (sym e) (subst (λ of. IsSingle core of kind) same e, by_value_mode p.mode mode)
      by (inr e) = subst (λ s. IsTypedGiven core r (given_by s of here) p) (sym e) (same, temporary_path core r of here.whole (solid_small core sound of solid), e, by_value_mode p.mode mode)

  pub state_path : (text : Bool) (of : TypeId) (here : Here) (now : Now) → IsSolidType core of → StateIs core r text of now → PathTo core r (path_of of here now) of
  state_path true of here now solid h = path_typed core sound simple r of here now solid (subst (NowIs core r of) (sym h.1) h.2)
  state_path false of here now solid h = path_typed core sound simple r of here now solid h.1

  -- ---- all parts of expressions

  mutual
    pub find_typed : (e : Expression) (here : Here) → IsTyped core (within core r) e → IsSimple core e → FoundIs core r (is_text_at_end e) (type_of e) (find (env_at core r) here e)
    find_typed (expression root of others) here h s = steps_typed others here (is_text root) of (find_root (env_at core r) here of root) h.1 s.1 (root_found root here of h.0 s.0)

    pub make_typed : (e : Expression) (here : Here) → IsTyped core (within core r) e → IsSimple core e → AreTyped core r (make (env_at core r) here e).items × IsOwn (make (env_at core r) here e).now
    make_typed (expression root of others) here h s =
        any_own core sound simple r (text_end (is_text root) others) (type_after of others) here (find_steps (env_at core r) here of others (find_root (env_at core r) here of root))
        (steps_typed others here (is_text root) of (find_root (env_at core r) here of root) h.1 s.1 (root_found root here of h.0 s.0))

    root_found : (root : Root) (here : Here) (of : TypeId) → IsRoot core (within core r) root of → EveryNode (simple_asks core) (root_nodes root of) → FoundIs core r (is_text root) of (find_root (env_at core r) here of root)
    root_found (constant c nodes words) here of h s = constant_typed c nodes words of here.temp h s
    root_found (variable id) here of h s = (tt, (s, variable_typed id of h.0 h.1 s))
    root_found (object id) here of h s = (tt, (s, variable_typed id of h.0 (some_then (slice_get core.variables id.0) (λ v. (v.of ≡ of) × (v.role ≡ ObjectRole)) (λ v. v.of ≡ of) h.1 (λ v is. is.0)) s))
    root_found (call id given) here of h s =
        let (y, at, facts) = some_and (slice_get core.routines id.0) (IsCalled core (within core r) given of) h.1 in
        let passing = pass_typed (rows core.parameters y.parameters) given (past_whole here) facts.2 s.1 (parameters_solid core simple y) in
        let enters : IsTypedCall core r id.0 (pass (env_at core r) (past_whole here) given).given (receiver_of core (result_of (slice_get core.routines id.0)) here) = record {
          callee = y;
          there = at;
          owner = facts.0;
          arguments = passing.1;
          result = subst (λ o. IsTypedReceiver core y.result (receiver_of core o here)) (sym (ap result_of at)) (receiver_typed y.result here (each_row (IsSimpleRoutine core) core.routines id.0 y simple.routines at).result);
        } in
        (both core r (pass (env_at core r) (past_whole here) given).items (only (enter id.0 (pass (env_at core r) (past_whole here) given).given (receiver_of core (result_of (slice_get core.routines id.0)) here))) passing.0 (enters, tt), (s.0, tt))
    root_found (construct c id given) here of h s = absurd s
    root_found (set es) here of h s =
        let (base, e, are) = some_and (base_of (type_at core of)) (λ base. AreElements core (within core r) base es) h in
        ((omega (arith, ints), gather_typed es here base are s.1), (s.0, tt))
    root_found eof here of h s = (tt, (s, tt))
    root_found eoln here of h s = (tt, (s, tt))

    steps_typed : (others : Steps) (here : Here) (text : Bool) (of : TypeId) (f : Found) → AreSteps core (within core r) of others → EveryNode (simple_asks core) (steps_nodes text others) → FoundIs core r text of f → FoundIs core r (text_end text others) (type_after of others) (find_steps (env_at core r) here of others f)
    steps_typed no_steps here text of f h s k = k
    steps_typed (steps action next others) here text of f h s k = steps_typed others here (text_after text action) next (find_step (env_at core r) here of action next f) h.1 s.1 (step_typed action here text of next f h.0 s.0 k)

    step_typed : (action : Action) (here : Here) (text : Bool) (of next : TypeId) (f : Found) → IsAction core (within core r) of action next → IsSimpleStep core text action next → FoundIs core r text of f → FoundIs core r (text_after text action) next (find_step (env_at core r) here of action next f)
    step_typed (convert c origin) here false of next f h s k = convert_found core sound simple r of next here f c k s
    step_typed bracket here false of next f h s k = bracket_found core sound simple r of next here f k s
    step_typed (field id) here false of next f h s k = field_found core sound simple r of next here f id k h.0 h.1 s
    step_typed (index e) here false of next f h s k = index_found core sound simple r of next (type_of e) here f (make (env_at core r) (past f.used (past_whole here)) e).items k h.1 s.1 (make_typed e (past f.used (past_whole here)) h.0 s.0).0
    step_typed (method id dispatch given) here false of next f h s k = absurd s
    step_typed (prefixed o checked) here false of next f h s k = prefix_found core sound simple r of next here f o checked k s
    step_typed (operate o checked e) here false of next f h s k = operate_found core sound simple r of next here f o checked (make (env_at core r) (second_here (goes_on_at o (type_at core of)) here) e).items k (make_typed e (second_here (goes_on_at o (type_at core of)) here) h.0 s.0).0 s.1
    step_typed (is to) here false of next f h s k = absurd (instance_not_solid (type_at core of) k.1.0 h.0)
    step_typed (apply function checked) here false of next f h s k = apply_found core sound simple r of next here f function checked k h s
    step_typed (copy e e') here false of next f h s k = (k.0, (s, subst (λ of. NowIs core r of f.now) h.2.1 k.1.1))
    step_typed bracket here true of next f h s k = subst (λ g. FoundIs core r true next g) (sym (own_text core sound simple r of here f k)) k
    step_typed (index e) here true of next f h s k = pick_found core sound simple r of next here f (make (env_at core r) (past f.used (past_whole here)) e).items k s.1 (make_typed e (past f.used (past_whole here)) h.0 s.0).0
    step_typed (apply function checked) here true of next f h s k = measure_found core sound simple r of next here f function checked k s.0 s.1
    step_typed _ here true of next f h s k = absurd s

    gather_typed : (es : Elements) (here : Here) (base : TypeId) → AreElements core (within core r) base es → EveryNode (simple_asks core) (elements_nodes es) → AreTyped core r (gather (env_at core r) here es)
    gather_typed no_elements here base h s = tt
    gather_typed (elements e es) here base h s =
        both core r (gather_one (env_at core r) here e) (then_do (act (combine Add here.temp here.temp (here.temp + 1))) (gather (env_at core r) here es))
        (element_typed e here base h.0 s.0) (tt, gather_typed es here base h.1 s.1)

    element_typed : (e : Element) (here : Here) (base : TypeId) → IsElement core (within core r) base e → EveryNode (simple_asks core) (element_nodes e) → AreTyped core r (gather_one (env_at core r) here e)
    element_typed (one_element e) here base h s =
        both core r (make (env_at core r) (past 1 here) e).items (only (act (lone (here.temp + 1) (here.temp + 1))))
        (make_typed e (past 1 here) (value_typed core (within core r) base e h).0 s).0 (tt, tt)
    element_typed (range e e') here base h s =
        both core r (make (env_at core r) (past 1 here) e).items ((make (env_at core r) (past 2 here) e').items & only (act (span (here.temp + 1) (here.temp + 1) (here.temp + 2))))
        (make_typed e (past 1 here) (value_typed core (within core r) base e h.0).0 s.0).0
        (both core r (make (env_at core r) (past 2 here) e').items (only (act (span (here.temp + 1) (here.temp + 1) (here.temp + 2))))
        (make_typed e' (past 2 here) (value_typed core (within core r) base e' h.1).0 s.1).0 (tt, tt))

    pass_typed : (ps : List Parameter) (given : Arguments) (here : Here) → AreArguments core (within core r) ps given → EveryNode (simple_asks core) (arguments_nodes given) → AreSolid core ps → AreTyped core r (pass (env_at core r) here given).items × AreTypedGiven core r (pass (env_at core r) here given).given ps
    pass_typed [] no_arguments here h s solid = (tt, tt)
    pass_typed (p ∷ ps) (arguments a others) here h s solid =
        let first = argument_typed a here p h.0 s.0 (first_solid core p ps solid) in
        let rest = pass_typed ps others (past (pass_one (env_at core r) here a).used (past_whole here)) h.1 s.1 (others_solid core p ps solid) in
        (both core r (pass_one (env_at core r) here a).items (pass (env_at core r) (past (pass_one (env_at core r) here a).used (past_whole here)) others).items first.0 rest.0, (first.1, rest.1))
    pass_typed [] (arguments a others) here h s solid = absurd h
    pass_typed (p ∷ ps) no_arguments here h s solid = absurd h

    argument_typed : (a : Argument) (here : Here) (p : Parameter) → IsArgument core (within core r) p a → EveryNode (simple_asks core) (argument_nodes a) → IsSolidType core p.of → AreTyped core r (pass_one (env_at core r) here a).items × IsTypedGiven core r (pass_one (env_at core r) here a).given p
    argument_typed (value e) here p h s solid =
        let typed = value_typed core (within core r) p.of e h.0 in
        let same = one_back_solid core (type_of e) p.of typed.1 solid in
        ((make_typed e here typed.0 s).0, given_typed (type_of e) here p same (subst (IsSolidType core) (sym same) solid) h.1)
    argument_typed (place e) here p h s solid =
        let typed = value_typed core (within core r) p.of e h.0 in
        let same = one_back_solid core (type_of e) p.of typed.1 solid in
        let f = find_typed e here typed.0 s in
        let path = state_path (is_text_at_end e) (type_of e) here (find (env_at core r) here e).now (subst (IsSolidType core) (sym same) solid) f.1 in
        (f.0, (subst (PathTo core r (path_of (type_of e) here (find (env_at core r) here e).now)) same path, by_place_mode p.mode h.1))
    argument_typed (array e) here p h s solid = absurd s
    argument_typed (listed of es) here p h s solid = absurd s
