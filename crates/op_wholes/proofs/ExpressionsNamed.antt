-- The items of an expression name no other temporaries of record and array types than a list that has those of its nodes.
use Rattle.std.proofs.Common.{◌≡◌, ℕ, ◌+◌, Bool, true, false, List, [], ◌∷◌, slice_get, refl, sym, ap, subst}
use Rattle.op_core.specs.Expression.{Expression, expression, Root as Start, constant as fixed, variable, object, call, construct as constructed, set as bracketed, eof, eoln, Steps, no_steps, steps, Action as Doing, convert, bracket, field, index, method, prefixed, operate, is, apply, copy as copied, Elements, no_elements, elements, Element as Member, one, range, Arguments, no_arguments, arguments, Argument, value, place, array, listed}
use Rattle.op_core.specs.Rows.{rows}
use Rattle.op_core.specs.Sizes.{type_at}
use Rattle.op_core.specs.Typing.{Sees, AreArguments, AreElements, AreSteps, GivesType, IsAction, IsArgument, IsElement, IsRoot, IsTyped, base_of, type_after, type_of}
use Rattle.op_core.specs.declared.ids.TypeId.{TypeId}
use Rattle.op_core.specs.declared.program.Core.{Core}
use Rattle.op_core.specs.declared.routine.Owner.TheVariants.{Unit as OfUnit}
use Rattle.op_core.specs.declared.routine.Parameter.{Parameter}
use Rattle.op_core.specs.declared.routine.Routine.{Routine}
use Rattle.op_core.specs.declared.types.CoreType.TheVariants.{Boolean}
use Rattle.op_frames.specs.Counted.{IsCounted, counted_asks}
use Rattle.op_frames.specs.Made.{Every}
use Rattle.op_frames.specs.Wholes.{GivenIn, ReceiverIn}
use Rattle.op_meaning.specs.Actions.{combine, single as lone, span}
use Rattle.op_meaning.specs.Every.{EveryNode, action_nodes, argument_nodes, arguments_nodes, element_nodes, elements_nodes, is_text, root_nodes, steps_nodes, text_after}
use Rattle.op_meaning.specs.Expressions.{Found, Here, converted, find, find_root, find_step, find_steps, gather, gather_one, goes_on_at, make, measured, own, pass, pass_one, past, past_whole, prefix, receiver_of, result_of}
use Rattle.op_meaning.specs.Items.{act, enter, only, then_do}
use Rattle.op_meaning.specs.Paths.{field as part_field}
use Rattle.op_meaning.specs.Shapes.{field_number, shape_of}
use Rattle.op_mir.specs.declared.path.Root.{Root}
use Rattle.op_tree.specs.declared.operator.Operator.TheVariants.{Add}
use Rattle.op_typing.proofs.Expressions.{is_text_at_end, text_end, value_typed, AreSolid, first_solid, others_solid, parameters_solid}
use Rattle.op_typing.proofs.Founds.{env_at, instance_not_solid}
use Rattle.op_typing.proofs.Rows.{of_some, some_and}
use Rattle.op_typing.proofs.Types.{one_back_solid}
use Rattle.op_typing.specs.Simple.{IsSimple, IsSimpleStep, simple_asks, IsSimpleProgram, IsSolidType}
use Rattle.op_wholes.proofs.FoundsNamed.{AreNamed, HasOwn, own_of, both, three, IsFound, place_in, variable_in, owned, text_kept, converted_in, prefix_in, acts_found, apply_found, step_found, index_found, pick_found, two_found, second_in, constant_found, receiver_in, given_in}
use Rattle.op_wholes.proofs.ListsCovered.{AreListed, front_listed, back_listed}
use Rattle.op_wholes.proofs.PlacesFound.{place_at}
use Rattle.op_wholes.proofs.TypesWhole.{set_apart, kind_apart, converts_to, field_whole, index_whole}
use Rattle.op_wholes.specs.Listed.{action_wholes, argument_wholes, arguments_wholes, element_wholes, elements_wholes, root_wholes, steps_wholes, whole_of, wholes_of}

-- of a routine that is called with these arguments
abbrev IsCalled : Core → Sees → Arguments → TypeId → Routine → Type 0
IsCalled core sees given of y = (y.owner ≡ OfUnit) × GivesType core y.result of × AreArguments core sees (rows core.parameters y.parameters) given

module _ (core : Core) (r : ℕ) (wholes : List Root) (blocks : ℕ) (sees : Sees) (simple : IsSimpleProgram core) where
  mutual
    -- the value, or the place where it is
    pub find_in : (e : Expression) (here : Here) → IsTyped core sees e → IsSimple core e → IsCounted e → AreListed wholes (wholes_of core here.whole e) → IsFound core r wholes blocks (is_text_at_end e) (type_of e) here (find (env_at core r) here e)
    find_in (expression root of others) here h s c w =
        steps_in others here (is_text root) of (find_root (env_at core r) here of root) h.1 s.1 c.1 (back_listed wholes (root_wholes core here.whole of root) (steps_wholes core here.whole others) w)
        (root_in root here of h.0 s.0 c.0 (front_listed wholes (root_wholes core here.whole of root) (steps_wholes core here.whole others) w))

    -- the value, in a temporary of its own, which the list has
    pub make_in : (e : Expression) (here : Here) → IsTyped core sees e → IsSimple core e → IsCounted e → AreListed wholes (wholes_of core here.whole e) → AreNamed wholes blocks (make (env_at core r) here e).items × HasOwn core wholes here.whole (type_of e)
    make_in (expression root of others) here h s c w =
        let f = find_steps (env_at core r) here of others (find_root (env_at core r) here of root) in
        let found_is : IsFound core r wholes blocks (text_end (is_text root) others) (type_after of others) here f =
        steps_in others here (is_text root) of (find_root (env_at core r) here of root) h.1 s.1 c.1 (back_listed wholes (root_wholes core here.whole of root) (steps_wholes core here.whole others) w)
        (root_in root here of h.0 s.0 c.0 (front_listed wholes (root_wholes core here.whole of root) (steps_wholes core here.whole others) w)) in
        ((owned core r wholes blocks (text_end (is_text root) others) (type_after of others) here f found_is).0, found_is.own_is)

    root_in : (root : Start) (here : Here) (of : TypeId) → IsRoot core sees root of → EveryNode (simple_asks core) (root_nodes root of) → EveryNode counted_asks (root_nodes root of) → AreListed wholes (root_wholes core here.whole of root) → IsFound core r wholes blocks (is_text root) of here (find_root (env_at core r) here of root)
    root_in (fixed v nodes words) here of h s c w = constant_found core r wholes blocks v nodes words of here h s
    root_in (variable id) here of h s c w = record { items = tt; own_is = own_of core wholes here.whole of w; now = variable_in core r wholes blocks id; state = s }
    root_in (object id) here of h s c w = absurd c
    root_in (call id given) here of h s c w =
        let (y, at, facts) = some_and (slice_get core.routines id.0) (IsCalled core sees given of) h.1 in
        let inner = past_whole here in
        let passing = pass (env_at core r) inner given in
        let own_is = own_of core wholes here.whole of (front_listed wholes (whole_of core here.whole of) (arguments_wholes core (here.whole + 1) given) w) in
        let p = pass_in (rows core.parameters y.parameters) given inner (parameters_solid core simple y) facts.2 s.1 c (back_listed wholes (whole_of core here.whole of) (arguments_wholes core (here.whole + 1) given) w) in
        let to = subst (λ o. ReceiverIn wholes (receiver_of core o here)) (sym (ap result_of at)) (receiver_in core r wholes blocks y.result of here facts.1 s.0 own_is) in
        record {
          items = both wholes blocks passing.items (only (enter id.0 passing.given (receiver_of core (result_of (slice_get core.routines id.0)) here))) p.0 ((p.1, to), tt);
          own_is = own_is;
          now = tt;
          state = s.0;
        }
    root_in (constructed k id given) here of h s c w = absurd s
    root_in (bracketed es) here of h s c w =
        let (base, e, are) = some_and (base_of (type_at core of)) (λ base. AreElements core sees base es) h in
        record { items = (tt, gather_in es here base are s.1 c w); own_is = λ whole. absurd (set_apart core (type_at core of) (of_some (base_of (type_at core of)) (λ base. Unit {0}) base e tt) whole); now = tt; state = s.0 }
    root_in eof here of h s c w = record { items = tt; own_is = λ whole. absurd (kind_apart core (type_at core of) Boolean refl h whole); now = tt; state = s }
    root_in eoln here of h s c w = record { items = tt; own_is = λ whole. absurd (kind_apart core (type_at core of) Boolean refl h whole); now = tt; state = s }

    steps_in : (ss : Steps) (here : Here) (text : Bool) (of : TypeId) (f : Found) → AreSteps core sees of ss → EveryNode (simple_asks core) (steps_nodes text ss) → EveryNode counted_asks (steps_nodes text ss) → AreListed wholes (steps_wholes core here.whole ss) → IsFound core r wholes blocks text of here f → IsFound core r wholes blocks (text_end text ss) (type_after of ss) here (find_steps (env_at core r) here of ss f)
    steps_in no_steps here text of f h s c w k = k
    steps_in (steps action next others) here text of f h s c w k =
        steps_in others here (text_after text action) next (find_step (env_at core r) here of action next f) h.1 s.1 c.1 (back_listed wholes (action_wholes core here.whole next action) (steps_wholes core here.whole others) w)
        (step_in action here text of next f h.0 s.0 c.0 (front_listed wholes (action_wholes core here.whole next action) (steps_wholes core here.whole others) w) k)

    step_in : (action : Doing) (here : Here) (text : Bool) (of next : TypeId) (f : Found) → IsAction core sees of action next → IsSimpleStep core text action next → EveryNode counted_asks (action_nodes action) → AreListed wholes (action_wholes core here.whole next action) → IsFound core r wholes blocks text of here f → IsFound core r wholes blocks (text_after text action) next here (find_step (env_at core r) here of action next f)
    step_in (convert k origin) here false of next f h s c w found_is =
        acts_found core r wholes blocks false of next here f (converted core k next here.temp) found_is (converted_in core r wholes blocks k next here.temp) (λ whole. subst (HasOwn core wholes here.whole) (converts_to core k of next h whole) found_is.own_is whole) s
    step_in bracket here false of next f h s c w found_is = let o = owned core r wholes blocks false of here f found_is in record { items = o.0; own_is = own_of core wholes here.whole next w; now = o.1; state = s }
    step_in (field id) here false of next f h s c w found_is =
        step_found core r wholes blocks of next here (part_field of (field_number core of id)) 0 f f.items found_is found_is.items (field_whole core (type_at core of) id found_is.state h.0) (own_of core wholes here.whole next w) s
    step_in (index e) here false of next f h s c w found_is =
        let made = make_in e (past f.used (past_whole here)) h.0 s.0 c (back_listed wholes (whole_of core here.whole next) (wholes_of core (here.whole + 1) e) w) in
        index_found core r wholes blocks of next here f (make (env_at core r) (past f.used (past_whole here)) e).items f.now found_is made.0 (index_whole core (type_at core of) (type_of e) next found_is.state h.1) (own_of core wholes here.whole next (front_listed wholes (whole_of core here.whole next) (wholes_of core (here.whole + 1) e) w)) s.1
    step_in (method id dispatch given) here false of next f h s c w found_is = absurd s
    step_in (prefixed o checked) here false of next f h s c w found_is = acts_found core r wholes blocks false of next here f (prefix o checked (type_at core of) here.temp) found_is (prefix_in core r wholes blocks o checked (type_at core of) here.temp) (own_of core wholes here.whole next w) s
    step_in (operate o checked e) here false of next f h s c w found_is =
        let goes = goes_on_at o (type_at core of) in
        let rest = back_listed wholes (whole_of core here.whole next) (wholes_of core here.whole e) w in
        let second = second_in core r wholes blocks here goes e (make_in e (past 1 here) h.0 s.0 c rest).0 (make_in e here h.0 s.0 c rest).0 in
        two_found core r wholes blocks goes o checked (type_at core of) next here (own (env_at core r) of here f) _ (owned core r wholes blocks false of here f found_is).0 second (own_of core wholes here.whole next (front_listed wholes (whole_of core here.whole next) (wholes_of core here.whole e) w)) s.1
    step_in (is to) here false of next f h s c w found_is = absurd (instance_not_solid (type_at core of) found_is.state h.0)
    step_in (apply function checked) here false of next f h s c w found_is = apply_found core r wholes blocks (measured core function of f.now) false function checked of next here f found_is (own_of core wholes here.whole next w) s
    step_in (copied e e') here false of next f h s c w found_is = record { items = found_is.items; own_is = own_of core wholes here.whole next w; now = found_is.now; state = s }
    step_in bracket here true of next f h s c w found_is =
        let o = owned core r wholes blocks true of here f found_is in
        record { items = o.0; own_is = own_of core wholes here.whole next w; now = o.1; state = text_kept core r wholes blocks of next here f f.now found_is.state found_is.state }
    step_in (index e) here true of next f h s c w found_is =
        let made = make_in e (past f.used (past_whole here)) h.0 s.0 c (back_listed wholes (whole_of core here.whole next) (wholes_of core (here.whole + 1) e) w) in
        pick_found core r wholes blocks of next here f (make (env_at core r) (past f.used (past_whole here)) e).items f.now found_is.state found_is.items made.0 (own_of core wholes here.whole next (front_listed wholes (whole_of core here.whole next) (wholes_of core (here.whole + 1) e) w)) s.1
    step_in (apply function checked) here true of next f h s c w found_is = apply_found core r wholes blocks (measured core function of f.now) true function checked of next here f found_is (own_of core wholes here.whole next w) s.1
    step_in _ here true of next f h s c w found_is = absurd s

    gather_in : (es : Elements) (here : Here) (base : TypeId) → AreElements core sees base es → EveryNode (simple_asks core) (elements_nodes es) → EveryNode counted_asks (elements_nodes es) → AreListed wholes (elements_wholes core here.whole es) → AreNamed wholes blocks (gather (env_at core r) here es)
    gather_in no_elements here base h s c w = tt
    gather_in (elements e es) here base h s c w =
        both wholes blocks (gather_one (env_at core r) here e) (then_do (act (combine Add here.temp here.temp (here.temp + 1))) (gather (env_at core r) here es))
        (member_in e here base h.0 s.0 c.0 (front_listed wholes (element_wholes core here.whole e) (elements_wholes core here.whole es) w))
        (tt, gather_in es here base h.1 s.1 c.1 (back_listed wholes (element_wholes core here.whole e) (elements_wholes core here.whole es) w))

    member_in : (m : Member) (here : Here) (base : TypeId) → IsElement core sees base m → EveryNode (simple_asks core) (element_nodes m) → EveryNode counted_asks (element_nodes m) → AreListed wholes (element_wholes core here.whole m) → AreNamed wholes blocks (gather_one (env_at core r) here m)
    member_in (one e) here base h s c w =
        both wholes blocks (make (env_at core r) (past 1 here) e).items (only (act (lone (here.temp + 1) (here.temp + 1)))) (make_in e (past 1 here) (value_typed core sees base e h).0 s c w).0 (tt, tt)
    member_in (range e e') here base h s c w =
        three wholes blocks (make (env_at core r) (past 1 here) e).items (make (env_at core r) (past 2 here) e').items (only (act (span (here.temp + 1) (here.temp + 1) (here.temp + 2))))
        (make_in e (past 1 here) (value_typed core sees base e h.0).0 s.0 c.0 (front_listed wholes (wholes_of core here.whole e) (wholes_of core here.whole e') w)).0
        (make_in e' (past 2 here) (value_typed core sees base e' h.1).0 s.1 c.1 (back_listed wholes (wholes_of core here.whole e) (wholes_of core here.whole e') w)).0 (tt, tt)

    pass_in : (ps : List Parameter) (as' : Arguments) (here : Here) → AreSolid core ps → AreArguments core sees ps as' → EveryNode (simple_asks core) (arguments_nodes as') → EveryNode counted_asks (arguments_nodes as') → AreListed wholes (arguments_wholes core here.whole as') → AreNamed wholes blocks (pass (env_at core r) here as').items × Every (GivenIn wholes) (pass (env_at core r) here as').given
    pass_in [] no_arguments here solid h s c w = (tt, tt)
    pass_in (p ∷ ps) (arguments a others) here solid h s c w =
        let first = pass_one (env_at core r) here a in
        let one_is = argument_in a here p (first_solid core p ps solid) h.0 s.0 c.0 (front_listed wholes (argument_wholes core here.whole a) (arguments_wholes core (here.whole + 1) others) w) in
        let rest = pass_in ps others (past first.used (past_whole here)) (others_solid core p ps solid) h.1 s.1 c.1 (back_listed wholes (argument_wholes core here.whole a) (arguments_wholes core (here.whole + 1) others) w) in
        (both wholes blocks first.items (pass (env_at core r) (past first.used (past_whole here)) others).items one_is.0 rest.0, (one_is.1, rest.1))
    pass_in [] (arguments a others) here solid h s c w = absurd h
    pass_in (p ∷ ps) no_arguments here solid h s c w = absurd h

    argument_in : (a : Argument) (here : Here) (p : Parameter) → IsSolidType core p.of → IsArgument core sees p a → EveryNode (simple_asks core) (argument_nodes a) → EveryNode counted_asks (argument_nodes a) → AreListed wholes (argument_wholes core here.whole a) → AreNamed wholes blocks (pass_one (env_at core r) here a).items × GivenIn wholes (pass_one (env_at core r) here a).given
    argument_in (value e) here p solid h s c w =
        let typed = value_typed core sees p.of e h.0 in
        let made = make_in e here typed.0 s c w in
        let same = one_back_solid core (type_of e) p.of typed.1 solid in
        (made.0, given_in core r wholes blocks (type_of e) here (subst (IsSolidType core) (sym same) solid) made.1)
    argument_in (place e) here p solid h s c w =
        let typed = (value_typed core sees p.of e h.0).0 in
        let f = find_in e here typed s c w in
        (f.items, place_in core r wholes blocks (type_of e) here (find (env_at core r) here e).now (place_at core r sees false e here typed s h.2) f.now)
    argument_in (array e) here p solid h s c w = absurd s
    argument_in (listed of es) here p solid h s c w = absurd s
