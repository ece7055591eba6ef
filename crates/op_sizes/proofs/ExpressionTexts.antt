-- The items of an expression have no other literals than the expression.
use Rattle.std.proofs.Common.{◌≡◌, ◌≤◌, ℕ, ℤ, pos, negsuc, ◌+◌, Bool, true, false, List, [], ◌∷◌, length, Option, Some, None, slice_get, refl, ap, arith, if◌then◌else◌}
use Rattle.op_core.specs.Expression.{Expression, expression, Root as Start, constant as fixed, variable, object, call, construct as constructed, set as bracketed, eof, eoln, Steps, no_steps, steps, Action as Doing, convert, bracket, field, index, method, prefixed, operate, is, apply, copy as copied, Elements, no_elements, elements, Element as Member, one, range, Arguments, no_arguments, arguments, Argument, value, place, array, listed}
use Rattle.op_core.specs.Sizes.{type_at}
use Rattle.op_core.specs.Typing.{type_after}
use Rattle.op_core.specs.declared.constant.Const.TheVariants.{Ordinal, Text, Set as SetOf, Nil as NilOf}
use Rattle.op_core.specs.declared.constant.Const.{Const}
use Rattle.op_core.specs.declared.ids.TypeId.{TypeId}
use Rattle.op_core.specs.declared.operation.Conversion.TheVariants.{Keep, LowBits, Check, ToString, ToInterface, Instance}
use Rattle.op_core.specs.declared.operation.Conversion.{Conversion}
use Rattle.op_core.specs.declared.operation.Function.TheVariants.{Succ, Pred, Abs, Sqr, Odd, UpCase}
use Rattle.op_core.specs.declared.operation.Function.{Function}
use Rattle.op_core.specs.declared.program.Core.{Core}
use Rattle.op_core.specs.declared.types.CoreType.TheVariants.{Integer, Boolean, Char, String, Nil, Nothing, EmptySet, Enumeration, Subrange, Set, Record, Array, DynamicArray, OpenArray, Class, Interface, Broken}
use Rattle.op_core.specs.declared.types.CoreType.{CoreType}
use Rattle.op_core.specs.declared.types.IntegerKind.TheVariants.{Signed32}
use Rattle.op_frames.specs.Counted.{IsCounted, counted_asks}
use Rattle.op_meaning.specs.Actions.{Action, constant, arithmetic, compare, complement, invert, pick, single as lone, span, combine}
use Rattle.op_meaning.specs.Every.{EveryNode, action_nodes, argument_nodes, arguments_nodes, element_nodes, elements_nodes, is_text, root_nodes, steps_nodes, text_after}
use Rattle.op_meaning.specs.Expressions.{Here, past, past_whole, Env, Now, ready, at_path, a_text, Found, loaded, own_by, own, then_acts, then_step, then_index_by, is_comparison, on_two, goes_on_at, second_here, two_by, is_boolean, prefix, converted_by, converted, moved, applied, measured, looked_at, applied_by, of_constant, receiver_of, result_of, find, make, find_root, find_steps, find_step, gather, gather_one, pass, pass_one}
use Rattle.op_meaning.specs.Items.{act, also, enter, Items, none, then_do, ◌&◌, only, acts}
use Rattle.op_meaning.specs.Paths.{Path, field as part_field}
use Rattle.op_meaning.specs.Shapes.{Shape, single, composite, of_chars, of_elements, of_instance, shape_of, field_number}
use Rattle.op_sizes.proofs.TextsKept.{action_text, items_text, total, total_join}
use Rattle.op_sizes.specs.Texts.{constant_texts, expression_texts, root_texts, steps_texts, action_texts, elements_texts, element_texts, arguments_texts, argument_texts}
use Rattle.op_tree.specs.declared.operator.Operator.TheVariants.{Add, In_, Subtract}
use Rattle.op_tree.specs.declared.operator.Operator.{Operator}
use Rattle.op_tree.specs.declared.operator.PrefixOperator.TheVariants.{Not, Plus, Minus}
use Rattle.op_tree.specs.declared.operator.PrefixOperator.{PrefixOperator}

module _ (w : List ℕ → ℕ) (g : Core) where
  -- ---- items

  pub both_text : (a b : Items) → items_text w g (a & b) ≡ items_text w g a + items_text w g b
  both_text none b = omega arith
  both_text (then_do i a) b = let e = both_text a b in omega (arith, e)

  pub three_text : (a b c : Items) → items_text w g (a & (b & c)) ≡ items_text w g a + (items_text w g b + items_text w g c)
  three_text a b c = let e = both_text a (b & c) in let f = both_text b c in omega (arith, e, f)

  abbrev pub actions_text : List Action → ℕ
  actions_text [] = 0
  actions_text (a ∷ others) = action_text w g a + actions_text others

  pub acts_text : (actions : List Action) → items_text w g (acts actions) ≡ actions_text actions
  acts_text [] = refl
  acts_text (a ∷ others) = let e = acts_text others in omega (arith, e)

  -- ---- where a value is: a text that is not taken yet counts too

  abbrev pub now_text : Now → ℕ
  now_text ready = 0
  now_text (at_path p) = 0
  now_text (a_text bytes) = w bytes

  abbrev pub found_text : Found → ℕ
  found_text f = items_text w g f.items + now_text f.now

  loaded_keeps : (s : Shape) (of : TypeId) (here : Here) (p : Path) → items_text w g (loaded s of here p) ≤ 0
  loaded_keeps (single kind) of here p = omega arith
  loaded_keeps composite of here p = omega arith
  loaded_keeps of_chars of here p = omega arith
  loaded_keeps of_elements of here p = omega arith
  loaded_keeps (of_instance holds) of here p = omega arith

  own_now : (core : Core) (of : TypeId) (here : Here) (f : Found) (now : Now) → f.now ≡ now → found_text (own_by core of here f now) ≤ found_text f
  own_now core of here f ready e = omega arith
  own_now core of here f (a_text bytes) e = omega arith
  own_now core of here f (at_path p) e =
      let l = loaded_keeps (shape_of core of) of here p in
      let all = both_text f.items (loaded (shape_of core of) of here p) in
      let now = ap now_text e in
      omega (arith, l, all, now)

  pub own_keeps : (env : Env) (of : TypeId) (here : Here) (f : Found) → found_text (own env of here f) ≤ found_text f
  own_keeps env of here f = own_now env.core of here f f.now refl

  pub then_text : (f : Found) (actions : List Action) → found_text (then_acts f actions) ≡ found_text f + actions_text actions
  then_text f actions = let e = both_text f.items (acts actions) in let a = acts_text actions in omega (arith, e, a)

  -- ---- conversions, operators and functions

  checked_keeps : (core : Core) (to : TypeId) (of : Option CoreType) (t : ℕ) → actions_text (converted_by core Check to of t) ≤ 0
  checked_keeps core to None t = omega arith
  checked_keeps core to (Some (Set base)) t = omega arith
  checked_keeps core to (Some (Integer kind)) t = omega arith
  checked_keeps core to (Some Boolean) t = omega arith
  checked_keeps core to (Some Char) t = omega arith
  checked_keeps core to (Some String) t = omega arith
  checked_keeps core to (Some Nil) t = omega arith
  checked_keeps core to (Some Nothing) t = omega arith
  checked_keeps core to (Some EmptySet) t = omega arith
  checked_keeps core to (Some (Enumeration values)) t = omega arith
  checked_keeps core to (Some (Subrange base low high)) t = omega arith
  checked_keeps core to (Some (Record fields)) t = omega arith
  checked_keeps core to (Some (Array at element)) t = omega arith
  checked_keeps core to (Some (DynamicArray element)) t = omega arith
  checked_keeps core to (Some (OpenArray element)) t = omega arith
  checked_keeps core to (Some (Class k)) t = omega arith
  checked_keeps core to (Some (Interface k)) t = omega arith
  checked_keeps core to (Some Broken) t = omega arith

  low_keeps : (core : Core) (to : TypeId) (of : Option CoreType) (t : ℕ) → actions_text (converted_by core LowBits to of t) ≤ 0
  low_keeps core to (Some (Integer kind)) t = omega arith
  low_keeps core to (Some Char) t = omega arith
  low_keeps core to _ t = omega arith

  converted_keeps_by : (core : Core) (c : Conversion) (to : TypeId) (of : Option CoreType) (t : ℕ) → actions_text (converted_by core c to of t) ≤ 0
  converted_keeps_by core LowBits to of t = low_keeps core to of t
  converted_keeps_by core Check to of t = checked_keeps core to of t
  converted_keeps_by core Keep to of t = omega arith
  converted_keeps_by core ToString to of t = omega arith
  converted_keeps_by core ToInterface to of t = omega arith
  converted_keeps_by core Instance to of t = omega arith

  pub converted_keeps : (core : Core) (c : Conversion) (to : TypeId) (t : ℕ) → actions_text (converted core c to t) ≤ 0
  converted_keeps core c to t = converted_keeps_by core c to (type_at core to) t

  not_keeps : (whether : Bool) (t : ℕ) → actions_text (if whether then invert t t ∷ [] else complement t t ∷ []) ≤ 0
  not_keeps true t = omega arith
  not_keeps false t = omega arith

  prefix_keeps : (o : PrefixOperator) (checked : Bool) (of : Option CoreType) (t : ℕ) → actions_text (prefix o checked of t) ≤ 0
  prefix_keeps Plus checked of t = omega arith
  prefix_keeps Minus checked of t = omega arith
  prefix_keeps Not checked of t = not_keeps (is_boolean of) t

  compared_keeps : (whether : Bool) (o : Operator) (checked : Bool) (t : ℕ) → action_text w g (if whether then compare o t t (t + 1) else arithmetic o checked t t (t + 1)) ≤ 0
  compared_keeps true o checked t = omega arith
  compared_keeps false o checked t = omega arith

  on_two_keeps : (o : Operator) (checked : Bool) (of : Option CoreType) (t : ℕ) → action_text w g (on_two o checked of t) ≤ 0
  on_two_keeps o checked (Some (Set base)) t = omega arith
  on_two_keeps In_ checked _ t = omega arith
  on_two_keeps o checked _ t = compared_keeps (is_comparison o) o checked t

  moved_keeps : (core : Core) (o : Operator) (distance : ℤ) (checked : Bool) (of : TypeId) (type : Option CoreType) (t : ℕ) → actions_text (moved core o distance checked of type t) ≤ 0
  moved_keeps core o distance checked of (Some (Integer Signed32)) t = omega arith
  moved_keeps core o distance checked of _ t = omega arith

  applied_keeps : (core : Core) (function : Function) (checked : Bool) (of : TypeId) (t : ℕ) → actions_text (applied core function checked of t) ≤ 0
  applied_keeps core Succ checked of t = moved_keeps core Add (pos 1) checked of (type_at core of) t
  applied_keeps core Pred checked of t = moved_keeps core Subtract (negsuc 0) checked of (type_at core of) t
  applied_keeps core Abs checked of t = omega arith
  applied_keeps core Sqr checked of t = omega arith
  applied_keeps core Odd checked of t = omega arith
  applied_keeps core UpCase checked of t = omega arith
  applied_keeps core _ checked of t = omega arith

  -- ---- single steps

  field_keeps : (here : Here) (of : TypeId) (k : ℕ) (f : Found) → found_text (then_step of here (part_field of k) 0 f) ≤ found_text f
  field_keeps here of k f = omega arith

  index_keeps : (core : Core) (here : Here) (of : TypeId) (f : Found) (i : Items) (now : Now) → f.now ≡ now → found_text (then_index_by core of here f i now) ≤ found_text f + items_text w g i
  index_keeps core here of f i (a_text bytes) e = let all = three_text f.items i (only (act (pick here.temp bytes here.temp))) in let now = ap now_text e in omega (arith, all, now)
  index_keeps core here of f i ready e = let all = both_text f.items i in omega (arith, all)
  index_keeps core here of f i (at_path path) e = let all = both_text f.items i in omega (arith, all)

  looked_keeps : (now : Now) → items_text w g (looked_at now) ≤ now_text now
  looked_keeps ready = omega arith
  looked_keeps (a_text bytes) = omega arith
  looked_keeps (at_path p) = omega arith

  apply_keeps : (o : Option ℤ) (env : Env) (function : Function) (checked : Bool) (of : TypeId) (here : Here) (f : Found) → found_text (applied_by o env function checked of here f) ≤ found_text f
  apply_keeps None env function checked of here f =
      let o = own_keeps env of here f in
      let a = applied_keeps env.core function checked of here.temp in
      let all = then_text (own env of here f) (applied env.core function checked of here.temp) in
      omega (arith, o, a, all)
  apply_keeps (Some k) env function checked of here f =
      let l = looked_keeps f.now in
      let all = three_text f.items (looked_at f.now) (only (act (constant here.temp k))) in
      omega (arith, l, all)

  two_keeps : (goes : Option Bool) (o : Operator) (checked : Bool) (of : Option CoreType) (here : Here) (f : Found) (second : Items) → found_text (two_by goes o checked of here f second) ≤ found_text f + items_text w g second
  two_keeps None o checked of here f second =
      let a = on_two_keeps o checked of here.temp in
      let all = three_text f.items second (only (act (on_two o checked of here.temp))) in
      omega (arith, a, all)
  two_keeps (Some truth) o checked of here f second = let all = both_text f.items (only (also truth here.temp second)) in omega (arith, all)

  constant_keeps : (c : Const) (t : ℕ) → found_text (of_constant c t) ≤ total w (constant_texts c)
  constant_keeps (Ordinal k) t = omega arith
  constant_keeps (SetOf es) t = omega arith
  constant_keeps (Text bytes) t = omega arith
  constant_keeps NilOf t = omega arith

  -- ---- expressions

  second_keeps : (env : Env) (here : Here) (goes : Option Bool) (e : Expression) (n : ℕ) → items_text w g (make env (past 1 here) e).items ≤ n → items_text w g (make env here e).items ≤ n → items_text w g (make env (second_here goes here) e).items ≤ n
  second_keeps env here None e n a b = a
  second_keeps env here (Some truth) e n a b = b

  mutual
    pub find_keeps : (env : Env) (here : Here) (e : Expression) → IsCounted e → found_text (find env here e) ≤ total w (expression_texts e)
    find_keeps env here (expression root of others) c =
        let r = root_keeps env here of root c.0 in
        let s = steps_keeps env here of others (is_text root) (total w (root_texts root)) (find_root env here of root) c.1 r in
        let j = total_join w (root_texts root) (steps_texts others) in
        omega (arith, s, j)

    pub make_keeps : (env : Env) (here : Here) (e : Expression) → IsCounted e → found_text (make env here e) ≤ total w (expression_texts e)
    make_keeps env here (expression root of others) c =
        let r = root_keeps env here of root c.0 in
        let s = steps_keeps env here of others (is_text root) (total w (root_texts root)) (find_root env here of root) c.1 r in
        let o = own_keeps env (type_after of others) here (find_steps env here of others (find_root env here of root)) in
        let j = total_join w (root_texts root) (steps_texts others) in
        omega (arith, s, o, j)

    root_keeps : (env : Env) (here : Here) (of : TypeId) (root : Start) → EveryNode counted_asks (root_nodes root of) → found_text (find_root env here of root) ≤ total w (root_texts root)
    root_keeps env here of (fixed v nodes words) c = constant_keeps v here.temp
    root_keeps env here of (variable id) c = omega arith
    root_keeps env here of (object id) c = absurd c
    root_keeps env here of (call id given) c =
        let p = pass_keeps env (past_whole here) given c in
        let passing = pass env (past_whole here) given in
        let all = both_text passing.items (only (enter id.0 passing.given (receiver_of env.core (result_of (slice_get env.core.routines id.0)) here))) in
        omega (arith, p, all)
    root_keeps env here of (constructed k id given) c = absurd c
    root_keeps env here of (bracketed es) c = let g = gather_keeps env here es c in omega (arith, g)
    root_keeps env here of eof c = omega arith
    root_keeps env here of eoln c = omega arith

    steps_keeps : (env : Env) (here : Here) (of : TypeId) (ss : Steps) (text : Bool) (n : ℕ) (f : Found) → EveryNode counted_asks (steps_nodes text ss) → found_text f ≤ n → found_text (find_steps env here of ss f) ≤ n + total w (steps_texts ss)
    steps_keeps env here of no_steps text n f c less = omega (arith, less)
    steps_keeps env here of (steps action next others) text n f c less =
        let g = step_keeps env here of action next n f c.0 less in
        let rest = steps_keeps env here next others (text_after text action) (n + total w (action_texts action)) (find_step env here of action next f) c.1 g in
        let j = total_join w (action_texts action) (steps_texts others) in
        omega (arith, rest, j)

    step_keeps : (env : Env) (here : Here) (of : TypeId) (action : Doing) (to : TypeId) (n : ℕ) (f : Found) → EveryNode counted_asks (action_nodes action) → found_text f ≤ n → found_text (find_step env here of action to f) ≤ n + total w (action_texts action)
    step_keeps env here of (convert k origin) to n f c less =
        let o = own_keeps env of here f in
        let a = converted_keeps env.core k to here.temp in
        let all = then_text (own env of here f) (converted env.core k to here.temp) in
        omega (arith, o, a, all, less)
    step_keeps env here of bracket to n f c less = let o = own_keeps env of here f in omega (arith, o, less)
    step_keeps env here of (field id) to n f c less = let s = field_keeps here of (field_number env.core of id) f in omega (arith, s, less)
    step_keeps env here of (index e) to n f c less =
        let i = make_keeps env (past f.used (past_whole here)) e c in
        let s = index_keeps env.core here of f (make env (past f.used (past_whole here)) e).items f.now refl in
        omega (arith, i, s, less)
    step_keeps env here of (prefixed o checked) to n f c less =
        let g = own_keeps env of here f in
        let a = prefix_keeps o checked (type_at env.core of) here.temp in
        let all = then_text (own env of here f) (prefix o checked (type_at env.core of) here.temp) in
        omega (arith, g, a, all, less)
    step_keeps env here of (operate o checked e) to n f c less =
        let g = own_keeps env of here f in
        let behind = make_keeps env (past 1 here) e c in
        let instead = make_keeps env here e c in
        let goes = goes_on_at o (type_at env.core of) in
        let second = second_keeps env here goes e (total w (expression_texts e)) (omega (arith, behind)) (omega (arith, instead)) in
        let t = two_keeps goes o checked (type_at env.core of) here (own env of here f) (make env (second_here goes here) e).items in
        omega (arith, g, second, t, less)
    step_keeps env here of (apply function checked) to n f c less =
        let a = apply_keeps (measured env.core function of f.now) env function checked of here f in
        omega (arith, a, less)
    step_keeps env here of (method id dispatch given) to n f c less = omega (arith, less)
    step_keeps env here of (is class) to n f c less = omega (arith, less)
    step_keeps env here of (copied e e') to n f c less = omega (arith, less)

    gather_keeps : (env : Env) (here : Here) (es : Elements) → EveryNode counted_asks (elements_nodes es) → items_text w g (gather env here es) ≤ total w (elements_texts es)
    gather_keeps env here no_elements c = omega arith
    gather_keeps env here (elements e es) c =
        let first = member_keeps env here e c.0 in
        let rest = gather_keeps env here es c.1 in
        let all = both_text (gather_one env here e) (then_do (act (combine Add here.temp here.temp (here.temp + 1))) (gather env here es)) in
        let j = total_join w (element_texts e) (elements_texts es) in
        omega (arith, first, rest, all, j)

    member_keeps : (env : Env) (here : Here) (m : Member) → EveryNode counted_asks (element_nodes m) → items_text w g (gather_one env here m) ≤ total w (element_texts m)
    member_keeps env here (one e) c =
        let i = make_keeps env (past 1 here) e c in
        let all = both_text (make env (past 1 here) e).items (only (act (lone (here.temp + 1) (here.temp + 1)))) in
        omega (arith, i, all)
    member_keeps env here (range e e') c =
        let i = make_keeps env (past 1 here) e c.0 in
        let j = make_keeps env (past 2 here) e' c.1 in
        let all = three_text (make env (past 1 here) e).items (make env (past 2 here) e').items (only (act (span (here.temp + 1) (here.temp + 1) (here.temp + 2)))) in
        let both = total_join w (expression_texts e) (expression_texts e') in
        omega (arith, i, j, all, both)

    pass_keeps : (env : Env) (here : Here) (as' : Arguments) → EveryNode counted_asks (arguments_nodes as') → items_text w g (pass env here as').items ≤ total w (arguments_texts as')
    pass_keeps env here no_arguments c = omega arith
    pass_keeps env here (arguments a others) c =
        let first = pass_one env here a in
        let rest = pass env (past first.used (past_whole here)) others in
        let f = one_keeps env here a c.0 in
        let r = pass_keeps env (past first.used (past_whole here)) others c.1 in
        let all = both_text first.items rest.items in
        let j = total_join w (argument_texts a) (arguments_texts others) in
        omega (arith, f, r, all, j)

    one_keeps : (env : Env) (here : Here) (a : Argument) → EveryNode counted_asks (argument_nodes a) → items_text w g (pass_one env here a).items ≤ total w (argument_texts a)
    one_keeps env here (value e) c = let i = make_keeps env here e c in omega (arith, i)
    one_keeps env here (place e) c = let i = find_keeps env here e c in omega (arith, i)
    one_keeps env here (array e) c = let i = find_keeps env here e c in omega (arith, i)
    one_keeps env here (listed of es) c = omega arith
