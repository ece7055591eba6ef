-- The items of an expression come to no more code than its nodes allow, with room for what takes its value from its place.
use Rattle.std.proofs.Common.{◌≡◌, ◌≤◌, ℕ, ℤ, pos, negsuc, ◌+◌, ◌*◌, Bool, true, false, List, [], ◌∷◌, length, Option, Some, None, slice_get, refl, ap, arith, if◌then◌else◌}
use Rattle.std.proofs.lemmas.List.{length_push}
use Rattle.op_core.specs.Expression.{Expression, expression, Root as Start, constant as fixed, variable, object, call, construct as constructed, set as bracketed, eof, eoln, Steps, no_steps, steps, Action as Doing, convert, bracket, field, index, method, prefixed, operate, is, apply, copy as copied, Elements, no_elements, elements, Element as Member, one, range, Arguments, no_arguments, arguments, Argument, value, place, array, listed}
use Rattle.op_core.specs.Sizes.{type_at}
use Rattle.op_core.specs.Typing.{type_of, type_after}
use Rattle.op_core.specs.declared.constant.Const.{Const}
use Rattle.op_core.specs.declared.constant.Const.TheVariants.{Ordinal, Text, Set as SetOf, Nil as NilOf}
use Rattle.op_core.specs.declared.ids.TypeId.{TypeId}
use Rattle.op_core.specs.declared.operation.Conversion.{Conversion}
use Rattle.op_core.specs.declared.operation.Conversion.TheVariants.{Keep, LowBits, Check, ToString, ToInterface, Instance}
use Rattle.op_core.specs.declared.operation.Function.{Function}
use Rattle.op_core.specs.declared.operation.Function.TheVariants.{Succ, Pred, Abs, Sqr, Odd, UpCase}
use Rattle.op_core.specs.declared.operation.Origin.TheVariants.{Implied, Cast, As_}
use Rattle.op_core.specs.declared.program.Core.{Core}
use Rattle.op_core.specs.declared.types.CoreType.{CoreType}
use Rattle.op_core.specs.declared.types.CoreType.TheVariants.{Integer, Boolean, Char, String, Nil, Nothing, EmptySet, Enumeration, Subrange, Set, Record, Array, DynamicArray, OpenArray, Class, Interface, Broken}
use Rattle.op_core.specs.declared.types.IntegerKind.TheVariants.{Signed32}
use Rattle.op_frames.proofs.ExpressionsWithin.{listed_node, valued_node}
use Rattle.op_frames.specs.Counted.{IsCounted, counted_asks}
use Rattle.op_meaning.specs.Actions.{Action, constant, arithmetic, compare, complement, invert, pick, single as lone, span, combine}
use Rattle.op_meaning.specs.Charge.{nodes_of, expression_weight, root_weight, steps_weight, action_weight, elements_weight, element_weight, arguments_weight, argument_weight, count_of}
use Rattle.op_meaning.specs.Every.{EveryNode, action_nodes, argument_nodes, arguments_nodes, element_nodes, elements_nodes, is_text, root_nodes, steps_nodes, text_after}
use Rattle.op_meaning.specs.Expressions.{Here, past, past_whole, Env, Now, ready, at_path, a_text, Found, path_of, loaded, own_by, own, then_acts, then_step, element_step, then_index_by, is_comparison, on_two, goes_on_at, second_here, two_by, is_boolean, prefix, converted_by, converted, moved, applied, measured, looked_at, applied_by, of_constant, receiver_by, receiver_of, result_of, given_by, find, make, find_root, find_steps, find_step, gather, gather_one, pass, pass_one}
use Rattle.op_meaning.specs.Items.{act, also, enter, Items, none, then_do, ◌&◌, only, acts}
use Rattle.op_meaning.specs.Paths.{Path, field as part_field}
use Rattle.op_meaning.specs.Shapes.{Shape, single, composite, of_chars, of_elements, of_instance, shape_of, field_number}
use Rattle.op_sizes.specs.Sizes.{action_size, given_size, givens_size, receiver_size, items_size}
use Rattle.op_sizes.specs.Written.{is_implied, MayFollow, IsWritten, AreApart, written_asks}
use Rattle.op_tree.specs.declared.operator.Operator.{Operator}
use Rattle.op_tree.specs.declared.operator.Operator.TheVariants.{Add, In_, Subtract}
use Rattle.op_tree.specs.declared.operator.PrefixOperator.{PrefixOperator}
use Rattle.op_tree.specs.declared.operator.PrefixOperator.TheVariants.{Not, Plus, Minus}

-- ---- items

pub both_size : (a b : Items) → items_size (a & b) ≡ items_size a + items_size b
both_size none b = omega arith
both_size (then_do i a) b = let e = both_size a b in omega (arith, e)

pub three_size : (a b c : Items) → items_size (a & (b & c)) ≡ items_size a + (items_size b + items_size c)
three_size a b c = let e = both_size a (b & c) in let f = both_size b c in omega (arith, e, f)

abbrev pub actions_size : List Action → ℕ
actions_size [] = 0
actions_size (a ∷ others) = action_size a + actions_size others

pub acts_size : (actions : List Action) → items_size (acts actions) ≡ actions_size actions
acts_size [] = refl
acts_size (a ∷ others) = let e = acts_size others in omega (arith, e)

-- ---- where a value is: with what its load, its copy or two uses of its place come to

abbrev pub now_size : Now → ℕ
now_size ready = 0
now_size (at_path p) = 24 + 14 * length p.steps
now_size (a_text bytes) = 0

abbrev pub found_size : Found → ℕ
found_size f = items_size f.items + now_size f.now

pub path_small : (of : TypeId) (here : Here) (now : Now) → 14 * length (path_of of here now).steps ≤ now_size now
path_small of here ready = omega arith
path_small of here (at_path p) = omega arith
path_small of here (a_text bytes) = omega arith

loaded_small : (s : Shape) (of : TypeId) (here : Here) (p : Path) → items_size (loaded s of here p) ≤ 24 + 14 * length p.steps
loaded_small (single kind) of here p = omega arith
loaded_small composite of here p = omega arith
loaded_small of_chars of here p = omega arith
loaded_small of_elements of here p = omega arith
loaded_small (of_instance holds) of here p = omega arith

own_now : (core : Core) (of : TypeId) (here : Here) (f : Found) (now : Now) → f.now ≡ now → found_size (own_by core of here f now) ≤ found_size f
own_now core of here f ready e = omega arith
own_now core of here f (a_text bytes) e = omega arith
own_now core of here f (at_path p) e =
    let l = loaded_small (shape_of core of) of here p in
    let all = both_size f.items (loaded (shape_of core of) of here p) in
    let now = ap now_size e in
    omega (arith, l, all, now)

pub own_small : (env : Env) (of : TypeId) (here : Here) (f : Found) → found_size (own env of here f) ≤ found_size f
own_small env of here f = own_now env.core of here f f.now refl

pub then_size : (f : Found) (actions : List Action) → found_size (then_acts f actions) ≡ found_size f + actions_size actions
then_size f actions = let e = both_size f.items (acts actions) in let a = acts_size actions in omega (arith, e, a)

-- ---- conversions, operators and functions

checked_small : (core : Core) (to : TypeId) (of : Option CoreType) (t : ℕ) → actions_size (converted_by core Check to of t) ≤ 5
checked_small core to None t = omega arith
checked_small core to (Some (Set base)) t = omega arith
checked_small core to (Some (Integer kind)) t = omega arith
checked_small core to (Some Boolean) t = omega arith
checked_small core to (Some Char) t = omega arith
checked_small core to (Some String) t = omega arith
checked_small core to (Some Nil) t = omega arith
checked_small core to (Some Nothing) t = omega arith
checked_small core to (Some EmptySet) t = omega arith
checked_small core to (Some (Enumeration values)) t = omega arith
checked_small core to (Some (Subrange base low high)) t = omega arith
checked_small core to (Some (Record fields)) t = omega arith
checked_small core to (Some (Array at element)) t = omega arith
checked_small core to (Some (DynamicArray element)) t = omega arith
checked_small core to (Some (OpenArray element)) t = omega arith
checked_small core to (Some (Class k)) t = omega arith
checked_small core to (Some (Interface k)) t = omega arith
checked_small core to (Some Broken) t = omega arith

low_small : (core : Core) (to : TypeId) (of : Option CoreType) (t : ℕ) → actions_size (converted_by core LowBits to of t) ≤ 5
low_small core to (Some (Integer kind)) t = omega arith
low_small core to (Some Char) t = omega arith
low_small core to _ t = omega arith

converted_small_by : (core : Core) (c : Conversion) (to : TypeId) (of : Option CoreType) (t : ℕ) → actions_size (converted_by core c to of t) ≤ 5
converted_small_by core LowBits to of t = low_small core to of t
converted_small_by core Check to of t = checked_small core to of t
converted_small_by core Keep to of t = omega arith
converted_small_by core ToString to of t = omega arith
converted_small_by core ToInterface to of t = omega arith
converted_small_by core Instance to of t = omega arith

pub converted_small : (core : Core) (c : Conversion) (to : TypeId) (t : ℕ) → actions_size (converted core c to t) ≤ 5
converted_small core c to t = converted_small_by core c to (type_at core to) t

not_small : (whether : Bool) (t : ℕ) → actions_size (if whether then invert t t ∷ [] else complement t t ∷ []) ≤ 6
not_small true t = omega arith
not_small false t = omega arith

prefix_small : (o : PrefixOperator) (checked : Bool) (of : Option CoreType) (t : ℕ) → actions_size (prefix o checked of t) ≤ 6
prefix_small Plus checked of t = omega arith
prefix_small Minus checked of t = omega arith
prefix_small Not checked of t = not_small (is_boolean of) t

compared_small : (whether : Bool) (o : Operator) (checked : Bool) (t : ℕ) → action_size (if whether then compare o t t (t + 1) else arithmetic o checked t t (t + 1)) ≤ 7
compared_small true o checked t = omega arith
compared_small false o checked t = omega arith

on_two_small : (o : Operator) (checked : Bool) (of : Option CoreType) (t : ℕ) → action_size (on_two o checked of t) ≤ 7
on_two_small o checked (Some (Set base)) t = omega arith
on_two_small In_ checked _ t = omega arith
on_two_small o checked _ t = compared_small (is_comparison o) o checked t

moved_small : (core : Core) (o : Operator) (distance : ℤ) (checked : Bool) (of : TypeId) (type : Option CoreType) (t : ℕ) → actions_size (moved core o distance checked of type t) ≤ 8
moved_small core o distance checked of (Some (Integer Signed32)) t = omega arith
moved_small core o distance checked of _ t = omega arith

applied_small : (core : Core) (function : Function) (checked : Bool) (of : TypeId) (t : ℕ) → actions_size (applied core function checked of t) ≤ 8
applied_small core Succ checked of t = moved_small core Add (pos 1) checked of (type_at core of) t
applied_small core Pred checked of t = moved_small core Subtract (negsuc 0) checked of (type_at core of) t
applied_small core Abs checked of t = omega arith
applied_small core Sqr checked of t = omega arith
applied_small core Odd checked of t = omega arith
applied_small core UpCase checked of t = omega arith
applied_small core _ checked of t = omega arith

-- ---- single steps

field_small : (here : Here) (of : TypeId) (k : ℕ) (f : Found) → found_size (then_step of here (part_field of k) 0 f) ≤ found_size f + 38
field_small here of k f =
    let p = path_small of here f.now in
    let longer = length_push (path_of of here f.now).steps (part_field of k) in
    omega (arith, p, longer)

index_small : (core : Core) (here : Here) (of : TypeId) (f : Found) (i : Items) (now : Now) → found_size (then_index_by core of here f i now) ≤ found_size f + items_size i + 38
index_small core here of f i (a_text bytes) = let all = three_size f.items i (only (act (pick here.temp bytes here.temp))) in omega (arith, all)
index_small core here of f i ready =
    let p = path_small of here f.now in
    let longer = length_push (path_of of here f.now).steps (element_step core of (here.temp + f.used)) in
    let all = both_size f.items i in
    omega (arith, p, longer, all)
index_small core here of f i (at_path path) =
    let p = path_small of here f.now in
    let longer = length_push (path_of of here f.now).steps (element_step core of (here.temp + f.used)) in
    let all = both_size f.items i in
    omega (arith, p, longer, all)

looked_small : (now : Now) → items_size (looked_at now) ≤ now_size now
looked_small ready = omega arith
looked_small (a_text bytes) = omega arith
looked_small (at_path p) = omega arith

apply_small : (o : Option ℤ) (env : Env) (function : Function) (checked : Bool) (of : TypeId) (here : Here) (f : Found) → found_size (applied_by o env function checked of here f) ≤ found_size f + 8
apply_small None env function checked of here f =
    let o = own_small env of here f in
    let a = applied_small env.core function checked of here.temp in
    let all = then_size (own env of here f) (applied env.core function checked of here.temp) in
    omega (arith, o, a, all)
apply_small (Some k) env function checked of here f =
    let l = looked_small f.now in
    let all = three_size f.items (looked_at f.now) (only (act (constant here.temp k))) in
    omega (arith, l, all)

two_small : (goes : Option Bool) (o : Operator) (checked : Bool) (of : Option CoreType) (here : Here) (f : Found) (second : Items) → found_size (two_by goes o checked of here f second) ≤ found_size f + items_size second + 7
two_small None o checked of here f second =
    let a = on_two_small o checked of here.temp in
    let all = three_size f.items second (only (act (on_two o checked of here.temp))) in
    omega (arith, a, all)
two_small (Some truth) o checked of here f second = let all = both_size f.items (only (also truth here.temp second)) in omega (arith, all)

constant_small : (c : Const) (t : ℕ) → found_size (of_constant c t) ≤ 1
constant_small (Ordinal k) t = omega arith
constant_small (SetOf es) t = omega arith
constant_small (Text bytes) t = omega arith
constant_small NilOf t = omega arith

-- ---- calls

given_small : (s : Shape) (of : TypeId) (here : Here) → given_size (given_by s of here) ≤ 4
given_small (single kind) of here = omega arith
given_small composite of here = omega arith
given_small of_chars of here = omega arith
given_small of_elements of here = omega arith
given_small (of_instance holds) of here = omega arith

receiver_shape : (s : Shape) (of : TypeId) (here : Here) → receiver_size (receiver_by s of here) ≤ 3
receiver_shape (single kind) of here = omega arith
receiver_shape composite of here = omega arith
receiver_shape of_chars of here = omega arith
receiver_shape of_elements of here = omega arith
receiver_shape (of_instance holds) of here = omega arith

receiver_small : (core : Core) (result : Option TypeId) (here : Here) → receiver_size (receiver_of core result here) ≤ 3
receiver_small core None here = omega arith
receiver_small core (Some of) here = receiver_shape (shape_of core of) of here

-- ---- nodes

-- ---- expressions

-- room for one conversion that is not written
abbrev spare : (implied : Bool) → ℕ
spare true = 0
spare false = 5

second_small : (env : Env) (here : Here) (goes : Option Bool) (e : Expression) (n : ℕ) → items_size (make env (past 1 here) e).items ≤ n → items_size (make env here e).items ≤ n → items_size (make env (second_here goes here) e).items ≤ n
second_small env here None e n a b = a
second_small env here (Some truth) e n a b = b

mutual
  pub find_small : (env : Env) (here : Here) (e : Expression) → IsCounted e → IsWritten e → found_size (find env here e) + 8 ≤ 44 * nodes_of (expression_weight env.core e)
  find_small env here (expression root of others) c w =
      let r = root_small env here of root c.0 w.0 in
      steps_small env here of others (is_text root) false (nodes_of (root_weight env.core of root)) (find_root env here of root) c.1 w.1.0 w.1.1 (omega (arith, r))

  pub make_small : (env : Env) (here : Here) (e : Expression) → IsCounted e → IsWritten e → found_size (make env here e) + 8 ≤ 44 * nodes_of (expression_weight env.core e)
  make_small env here (expression root of others) c w =
      let r = root_small env here of root c.0 w.0 in
      let s = steps_small env here of others (is_text root) false (nodes_of (root_weight env.core of root)) (find_root env here of root) c.1 w.1.0 w.1.1 (omega (arith, r)) in
      let o = own_small env (type_after of others) here (find_steps env here of others (find_root env here of root)) in
      omega (arith, s, o)

  root_small : (env : Env) (here : Here) (of : TypeId) (root : Start) → EveryNode counted_asks (root_nodes root of) → EveryNode written_asks (root_nodes root of) → found_size (find_root env here of root) + 13 ≤ 44 * nodes_of (root_weight env.core of root)
  root_small env here of (fixed v nodes words) c w = let e = constant_small v here.temp in omega (arith, c, e)
  root_small env here of (variable id) c w = let e = valued_node env.core of in omega (arith, e)
  root_small env here of (object id) c w = absurd c
  root_small env here of (call id given) c w =
      let e = valued_node env.core of in
      let p = pass_small env (past_whole here) given c w in
      let passing = pass env (past_whole here) given in
      let to = receiver_small env.core (result_of (slice_get env.core.routines id.0)) here in
      let all = both_size passing.items (only (enter id.0 passing.given (receiver_of env.core (result_of (slice_get env.core.routines id.0)) here))) in
      omega (arith, e, p, to, all)
  root_small env here of (constructed k id given) c w = absurd c
  root_small env here of (bracketed es) c w =
      let e = valued_node env.core of in
      let g = gather_small env here es c w in
      omega (arith, e, g)
  root_small env here of eof c w = let e = valued_node env.core of in omega (arith, e)
  root_small env here of eoln c w = let e = valued_node env.core of in omega (arith, e)

  steps_small : (env : Env) (here : Here) (of : TypeId) (ss : Steps) (text implied : Bool) (n : ℕ) (f : Found) → EveryNode counted_asks (steps_nodes text ss) → AreApart implied ss → EveryNode written_asks (steps_nodes text ss) → found_size f + 8 + spare implied ≤ 44 * n → found_size (find_steps env here of ss f) + 8 ≤ 44 * (n + nodes_of (steps_weight env.core ss))
  steps_small env here of no_steps text implied n f c m w less = omega (arith, less)
  steps_small env here of (steps action next others) text implied n f c m w less =
      let a = nodes_of (action_weight env.core next action) in
      let g = step_small env here of action next implied n f c.0 m.0 w.0 less in
      let rest = steps_small env here next others (text_after text action) (is_implied action) (n + a) (find_step env here of action next f) c.1 m.1 w.1 g in
      omega (arith, rest)

  step_small : (env : Env) (here : Here) (of : TypeId) (action : Doing) (to : TypeId) (implied : Bool) (n : ℕ) (f : Found) → EveryNode counted_asks (action_nodes action) → MayFollow implied action → EveryNode written_asks (action_nodes action) → found_size f + 8 + spare implied ≤ 44 * n → found_size (find_step env here of action to f) + 8 + spare (is_implied action) ≤ 44 * (n + nodes_of (action_weight env.core to action))
  step_small env here of (convert k Implied) to true n f c m w less = absurd m
  step_small env here of (convert k Implied) to false n f c m w less =
      let o = own_small env of here f in
      let a = converted_small env.core k to here.temp in
      let all = then_size (own env of here f) (converted env.core k to here.temp) in
      omega (arith, o, a, all, less)
  step_small env here of (convert k Cast) to implied n f c m w less =
      let v = valued_node env.core to in
      let o = own_small env of here f in
      let a = converted_small env.core k to here.temp in
      let all = then_size (own env of here f) (converted env.core k to here.temp) in
      omega (arith, v, o, a, all, less)
  step_small env here of (convert k As_) to implied n f c m w less =
      let v = valued_node env.core to in
      let o = own_small env of here f in
      let a = converted_small env.core k to here.temp in
      let all = then_size (own env of here f) (converted env.core k to here.temp) in
      omega (arith, v, o, a, all, less)
  step_small env here of bracket to implied n f c m w less =
      let v = valued_node env.core to in
      let o = own_small env of here f in
      omega (arith, v, o, less)
  step_small env here of (field id) to implied n f c m w less =
      let v = valued_node env.core to in
      let s = field_small here of (field_number env.core of id) f in
      omega (arith, v, s, less)
  step_small env here of (index e) to implied n f c m w less =
      let v = valued_node env.core to in
      let i = make_small env (past f.used (past_whole here)) e c w in
      let s = index_small env.core here of f (make env (past f.used (past_whole here)) e).items f.now in
      omega (arith, v, i, s, less)
  step_small env here of (prefixed o checked) to implied n f c m w less =
      let v = valued_node env.core to in
      let g = own_small env of here f in
      let a = prefix_small o checked (type_at env.core of) here.temp in
      let all = then_size (own env of here f) (prefix o checked (type_at env.core of) here.temp) in
      omega (arith, v, g, a, all, less)
  step_small env here of (operate o checked e) to implied n f c m w less =
      let v = valued_node env.core to in
      let k = 44 * nodes_of (expression_weight env.core e) in
      let g = own_small env of here f in
      let behind = make_small env (past 1 here) e c w in
      let instead = make_small env here e c w in
      let goes = goes_on_at o (type_at env.core of) in
      let second = second_small env here goes e k (omega (arith, behind)) (omega (arith, instead)) in
      let t = two_small goes o checked (type_at env.core of) here (own env of here f) (make env (second_here goes here) e).items in
      omega (arith, v, g, second, t, less)
  step_small env here of (apply function checked) to implied n f c m w less =
      let v = valued_node env.core to in
      let a = apply_small (measured env.core function of f.now) env function checked of here f in
      omega (arith, v, a, less)
  step_small env here of (method id dispatch given) to implied n f c m w less = let v = valued_node env.core to in omega (arith, v, less)
  step_small env here of (is class) to implied n f c m w less = let v = valued_node env.core to in omega (arith, v, less)
  step_small env here of (copied e e') to implied n f c m w less = let v = valued_node env.core to in omega (arith, v, less)

  gather_small : (env : Env) (here : Here) (es : Elements) → EveryNode counted_asks (elements_nodes es) → EveryNode written_asks (elements_nodes es) → items_size (gather env here es) ≤ 44 * nodes_of (elements_weight env.core es)
  gather_small env here no_elements c w = omega arith
  gather_small env here (elements e es) c w =
      let first = member_small env here e c.0 w.0 in
      let rest = gather_small env here es c.1 w.1 in
      let all = both_size (gather_one env here e) (then_do (act (combine Add here.temp here.temp (here.temp + 1))) (gather env here es)) in
      omega (arith, first, rest, all)

  member_small : (env : Env) (here : Here) (m : Member) → EveryNode counted_asks (element_nodes m) → EveryNode written_asks (element_nodes m) → items_size (gather_one env here m) + 3 ≤ 44 * nodes_of (element_weight env.core m)
  member_small env here (one e) c w =
      let i = make_small env (past 1 here) e c w in
      let all = both_size (make env (past 1 here) e).items (only (act (lone (here.temp + 1) (here.temp + 1)))) in
      omega (arith, i, all)
  member_small env here (range e e') c w =
      let i = make_small env (past 1 here) e c.0 w.0 in
      let j = make_small env (past 2 here) e' c.1 w.1 in
      let all = three_size (make env (past 1 here) e).items (make env (past 2 here) e').items (only (act (span (here.temp + 1) (here.temp + 1) (here.temp + 2)))) in
      omega (arith, i, j, all)

  pass_small : (env : Env) (here : Here) (as' : Arguments) → EveryNode counted_asks (arguments_nodes as') → EveryNode written_asks (arguments_nodes as') → items_size (pass env here as').items + givens_size (pass env here as').given ≤ 44 * nodes_of (arguments_weight env.core as')
  pass_small env here no_arguments c w = omega arith
  pass_small env here (arguments a others) c w =
      let first = pass_one env here a in
      let rest = pass env (past first.used (past_whole here)) others in
      let f = one_small env here a c.0 w.0 in
      let r = pass_small env (past first.used (past_whole here)) others c.1 w.1 in
      let all = both_size first.items rest.items in
      omega (arith, f, r, all)

  one_small : (env : Env) (here : Here) (a : Argument) → EveryNode counted_asks (argument_nodes a) → EveryNode written_asks (argument_nodes a) → items_size (pass_one env here a).items + given_size (pass_one env here a).given ≤ 44 * nodes_of (argument_weight env.core a)
  one_small env here (value e) c w =
      let i = make_small env here e c w in
      let g = given_small (shape_of env.core (type_of e)) (type_of e) here in
      omega (arith, i, g)
  one_small env here (place e) c w =
      let i = find_small env here e c w in
      let p = path_small (type_of e) here (find env here e).now in
      omega (arith, i, p)
  one_small env here (array e) c w =
      let i = find_small env here e c w in
      let p = path_small (type_of e) here (find env here e).now in
      omega (arith, i, p)
  one_small env here (listed of es) c w = let e = listed_node env.core of (count_of es) in omega (arith, e)
