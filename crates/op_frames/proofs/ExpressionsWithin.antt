-- The items of an expression name no more temporaries, and their code takes no more scratch registers, than twice its nodes.
use Rattle.std.proofs.Common.{◌≡◌, ◌<◌, ◌≤◌, ℕ, zero, suc, ℤ, pos, negsuc, ◌+◌, ◌*◌, Bool, true, false, not, List, [], ◌∷◌, ◌++◌, length, Option, Some, None, slice_get, refl, sym, ap, ◌∙◌, subst, arith, if◌then◌else◌}
use Rattle.std.proofs.lemmas.List.{length_push}
use Rattle.op_core.specs.Expression.{Expression, expression, Root as Start, constant as fixed, variable, object, call, construct as constructed, set as bracketed, eof, eoln, Steps, no_steps, steps, Action as Doing, convert, bracket, field, index, method, prefixed, operate, is, apply, copy as copied, Elements, no_elements, elements, Element as Member, one, range, Arguments, no_arguments, arguments, Argument, value, place, array, listed}
use Rattle.op_core.specs.Sizes.{type_at}
use Rattle.op_core.specs.Typing.{type_of, type_after}
use Rattle.op_core.specs.declared.constant.Const.{Const}
use Rattle.op_core.specs.declared.constant.Const.TheVariants.{Ordinal, Text, Set as SetOf, Nil as NilOf}
use Rattle.op_core.specs.declared.ids.TypeId.{TypeId}
use Rattle.op_core.specs.declared.operation.Conversion.{Conversion}
use Rattle.op_core.specs.declared.operation.Conversion.TheVariants.{Keep, LowBits, Check, ToString, ToInterface, Instance}
use Rattle.op_core.specs.declared.operation.Function.{Function}
use Rattle.op_core.specs.declared.operation.Function.TheVariants.{Length, Low, High, Ord, Succ, Pred, Abs, Sqr, Odd, Assigned, UpCase, Whole, ClassName}
use Rattle.op_core.specs.declared.operation.Origin.{Origin}
use Rattle.op_core.specs.declared.operation.Origin.TheVariants.{Implied, Cast, As_}
use Rattle.op_core.specs.declared.program.Core.{Core}
use Rattle.op_core.specs.declared.routine.Routine.{Routine}
use Rattle.op_core.specs.declared.types.CoreType.{CoreType}
use Rattle.op_core.specs.declared.types.CoreType.TheVariants.{Integer, Boolean, Char, String, Nil, Nothing, EmptySet, Enumeration, Subrange, Set, Record, Array, DynamicArray, OpenArray, Class, Interface, Broken}
use Rattle.op_core.specs.declared.types.IntegerKind.TheVariants.{Signed8, Unsigned8, Signed16, Unsigned16, Signed32}
use Rattle.op_frames.proofs.MadeLemmas.{every_append}
use Rattle.op_frames.specs.Counted.{IsCounted, counted_asks}
use Rattle.op_frames.specs.Made.{Every, AreMade, IsMade}
use Rattle.op_frames.specs.Scratch.{given_room, givens_room, receiver_room}
use Rattle.op_frames.specs.Within.{StepsBelow, ActionBelow, GivenBelow, ReceiverBelow, IsWithin}
use Rattle.op_meaning.specs.Actions.{Action, constant, load, copy, look, arithmetic, compare, negate, complement, invert, absolute, odd, upper, pick, low_bits, check, neighbour, single as lone, span, combine, contains, check_set}
use Rattle.op_meaning.specs.Charge.{Weight, nodes_of, valued, expression_weight, root_weight, steps_weight, action_weight, conversion_weight, elements_weight, element_weight, arguments_weight, argument_weight, count_of, listed_values}
use Rattle.op_meaning.specs.Every.{EveryNode, action_nodes, argument_nodes, arguments_nodes, element_nodes, elements_nodes, is_text, root_nodes, steps_nodes, text_after}
use Rattle.op_meaning.specs.Expressions.{Here, past, past_whole, Env, Now, ready, at_path, a_text, Found, found, whole_path, path_of, loaded, own_by, own, then_acts, then_step, element_step, then_index_by, then_index, is_comparison, on_two, goes_on_at, second_here, two_by, is_boolean, prefix, converted_by, converted, moved, applied, measured, looked_at, applied_by, of_constant, receiver_by, receiver_of, result_of, given_by, AllPassed, OnePassed, find, make, find_root, find_steps, find_step, gather, gather_one, pass, pass_one, low_in, high_in}
use Rattle.op_meaning.specs.Items.{Given, by_value, by_place, by_copy, act, also, enter, Items, none, then_do, ◌&◌, only, acts}
use Rattle.op_meaning.specs.Paths.{Path, Step, field as part_field, element as part_element, with_step, root_of, path_to}
use Rattle.op_meaning.specs.Shapes.{Shape, single, composite, of_chars, of_elements, of_instance, shape_of}
use Rattle.op_mir.specs.Code.{Instr, do_act}
use Rattle.op_tree.specs.declared.operator.Operator.{Operator}
use Rattle.op_tree.specs.declared.operator.Operator.TheVariants.{Add, In_, Multiply, Subtract}
use Rattle.op_tree.specs.declared.operator.PrefixOperator.{PrefixOperator}
use Rattle.op_tree.specs.declared.operator.PrefixOperator.TheVariants.{Not, Plus, Minus}

-- ---- items

module _ (Q : Instr → Type 0) (blocks : ℕ) where
  pub made_both : (a b : Items) → AreMade Q blocks a → AreMade Q blocks b → AreMade Q blocks (a & b)
  made_both none b p q = q
  made_both (then_do i a) b p q = (p.0, made_both a b p.1 q)

  pub made_three : (a b c : Items) → AreMade Q blocks a → AreMade Q blocks b → AreMade Q blocks c → AreMade Q blocks (a & (b & c))
  made_three a b c p q s = made_both a (b & c) p (made_both b c q s)

  pub made_acts : (as' : List Action) → Every (λ a. Q (do_act a None)) as' → AreMade Q blocks (acts as')
  made_acts [] p = tt
  made_acts (a ∷ others) p = (p.0, made_acts others p.1)

-- ---- paths

pub steps_more : (a b : ℕ) (ss : List Step) → a ≤ b → StepsBelow a ss → StepsBelow b ss
steps_more a b [] less p = tt
steps_more a b (part_field of k ∷ ss) less p = steps_more a b ss less p
steps_more a b (part_element of low high t ∷ ss) less p = (omega (arith, less, p.0), steps_more a b ss less p.1)

pub steps_field : (top : ℕ) (ss : List Step) (of : TypeId) (k : ℕ) → StepsBelow top ss → StepsBelow top (ss ++ part_field of k ∷ [])
steps_field top [] of k p = tt
steps_field top (part_field o j ∷ ss) of k p = steps_field top ss of k p
steps_field top (part_element o low high t ∷ ss) of k p = (p.0, steps_field top ss of k p.1)

pub steps_element : (top : ℕ) (ss : List Step) (of : TypeId) (low high : ℤ) (t : ℕ) → t < top → StepsBelow top ss → StepsBelow top (ss ++ part_element of low high t ∷ [])
steps_element top [] of low high t less p = (less, tt)
steps_element top (part_field o j ∷ ss) of low high t less p = steps_element top ss of low high t less p
steps_element top (part_element o l h u ∷ ss) of low high t less p = (p.0, steps_element top ss of low high t less p.1)

-- ---- nodes

pub valued_node : (core : Core) (of : TypeId) → nodes_of (valued core of) ≡ 1
unfolding valued
valued_node core of = refl

pub listed_node : (core : Core) (of : TypeId) (n : ℕ) → nodes_of (listed_values core of n) ≡ 1
unfolding listed_values
listed_node core of n = refl

pub root_some : (core : Core) (of : TypeId) (root : Start) → EveryNode counted_asks (root_nodes root of) → 1 ≤ nodes_of (root_weight core of root)
root_some core of (fixed v nodes words) c = c
root_some core of (variable id) c = let e = valued_node core of in omega (arith, e)
root_some core of (object id) c = absurd c
root_some core of (call id given) c = let e = valued_node core of in omega (arith, e)
root_some core of (constructed k id given) c = absurd c
root_some core of (bracketed es) c = let e = valued_node core of in omega (arith, e)
root_some core of eof c = let e = valued_node core of in omega (arith, e)
root_some core of eoln c = let e = valued_node core of in omega (arith, e)

pub expression_some : (core : Core) (e : Expression) → IsCounted e → 1 ≤ nodes_of (expression_weight core e)
expression_some core (expression root of others) c = let r = root_some core of root c.0 in omega (arith, r)

module _ (blocks top room : ℕ) where
  -- ---- where a value is: behind so many nodes

  abbrev pub IsNow : ℕ → ℕ → Now → Type 0
  IsNow limit n ready = Unit {0}
  IsNow limit n (at_path p) = (length p.steps < n) × StepsBelow limit p.steps
  IsNow limit n (a_text bytes) = Unit {0}

  pub record IsFound (here : Here) (n : ℕ) (f : Found) : Type 0 where
    pub items : AreMade (IsWithin top room) blocks f.items
    pub used : f.used < n
    pub now : IsNow (here.temp + f.used) n f.now

  now_more : (limit a b : ℕ) (now : Now) → a ≤ b → IsNow limit a now → IsNow limit b now
  now_more limit a b ready less p = tt
  now_more limit a b (at_path path) less p = (omega (arith, less, p.0), p.1)
  now_more limit a b (a_text bytes) less p = tt

  pub found_more : (here : Here) (a b : ℕ) (f : Found) → a ≤ b → IsFound here a f → IsFound here b f
  found_more here a b f less p = record { items = p.items; used = omega (arith, less, p.used); now = now_more (here.temp + f.used) a b f.now less p.now }

  -- the path of what is there
  pub path_short : (of : TypeId) (here : Here) (limit n : ℕ) (now : Now) → 1 ≤ n → IsNow limit n now → (length (path_of of here now).steps < n) × StepsBelow limit (path_of of here now).steps
  path_short of here limit n ready some p = let short : 0 < n = omega (arith, some) in (short, tt)
  path_short of here limit n (at_path path) some p = p
  path_short of here limit n (a_text bytes) some p = let short : 0 < n = omega (arith, some) in (short, tt)

  -- ---- an own value

  pub loaded_well : (s : Shape) (of : TypeId) (here : Here) (p : Path) (limit n : ℕ) → length p.steps < n → StepsBelow limit p.steps → limit ≤ top → here.temp < top → 2 * n + 1 ≤ room → AreMade (IsWithin top room) blocks (loaded s of here p)
  loaded_well (single kind) of here p limit n short below less t r = let few : 1 + 2 * length p.steps ≤ room = omega (arith, short, r) in (((t, steps_more limit top p.steps less below), few), tt)
  loaded_well composite of here p limit n short below less t r = let few : 1 + 2 * length p.steps + 1 + 1 ≤ room = omega (arith, short, r) in (((tt, steps_more limit top p.steps less below), few), tt)
  loaded_well of_chars of here p limit n short below less t r = tt
  loaded_well of_elements of here p limit n short below less t r = tt
  loaded_well (of_instance holds) of here p limit n short below less t r = tt

  own_now : (core : Core) (of : TypeId) (here : Here) (n : ℕ) (f : Found) (now : Now) → IsFound here n f → IsNow (here.temp + f.used) n now → here.temp + 2 * n ≤ top → 2 * n + 1 ≤ room → IsFound here n (own_by core of here f now)
  own_now core of here n f ready w p t r = w
  own_now core of here n f (a_text bytes) w p t r = w
  own_now core of here n f (at_path path) w p t r = record {
    items = made_both (IsWithin top room) blocks f.items _ w.items (loaded_well (shape_of core of) of here path (here.temp + f.used) n p.0 p.1 (omega (arith, w.used, t)) (omega (arith, w.used, t)) r);
    used = omega (arith, w.used);
    now = tt;
  }

  pub own_well : (env : Env) (of : TypeId) (here : Here) (n : ℕ) (f : Found) → IsFound here n f → here.temp + 2 * n ≤ top → 2 * n + 1 ≤ room → IsFound here n (own env of here f)
  own_well env of here n f w t r = own_now env.core of here n f f.now w w.now t r

  pub acts_well : (here : Here) (n : ℕ) (f : Found) (actions : List Action) → IsFound here n f → Every (λ a. IsWithin top room (do_act a None)) actions → IsFound here n (then_acts f actions)
  acts_well here n f actions w p = record { items = made_both (IsWithin top room) blocks f.items (acts actions) w.items (made_acts (IsWithin top room) blocks actions p); used = w.used; now = w.now }

  -- ---- conversions, operators and functions: all on the first temporaries

  module _ (t : ℕ) (first : t < top) (three : 3 ≤ room) where
    checked_well : (core : Core) (to : TypeId) (of : Option CoreType) → Every (λ a. IsWithin top room (do_act a None)) (converted_by core Check to of t)
    checked_well core to None = (((first, first), three), tt)
    checked_well core to (Some (Set base)) = (((first, first), three), tt)
    checked_well core to (Some (Integer kind)) = (((first, first), three), tt)
    checked_well core to (Some Boolean) = (((first, first), three), tt)
    checked_well core to (Some Char) = (((first, first), three), tt)
    checked_well core to (Some String) = (((first, first), three), tt)
    checked_well core to (Some Nil) = (((first, first), three), tt)
    checked_well core to (Some Nothing) = (((first, first), three), tt)
    checked_well core to (Some EmptySet) = (((first, first), three), tt)
    checked_well core to (Some (Enumeration values)) = (((first, first), three), tt)
    checked_well core to (Some (Subrange base low high)) = (((first, first), three), tt)
    checked_well core to (Some (Record fields)) = (((first, first), three), tt)
    checked_well core to (Some (Array at element)) = (((first, first), three), tt)
    checked_well core to (Some (DynamicArray element)) = (((first, first), three), tt)
    checked_well core to (Some (OpenArray element)) = (((first, first), three), tt)
    checked_well core to (Some (Class k)) = (((first, first), three), tt)
    checked_well core to (Some (Interface k)) = (((first, first), three), tt)
    checked_well core to (Some Broken) = (((first, first), three), tt)

    low_well : (core : Core) (to : TypeId) (of : Option CoreType) → Every (λ a. IsWithin top room (do_act a None)) (converted_by core LowBits to of t)
    low_well core to (Some (Integer kind)) = (((first, first), three), tt)
    low_well core to (Some Char) = (((first, first), three), tt)
    low_well core to _ = tt

    converted_well_by : (core : Core) (c : Conversion) (to : TypeId) (of : Option CoreType) → Every (λ a. IsWithin top room (do_act a None)) (converted_by core c to of t)
    converted_well_by core LowBits to of = low_well core to of
    converted_well_by core Check to of = checked_well core to of
    converted_well_by core Keep to of = tt
    converted_well_by core ToString to of = tt
    converted_well_by core ToInterface to of = tt
    converted_well_by core Instance to of = tt

    pub converted_well : (core : Core) (c : Conversion) (to : TypeId) → Every (λ a. IsWithin top room (do_act a None)) (converted core c to t)
    converted_well core c to = converted_well_by core c to (type_at core to)

    not_well : (whether : Bool) → Every (λ a. IsWithin top room (do_act a None)) (if whether then invert t t ∷ [] else complement t t ∷ [])
    not_well true = (((first, first), three), tt)
    not_well false = (((first, first), three), tt)

    prefix_well : (o : PrefixOperator) (checked : Bool) (of : Option CoreType) → Every (λ a. IsWithin top room (do_act a None)) (prefix o checked of t)
    prefix_well Plus checked of = tt
    prefix_well Minus checked of = (((first, first), three), tt)
    prefix_well Not checked of = not_well (is_boolean of)

    module _ (second : t + 1 < top) where
      compared_well : (whether : Bool) (o : Operator) (checked : Bool) → IsWithin top room (do_act (if whether then compare o t t (t + 1) else arithmetic o checked t t (t + 1)) None)
      compared_well true o checked = ((first, first, second), three)
      compared_well false o checked = ((first, first, second), three)

      two_well : (o : Operator) (checked : Bool) (of : Option CoreType) → IsWithin top room (do_act (on_two o checked of t) None)
      two_well o checked (Some (Set base)) = ((first, first, second), three)
      two_well In_ checked _ = ((first, first, second), three)
      two_well o checked _ = compared_well (is_comparison o) o checked

      moved_well : (core : Core) (o : Operator) (distance : ℤ) (checked : Bool) (of : TypeId) (type : Option CoreType) → Every (λ a. IsWithin top room (do_act a None)) (moved core o distance checked of type t)
      moved_well core o distance checked of (Some (Integer Signed32)) = ((second, omega arith), (((first, first, second), three), tt))
      moved_well core o distance checked of _ = (((first, first), three), tt)

      applied_well : (core : Core) (function : Function) (checked : Bool) (of : TypeId) → Every (λ a. IsWithin top room (do_act a None)) (applied core function checked of t)
      applied_well core Succ checked of = moved_well core Add (pos 1) checked of (type_at core of)
      applied_well core Pred checked of = moved_well core Subtract (negsuc 0) checked of (type_at core of)
      applied_well core Abs checked of = (((first, first), three), tt)
      applied_well core Sqr checked of = (((first, first, first), three), tt)
      applied_well core Odd checked of = (((first, first), three), tt)
      applied_well core UpCase checked of = (((first, first), three), tt)
      applied_well core _ checked of = tt

  -- ---- single steps

  field_well : (here : Here) (of : TypeId) (k n : ℕ) (f : Found) → IsFound here n f → IsFound here (n + 1) (then_step of here (part_field of k) 0 f)
  field_well here of k n f w =
      let some : 1 ≤ n = omega (arith, w.used) in
      let p = path_short of here (here.temp + f.used) n f.now some w.now in
      let longer = length_push (path_of of here f.now).steps (part_field of k) in
      record {
        items = w.items;
        used = omega (arith, w.used);
        now = (omega (arith, longer, p.0), steps_field (here.temp + (f.used + 0)) (path_of of here f.now).steps of k (steps_more (here.temp + f.used) (here.temp + (f.used + 0)) (path_of of here f.now).steps (omega arith) p.1));
      }

  element_well : (core : Core) (here : Here) (of : TypeId) (n : ℕ) (f : Found) (i : Items) → IsFound here n f → AreMade (IsWithin top room) blocks i → IsFound here (n + 1) (then_step of here (element_step core of (here.temp + f.used)) 1 (record f { items = f.items & i }))
  element_well core here of n f i w made =
      let some : 1 ≤ n = omega (arith, w.used) in
      let p = path_short of here (here.temp + f.used) n f.now some w.now in
      let longer = length_push (path_of of here f.now).steps (element_step core of (here.temp + f.used)) in
      record {
        items = made_both (IsWithin top room) blocks f.items i w.items made;
        used = omega (arith, w.used);
        now = (omega (arith, longer, p.0), steps_element (here.temp + (f.used + 1)) (path_of of here f.now).steps of _ _ (here.temp + f.used) (omega arith) (steps_more (here.temp + f.used) (here.temp + (f.used + 1)) (path_of of here f.now).steps (omega arith) p.1));
      }

  index_now : (core : Core) (here : Here) (of : TypeId) (n : ℕ) (f : Found) (i : Items) (now : Now) → f.now ≡ now → IsFound here n f → AreMade (IsWithin top room) blocks i → here.temp < top → 3 ≤ room → IsFound here (n + 1) (then_index_by core of here f i now)
  index_now core here of n f i ready e w made t r = element_well core here of n f i w made
  index_now core here of n f i (at_path p) e w made t r = element_well core here of n f i w made
  index_now core here of n f i (a_text bytes) e w made t r = record {
    items = made_three (IsWithin top room) blocks f.items i (only (act (pick here.temp bytes here.temp))) w.items made (((t, t), r), tt);
    used = omega arith;
    now = tt;
  }

  looked_well : (here : Here) (n limit : ℕ) (now : Now) → IsNow limit n now → limit ≤ top → 2 * n + 1 ≤ room → AreMade (IsWithin top room) blocks (looked_at now)
  looked_well here n limit ready p less r = tt
  looked_well here n limit (a_text bytes) p less r = tt
  looked_well here n limit (at_path path) p less r = ((steps_more limit top path.steps less p.1, omega (arith, p.0, r)), tt)

  apply_well : (o : Option ℤ) (env : Env) (function : Function) (checked : Bool) (of : TypeId) (here : Here) (n : ℕ) (f : Found) → IsFound here n f → here.temp + 2 * (n + 1) ≤ top → 2 * (n + 1) + 1 ≤ room → IsFound here (n + 1) (applied_by o env function checked of here f)
  apply_well None env function checked of here n f w t r =
      let o = own_well env of here n f w (omega (arith, t)) (omega (arith, r)) in
      found_more here n (n + 1) _ (omega arith) (acts_well here n (own env of here f) (applied env.core function checked of here.temp) o (applied_well here.temp (omega (arith, t)) (omega (arith, r)) (omega (arith, t)) env.core function checked of))
  apply_well (Some k) env function checked of here n f w t r = record {
    items = made_three (IsWithin top room) blocks f.items (looked_at f.now) (only (act (constant here.temp k))) w.items (looked_well here n (here.temp + f.used) f.now w.now (omega (arith, w.used, t)) (omega (arith, r))) ((omega (arith, t), omega arith), tt);
    used = omega arith;
    now = tt;
  }

  two_found : (goes : Option Bool) (o : Operator) (checked : Bool) (of : Option CoreType) (here : Here) (n : ℕ) (f : Found) (second : Items) → IsFound here n f → AreMade (IsWithin top room) blocks second → here.temp + 1 < top → 3 ≤ room → IsFound here n (two_by goes o checked of here f second)
  two_found None o checked of here n f second w made t r = record {
    items = made_three (IsWithin top room) blocks f.items second (only (act (on_two o checked of here.temp))) w.items made (two_well here.temp (omega (arith, t)) r t o checked of, tt);
    used = omega (arith, w.used);
    now = tt;
  }
  two_found (Some true) o checked of here n f second w made t r = record {
    items = made_both (IsWithin top room) blocks f.items (only (also true here.temp second)) w.items ((λ k some less. (omega (arith, t), r), made), tt);
    used = omega (arith, w.used);
    now = tt;
  }
  two_found (Some false) o checked of here n f second w made t r = record {
    items = made_both (IsWithin top room) blocks f.items (only (also false here.temp second)) w.items ((λ k some less. (omega (arith, t), r), made), tt);
    used = omega (arith, w.used);
    now = tt;
  }

  constant_well : (c : Const) (here : Here) (n : ℕ) → 1 ≤ n → here.temp < top → IsFound here n (of_constant c here.temp)
  constant_well (Ordinal k) here n some t = record { items = ((t, omega arith), tt); used = omega (arith, some); now = tt }
  constant_well (SetOf es) here n some t = record { items = ((t, omega arith), tt); used = omega (arith, some); now = tt }
  constant_well (Text bytes) here n some t = record { items = tt; used = omega (arith, some); now = tt }
  constant_well NilOf here n some t = record { items = tt; used = omega (arith, some); now = tt }

  -- ---- calls

  -- what arguments give, for so many nodes
  record IsPassed (n : ℕ) (p : AllPassed) : Type 0 where
    items : AreMade (IsWithin top room) blocks p.items
    given : Every (GivenBelow top) p.given
    room_is : givens_room p.given ≤ 2 * n

  record IsOne (n : ℕ) (p : OnePassed) : Type 0 where
    items : AreMade (IsWithin top room) blocks p.items
    given : GivenBelow top p.given
    room_is : given_room p.given ≤ 2 * n
    used : p.used ≤ 2 * n

  value_given : (s : Shape) (of : TypeId) (here : Here) (n : ℕ) → 1 ≤ n → here.temp < top → GivenBelow top (given_by s of here) × (given_room (given_by s of here) ≤ 2 * n)
  value_given (single kind) of here n some t = (t, omega (arith, some))
  value_given composite of here n some t = let one : 1 ≤ 2 * n = omega (arith, some) in (tt, one)
  value_given of_chars of here n some t = let one : 1 ≤ 2 * n = omega (arith, some) in (tt, one)
  value_given of_elements of here n some t = let one : 1 ≤ 2 * n = omega (arith, some) in (tt, one)
  value_given (of_instance holds) of here n some t = let one : 1 ≤ 2 * n = omega (arith, some) in (tt, one)

  receiver_shape : (s : Shape) (of : TypeId) (here : Here) → here.temp < top → ReceiverBelow top (receiver_by s of here) × (receiver_room (receiver_by s of here) ≤ 1)
  receiver_shape (single kind) of here t = (t, omega arith)
  receiver_shape composite of here t = let one : 1 ≤ 1 = omega arith in (tt, one)
  receiver_shape of_chars of here t = let one : 1 ≤ 1 = omega arith in (tt, one)
  receiver_shape of_elements of here t = let one : 1 ≤ 1 = omega arith in (tt, one)
  receiver_shape (of_instance holds) of here t = let one : 1 ≤ 1 = omega arith in (tt, one)

  receiver_well : (core : Core) (result : Option TypeId) (here : Here) → here.temp < top → ReceiverBelow top (receiver_of core result here) × (receiver_room (receiver_of core result here) ≤ 1)
  receiver_well core None here t = (tt, omega arith)
  receiver_well core (Some of) here t = receiver_shape (shape_of core of) of here t

  -- ---- expressions

  second_made : (env : Env) (here : Here) (goes : Option Bool) (e : Expression) → AreMade (IsWithin top room) blocks (make env (past 1 here) e).items → AreMade (IsWithin top room) blocks (make env here e).items → AreMade (IsWithin top room) blocks (make env (second_here goes here) e).items
  second_made env here None e a b = a
  second_made env here (Some truth) e a b = b

  mutual
    pub find_well : (env : Env) (here : Here) (e : Expression) → IsCounted e → here.temp + 2 * nodes_of (expression_weight env.core e) ≤ top → 2 * nodes_of (expression_weight env.core e) + 1 ≤ room → IsFound here (nodes_of (expression_weight env.core e)) (find env here e)
    find_well env here (expression root of others) c t r =
        steps_well env here of others (is_text root) (nodes_of (root_weight env.core of root)) (find_root env here of root) c.1 (root_well env here of root c.0 (omega (arith, t)) (omega (arith, r))) t r

    pub make_well : (env : Env) (here : Here) (e : Expression) → IsCounted e → here.temp + 2 * nodes_of (expression_weight env.core e) ≤ top → 2 * nodes_of (expression_weight env.core e) + 1 ≤ room → IsFound here (nodes_of (expression_weight env.core e)) (make env here e)
    make_well env here (expression root of others) c t r =
        let n = nodes_of (root_weight env.core of root) in
        let w = steps_well env here of others (is_text root) n (find_root env here of root) c.1 (root_well env here of root c.0 (omega (arith, t)) (omega (arith, r))) t r in
        own_well env (type_after of others) here (n + nodes_of (steps_weight env.core others)) (find_steps env here of others (find_root env here of root)) w t r

    root_well : (env : Env) (here : Here) (of : TypeId) (root : Start) → EveryNode counted_asks (root_nodes root of) → here.temp + 2 * nodes_of (root_weight env.core of root) ≤ top → 2 * nodes_of (root_weight env.core of root) + 1 ≤ room → IsFound here (nodes_of (root_weight env.core of root)) (find_root env here of root)
    root_well env here of (fixed v nodes words) c t r = constant_well v here nodes c (omega (arith, c, t))
    root_well env here of (variable id) c t r = let e = valued_node env.core of in let short : 0 < nodes_of (valued env.core of) = omega (arith, e) in record { items = tt; used = short; now = (short, tt) }
    root_well env here of (object id) c t r = absurd c
    root_well env here of (call id given) c t r =
        let e = valued_node env.core of in
        let n = nodes_of (arguments_weight env.core given) in
        let p = pass_well env (past_whole here) given c (omega (arith, e, t)) (omega (arith, e, r)) in
        let to = receiver_well env.core (result_of (slice_get env.core.routines id.0)) here (omega (arith, e, t)) in
        record {
          items = made_both (IsWithin top room) blocks (pass env (past_whole here) given).items (only (enter id.0 (pass env (past_whole here) given).given (receiver_of env.core (result_of (slice_get env.core.routines id.0)) here))) p.items ((p.given, to.0, omega (arith, e, r, to.1, p.room_is)), tt);
          used = omega (arith, e);
          now = tt;
        }
    root_well env here of (constructed k id given) c t r = absurd c
    root_well env here of (bracketed es) c t r =
        let e = valued_node env.core of in
        record { items = ((omega (arith, e, t), omega arith), gather_well env here es c (omega (arith, e, t)) (omega (arith, e, r))); used = omega (arith, e); now = tt }
    root_well env here of eof c t r = let e = valued_node env.core of in record { items = tt; used = omega (arith, e); now = tt }
    root_well env here of eoln c t r = let e = valued_node env.core of in record { items = tt; used = omega (arith, e); now = tt }

    steps_well : (env : Env) (here : Here) (of : TypeId) (ss : Steps) (text : Bool) (n : ℕ) (f : Found) → EveryNode counted_asks (steps_nodes text ss) → IsFound here n f → here.temp + 2 * (n + nodes_of (steps_weight env.core ss)) ≤ top → 2 * (n + nodes_of (steps_weight env.core ss)) + 1 ≤ room → IsFound here (n + nodes_of (steps_weight env.core ss)) (find_steps env here of ss f)
    steps_well env here of no_steps text n f c w t r = found_more here n (n + 0) f (omega arith) w
    steps_well env here of (steps action next others) text n f c w t r =
        let a = nodes_of (action_weight env.core next action) in
        let s = nodes_of (steps_weight env.core others) in
        let g = step_well env here of action next n f c.0 w (omega (arith, t)) (omega (arith, r)) in
        found_more here (n + a + s) (n + (a + s)) _ (omega arith) (steps_well env here next others (text_after text action) (n + a) (find_step env here of action next f) c.1 g (omega (arith, t)) (omega (arith, r)))

    step_well : (env : Env) (here : Here) (of : TypeId) (action : Doing) (to : TypeId) (n : ℕ) (f : Found) → EveryNode counted_asks (action_nodes action) → IsFound here n f → here.temp + 2 * (n + nodes_of (action_weight env.core to action)) ≤ top → 2 * (n + nodes_of (action_weight env.core to action)) + 1 ≤ room → IsFound here (n + nodes_of (action_weight env.core to action)) (find_step env here of action to f)
    step_well env here of (convert k origin) to n f c w t r =
        let o = own_well env of here n f w (omega (arith, t)) (omega (arith, r)) in
        let three : 3 ≤ room = omega (arith, w.used, r) in
        let first : here.temp < top = omega (arith, w.used, t) in
        found_more here n (n + nodes_of (conversion_weight env.core to origin)) _ (omega arith) (acts_well here n (own env of here f) (converted env.core k to here.temp) o (converted_well here.temp first three env.core k to))
    step_well env here of bracket to n f c w t r = found_more here n (n + nodes_of (valued env.core to)) _ (omega arith) (own_well env of here n f w (omega (arith, t)) (omega (arith, r)))
    step_well env here of (field id) to n f c w t r =
        let e = valued_node env.core to in
        found_more here (n + 1) (n + nodes_of (valued env.core to)) _ (omega (arith, e)) (field_well here of _ n f w)
    step_well env here of (index e) to n f c w t r =
        let v = valued_node env.core to in
        let k = nodes_of (expression_weight env.core e) in
        let i = make_well env (past f.used (past_whole here)) e c (omega (arith, v, w.used, t)) (omega (arith, v, r)) in
        found_more here (n + 1) (n + (nodes_of (valued env.core to) + k)) _ (omega (arith, v)) (index_now env.core here of n f (make env (past f.used (past_whole here)) e).items f.now refl w i.items (omega (arith, w.used, t)) (omega (arith, w.used, r)))
    step_well env here of (prefixed o checked) to n f c w t r =
        let v = valued_node env.core to in
        let g = own_well env of here n f w (omega (arith, t)) (omega (arith, r)) in
        found_more here n (n + nodes_of (valued env.core to)) _ (omega arith) (acts_well here n (own env of here f) _ g (prefix_well here.temp (omega (arith, w.used, t)) (omega (arith, w.used, r)) o checked (type_at env.core of)))
    step_well env here of (operate o checked e) to n f c w t r =
        let v = valued_node env.core to in
        let k = nodes_of (expression_weight env.core e) in
        let g = own_well env of here n f w (omega (arith, t)) (omega (arith, r)) in
        let behind = make_well env (past 1 here) e c (omega (arith, v, w.used, t)) (omega (arith, v, r)) in
        let instead = make_well env here e c (omega (arith, v, w.used, t)) (omega (arith, v, r)) in
        let second = second_made env here (goes_on_at o (type_at env.core of)) e behind.items instead.items in
        found_more here n (n + (nodes_of (valued env.core to) + k)) _ (omega arith) (two_found (goes_on_at o (type_at env.core of)) o checked (type_at env.core of) here n (own env of here f) _ g second (omega (arith, v, w.used, t)) (omega (arith, w.used, r)))
    step_well env here of (apply function checked) to n f c w t r =
        let v = valued_node env.core to in
        found_more here (n + 1) (n + nodes_of (valued env.core to)) _ (omega (arith, v)) (apply_well (measured env.core function of f.now) env function checked of here n f w (omega (arith, v, t)) (omega (arith, v, r)))
    step_well env here of (method id dispatch given) to n f c w t r = found_more here n _ f (omega arith) w
    step_well env here of (is class) to n f c w t r = found_more here n _ f (omega arith) w
    step_well env here of (copied e e') to n f c w t r = found_more here n _ f (omega arith) w

    gather_well : (env : Env) (here : Here) (es : Elements) → EveryNode counted_asks (elements_nodes es) → here.temp + 2 * (1 + nodes_of (elements_weight env.core es)) ≤ top → 2 * (1 + nodes_of (elements_weight env.core es)) + 1 ≤ room → AreMade (IsWithin top room) blocks (gather env here es)
    gather_well env here no_elements c t r = tt
    gather_well env here (elements e es) c t r =
        made_both (IsWithin top room) blocks (gather_one env here e) (then_do (act (combine Add here.temp here.temp (here.temp + 1))) (gather env here es)) (member_well env here e c.0 (omega (arith, t)) (omega (arith, r)))
        (((omega (arith, t), omega (arith, t), omega (arith, t)), omega (arith, r)), gather_well env here es c.1 (omega (arith, t)) (omega (arith, r)))

    member_well : (env : Env) (here : Here) (m : Member) → EveryNode counted_asks (element_nodes m) → here.temp + 2 * (1 + nodes_of (element_weight env.core m)) ≤ top → 2 * (1 + nodes_of (element_weight env.core m)) + 1 ≤ room → AreMade (IsWithin top room) blocks (gather_one env here m)
    member_well env here (one e) c t r =
        let w = make_well env (past 1 here) e c (omega (arith, t)) (omega (arith, r)) in
        let some = expression_some env.core e c in
        made_both (IsWithin top room) blocks (make env (past 1 here) e).items (only (act (lone (here.temp + 1) (here.temp + 1)))) w.items (((omega (arith, t), omega (arith, t)), omega (arith, r)), tt)
    member_well env here (range e e') c t r =
        let w = make_well env (past 1 here) e c.0 (omega (arith, t)) (omega (arith, r)) in
        let w' = make_well env (past 2 here) e' c.1 (omega (arith, t)) (omega (arith, r)) in
        let some = expression_some env.core e c.0 in
        made_three (IsWithin top room) blocks (make env (past 1 here) e).items (make env (past 2 here) e').items (only (act (span (here.temp + 1) (here.temp + 1) (here.temp + 2)))) w.items w'.items
        (((omega (arith, t), omega (arith, t), omega (arith, t, some)), omega (arith, r)), tt)

    pass_well : (env : Env) (here : Here) (as' : Arguments) → EveryNode counted_asks (arguments_nodes as') → here.temp + 2 * nodes_of (arguments_weight env.core as') ≤ top → 2 * nodes_of (arguments_weight env.core as') + 1 ≤ room → IsPassed (nodes_of (arguments_weight env.core as')) (pass env here as')
    pass_well env here no_arguments c t r = record { items = tt; given = tt; room_is = omega arith }
    pass_well env here (arguments a others) c t r =
        let first = pass_one env here a in
        let w = one_well env here a c.0 (omega (arith, t)) (omega (arith, r)) in
        let rest = pass_well env (past first.used (past_whole here)) others c.1 (omega (arith, w.used, t)) (omega (arith, r)) in
        record { items = made_both (IsWithin top room) blocks first.items _ w.items rest.items; given = (w.given, rest.given); room_is = omega (arith, w.room_is, rest.room_is) }

    one_well : (env : Env) (here : Here) (a : Argument) → EveryNode counted_asks (argument_nodes a) → here.temp + 2 * nodes_of (argument_weight env.core a) ≤ top → 2 * nodes_of (argument_weight env.core a) + 1 ≤ room → IsOne (nodes_of (argument_weight env.core a)) (pass_one env here a)
    one_well env here (value e) c t r =
        let w = make_well env here e c t r in
        let some = expression_some env.core e c in
        let g = value_given (shape_of env.core (type_of e)) (type_of e) here (nodes_of (expression_weight env.core e)) some (omega (arith, some, t)) in
        record { items = w.items; given = g.0; room_is = g.1; used = omega (arith, some) }
    one_well env here (place e) c t r =
        let w = find_well env here e c t r in
        let some = expression_some env.core e c in
        let p = path_short (type_of e) here (here.temp + (find env here e).used) (nodes_of (expression_weight env.core e)) (find env here e).now some w.now in
        record { items = w.items; given = steps_more (here.temp + (find env here e).used) top (path_of (type_of e) here (find env here e).now).steps (omega (arith, w.used, t)) p.1; room_is = omega (arith, p.0); used = omega (arith, w.used) }
    one_well env here (array e) c t r =
        let w = find_well env here e c t r in
        let some = expression_some env.core e c in
        let p = path_short (type_of e) here (here.temp + (find env here e).used) (nodes_of (expression_weight env.core e)) (find env here e).now some w.now in
        record { items = w.items; given = steps_more (here.temp + (find env here e).used) top (path_of (type_of e) here (find env here e).now).steps (omega (arith, w.used, t)) p.1; room_is = omega (arith, p.0); used = omega (arith, w.used) }
    one_well env here (listed of es) c t r =
        let e = listed_node env.core of (count_of es) in
        let one : 1 ≤ 2 * nodes_of (argument_weight env.core (listed of es)) = omega (arith, e) in
        record { items = tt; given = tt; room_is = one; used = omega arith }
