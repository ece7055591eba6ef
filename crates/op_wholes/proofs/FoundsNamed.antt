-- What is found of an expression names no other temporaries of record and array types than a list has, if the list has the one of its own value.
use Rattle.std.proofs.Common.{◌≡◌, ℕ, ◌+◌, ◌-◌, ℤ, pos, negsuc, Bool, true, false, List, [], ◌∷◌, Option, Some, None, slice_get, refl, sym, subst, if◌then◌else◌, inl, inr}
use Rattle.op_constants.specs.Shapes.{is_composite}
use Rattle.op_core.specs.Expression.{Expression, constant as fixed}
use Rattle.op_core.specs.Sizes.{type_at}
use Rattle.op_core.specs.Typing.{Fits, GivesType}
use Rattle.op_core.specs.declared.constant.Const.{Const}
use Rattle.op_core.specs.declared.constant.Const.TheVariants.{Ordinal, Text, Set as SetOf, Nil as NilOf}
use Rattle.op_core.specs.declared.ids.TypeId.{TypeId}
use Rattle.op_core.specs.declared.ids.VariableId.{VariableId}
use Rattle.op_core.specs.declared.operation.Conversion.{Conversion}
use Rattle.op_core.specs.declared.operation.Conversion.TheVariants.{LowBits, Check}
use Rattle.op_core.specs.declared.operation.Function.{Function}
use Rattle.op_core.specs.declared.operation.Function.TheVariants.{Abs, Odd, Pred, Sqr, Succ, UpCase}
use Rattle.op_core.specs.declared.program.Core.{Core}
use Rattle.op_core.specs.declared.types.CoreType.{CoreType}
use Rattle.op_core.specs.declared.types.CoreType.TheVariants.{Char, Integer, Set}
use Rattle.op_core.specs.declared.types.IntegerKind.TheVariants.{Signed32}
use Rattle.op_frames.proofs.ExpressionsWithin.{made_both, made_three}
use Rattle.op_frames.specs.Made.{AreMade}
use Rattle.op_frames.specs.Wholes.{ActionIn, AreWholesIn, GivenIn, IsWholeIn, ReceiverIn}
use Rattle.op_meaning.specs.Actions.{Action, compare, complement, arithmetic, constant, invert, pick}
use Rattle.op_meaning.specs.Every.{EveryNode, is_text, root_nodes}
use Rattle.op_meaning.specs.Expressions.{Found, Here, Now, a_text, applied, applied_by, at_path, converted, converted_by, element_step, found, given_by, is_boolean, is_comparison, loaded, looked_at, make, moved, of_constant, on_two, own, own_by, past, path_of, prefix, ready, receiver_by, receiver_of, second_here, then_acts, then_index_by, then_step, two_by}
use Rattle.op_meaning.specs.Items.{Items, act, acts, also, none, only, ◌&◌}
use Rattle.op_meaning.specs.Paths.{Path, Step, in_global, in_local, root_of, through}
use Rattle.op_meaning.specs.Shapes.{Shape, composite, is_local, of_chars, of_elements, of_instance, refers, shape_of, single, variables_of}
use Rattle.op_mir.specs.Code.{branch_unless}
use Rattle.op_mir.specs.declared.path.Root.{Root}
use Rattle.op_mir.specs.declared.path.Root.TheVariants.{Temporary}
use Rattle.op_tree.specs.declared.operator.Operator.{Operator}
use Rattle.op_tree.specs.declared.operator.Operator.TheVariants.{Add, In_, Subtract}
use Rattle.op_tree.specs.declared.operator.PrefixOperator.{PrefixOperator}
use Rattle.op_tree.specs.declared.operator.PrefixOperator.TheVariants.{Minus, Not, Plus}
use Rattle.op_typing.proofs.Founds.{env_at}
use Rattle.op_typing.proofs.Rows.{not_true}
use Rattle.op_typing.proofs.Types.{one_back_solid, solid_is}
use Rattle.op_typing.specs.Simple.{IsSolidType, simple_asks}
use Rattle.op_typing.specs.Typed.{IsSolid}
use Rattle.op_wholes.proofs.ListsCovered.{IsListed, AreListed}
use Rattle.op_wholes.proofs.PlacesFound.{IsAt}
use Rattle.op_wholes.proofs.TypesWhole.{IsWhole, whole_shape, constant_apart, one_whole}
use Rattle.op_wholes.specs.Listed.{whole_of}

-- the items name no others than the list has
abbrev pub AreNamed : List Root → ℕ → Items → Type 0
AreNamed wholes blocks items = AreMade (AreWholesIn wholes) blocks items

-- it has the temporary with this number, if values of the type have parts
abbrev pub HasOwn : Core → List Root → ℕ → TypeId → Type 0
HasOwn core wholes n of = IsWhole core of → IsListed wholes (Temporary of n)

-- a node that is listed has its temporary
pub own_of : (core : Core) (wholes : List Root) (n : ℕ) (of : TypeId) → AreListed wholes (whole_of core n of) → HasOwn core wholes n of
own_of core wholes n of h e = by (is_composite (shape_of core of)) e h
  where
    by : (whole : Bool) → whole ≡ true → AreListed wholes (if whole then Temporary of n ∷ [] else []) → IsListed wholes (Temporary of n)
    by true e h = h.0
    by false e h = absurd (not_true e)

pub both : (wholes : List Root) (blocks : ℕ) (a b : Items) → AreNamed wholes blocks a → AreNamed wholes blocks b → AreNamed wholes blocks (a & b)
both wholes blocks a b p q = made_both (AreWholesIn wholes) blocks a b p q

pub three : (wholes : List Root) (blocks : ℕ) (a b c : Items) → AreNamed wholes blocks a → AreNamed wholes blocks b → AreNamed wholes blocks c → AreNamed wholes blocks (a & (b & c))
three wholes blocks a b c p q s = made_three (AreWholesIn wholes) blocks a b c p q s

module _ (core : Core) (r : ℕ) (wholes : List Root) (blocks : ℕ) where
  -- ---- what is found

  -- where it is: a path begins with nothing that the list lacks
  abbrev pub IsNow : Now → Type 0
  IsNow ready = Unit {0}
  IsNow (at_path p) = IsWholeIn wholes p.root
  IsNow (a_text bytes) = Unit {0}

  -- a text that is written there, or a value of a solid type
  abbrev pub IsState : Bool → TypeId → Now → Type 0
  IsState false of now = IsSolidType core of
  IsState true of ready = ⊥
  IsState true of (at_path p) = ⊥
  IsState true of (a_text bytes) = Unit {0}

  -- of what is found, whatever steps are still to come
  pub record IsFound (text : Bool) (of : TypeId) (here : Here) (f : Found) : Type 0 where
    pub items : AreNamed wholes blocks f.items
    pub own_is : HasOwn core wholes here.whole of
    pub now : IsNow f.now
    pub state : IsState text of f.now

  -- ---- paths

  -- a part of a value with parts, wherever that is
  pub path_in : (of : TypeId) (here : Here) (now : Now) → HasOwn core wholes here.whole of → IsWhole core of → IsNow now → IsWholeIn wholes (path_of of here now).root
  path_in of here ready own e p = own e
  path_in of here (at_path path) own e p = p
  path_in of here (a_text bytes) own e p = own e

  -- of what is found at a place
  pub place_in : (of : TypeId) (here : Here) (now : Now) → IsAt now → IsNow now → IsWholeIn wholes (path_of of here now).root
  place_in of here ready at p = absurd at
  place_in of here (at_path path) at p = p
  place_in of here (a_text bytes) at p = absurd at

  -- a variable is no temporary
  pub variable_in : (v : VariableId) → IsWholeIn wholes (root_of core r v)
  variable_in v = by (is_local core r v) (refers (slice_get core.variables v.0))
    where
      inner : (refers_ : Bool) → IsWholeIn wholes (if refers_ then through (v.0 - (variables_of core r).first) else in_local (v.0 - (variables_of core r).first))
      inner true = tt
      inner false = tt

      by : (local refers_ : Bool) → IsWholeIn wholes (if local then (if refers_ then through (v.0 - (variables_of core r).first) else in_local (v.0 - (variables_of core r).first)) else in_global v.0)
      by true refers_ = inner refers_
      by false refers_ = tt

  -- ---- a value of its own

  loaded_in : (s : Shape) (of : TypeId) (here : Here) (p : Path) → shape_of core of ≡ s → HasOwn core wholes here.whole of → IsWholeIn wholes p.root → AreNamed wholes blocks (loaded s of here p)
  loaded_in (single kind) of here p e own h = (h, tt)
  loaded_in composite of here p e own h = ((own (whole_shape (shape_of core of) e), h), tt)
  loaded_in of_chars of here p e own h = tt
  loaded_in of_elements of here p e own h = tt
  loaded_in (of_instance holds) of here p e own h = tt

  owned_by : (of : TypeId) (here : Here) (f : Found) (now : Now) → AreNamed wholes blocks f.items → HasOwn core wholes here.whole of → IsNow f.now → IsNow now → AreNamed wholes blocks (own_by core of here f now).items × IsNow (own_by core of here f now).now
  owned_by of here f ready items own p q = (items, p)
  owned_by of here f (a_text bytes) items own p q = (items, p)
  owned_by of here f (at_path path) items own p q = (both wholes blocks f.items (loaded (shape_of core of) of here path) items (loaded_in (shape_of core of) of here path refl own q), tt)

  pub owned : (text : Bool) (of : TypeId) (here : Here) (f : Found) → IsFound text of here f → AreNamed wholes blocks (own (env_at core r) of here f).items × IsNow (own (env_at core r) of here f).now
  owned text of here f w = owned_by of here f f.now w.items w.own_is w.now w.now

  -- of what is at a path
  pub owned_path : (of : TypeId) (here : Here) (p : Path) → HasOwn core wholes here.whole of → IsWholeIn wholes p.root → AreNamed wholes blocks (own (env_at core r) of here (found none (at_path p))).items
  owned_path of here p own_is h = both wholes blocks none (loaded (shape_of core of) of here p) tt (loaded_in (shape_of core of) of here p refl own_is h)

  -- a text stays where it is
  pub text_kept : (of next : TypeId) (here : Here) (f : Found) (now : Now) → IsState true of now → IsState true of f.now → IsState true next (own_by core of here f now).now
  text_kept of next here f (a_text bytes) s t = text_any f.now t
    where
      text_any : (now : Now) → IsState true of now → IsState true next now
      text_any (a_text bytes) t = tt
      text_any ready t = absurd t
      text_any (at_path p) t = absurd t
  text_kept of next here f ready s t = absurd s
  text_kept of next here f (at_path p) s t = absurd s

  -- ---- actions without places

  pub moved_in : (o : Operator) (distance : ℤ) (checked : Bool) (of : TypeId) (type : Option CoreType) (t : ℕ) → AreNamed wholes blocks (acts (moved core o distance checked of type t))
  moved_in o distance checked of (Some (Integer Signed32)) t = (tt, (tt, tt))
  moved_in o distance checked of type t = (tt, tt)

  pub applied_in : (function : Function) (checked : Bool) (of : TypeId) (t : ℕ) → AreNamed wholes blocks (acts (applied core function checked of t))
  applied_in Succ checked of t = moved_in Add (pos 1) checked of (type_at core of) t
  applied_in Pred checked of t = moved_in Subtract (negsuc 0) checked of (type_at core of) t
  applied_in Abs checked of t = (tt, tt)
  applied_in Sqr checked of t = (tt, tt)
  applied_in Odd checked of t = (tt, tt)
  applied_in UpCase checked of t = (tt, tt)
  applied_in _ checked of t = tt

  converted_by_in : (c : Conversion) (to : TypeId) (o : Option CoreType) (t : ℕ) → AreNamed wholes blocks (acts (converted_by core c to o t))
  converted_by_in LowBits to (Some (Integer kind)) t = (tt, tt)
  converted_by_in LowBits to (Some Char) t = (tt, tt)
  converted_by_in Check to (Some (Set base)) t = (tt, tt)
  converted_by_in Check to o t = (tt, tt)
  converted_by_in _ to o t = tt

  pub converted_in : (c : Conversion) (to : TypeId) (t : ℕ) → AreNamed wholes blocks (acts (converted core c to t))
  converted_in c to t = converted_by_in c to (type_at core to) t

  not_in : (whether : Bool) (t : ℕ) → AreNamed wholes blocks (acts (if whether then invert t t ∷ [] else complement t t ∷ []))
  not_in true t = (tt, tt)
  not_in false t = (tt, tt)

  pub prefix_in : (o : PrefixOperator) (checked : Bool) (of : Option CoreType) (t : ℕ) → AreNamed wholes blocks (acts (prefix o checked of t))
  prefix_in Plus checked of t = tt
  prefix_in Minus checked of t = (tt, tt)
  prefix_in Not checked of t = not_in (is_boolean of) t

  compared_in : (whether : Bool) (o : Operator) (checked : Bool) (t : ℕ) → ActionIn wholes (if whether then compare o t t (t + 1) else arithmetic o checked t t (t + 1))
  compared_in true o checked t = tt
  compared_in false o checked t = tt

  on_two_in : (o : Operator) (checked : Bool) (of : Option CoreType) (t : ℕ) → ActionIn wholes (on_two o checked of t)
  on_two_in o checked (Some (Set base)) t = tt
  on_two_in In_ checked of t = tt
  on_two_in o checked of t = compared_in (is_comparison o) o checked t

  unless_in : (truth : Bool) (t k : ℕ) → AreWholesIn wholes (branch_unless truth t k)
  unless_in true t k = tt
  unless_in false t k = tt

  -- ---- steps

  -- what works on a value of its own, in the first temporaries
  pub acts_found : (text : Bool) (of next : TypeId) (here : Here) (f : Found) (actions : List Action) → IsFound text of here f → AreNamed wholes blocks (acts actions) → HasOwn core wholes here.whole next → IsSolidType core next → IsFound false next here (then_acts (own (env_at core r) of here f) actions)
  acts_found text of next here f actions w h own_next solid =
      let o = owned text of here f w in
      record { items = both wholes blocks (own (env_at core r) of here f).items (acts actions) o.0 h; own_is = own_next; now = o.1; state = solid }

  pub looked_in : (now : Now) → IsNow now → AreNamed wholes blocks (looked_at now)
  looked_in ready p = tt
  looked_in (at_path path) p = (p, tt)
  looked_in (a_text bytes) p = tt

  pub apply_found : (o : Option ℤ) (text : Bool) (function : Function) (checked : Bool) (of next : TypeId) (here : Here) (f : Found) → IsFound text of here f → HasOwn core wholes here.whole next → IsSolidType core next → IsFound false next here (applied_by o (env_at core r) function checked of here f)
  apply_found None text function checked of next here f w own_next solid = acts_found text of next here f (applied core function checked of here.temp) w (applied_in function checked of here.temp) own_next solid
  apply_found (Some k) text function checked of next here f w own_next solid = record {
    items = three wholes blocks f.items (looked_at f.now) (only (act (constant here.temp k))) w.items (looked_in f.now w.now) (tt, tt);
    own_is = own_next;
    now = tt;
    state = solid;
  }

  -- a path that leads on to a part
  pub step_found : (of next : TypeId) (here : Here) (s : Step) (used : ℕ) (f : Found) (items : Items) → IsFound false of here f → AreNamed wholes blocks items → IsWhole core of → HasOwn core wholes here.whole next → IsSolidType core next → IsFound false next here (then_step of here s used (record f { items = items }))
  step_found of next here s used f items w h e own_next solid = record { items = h; own_is = own_next; now = path_in of here f.now w.own_is e w.now; state = solid }

  pub index_found : (of next : TypeId) (here : Here) (f : Found) (i : Items) (now : Now) → IsFound false of here f → AreNamed wholes blocks i → IsWhole core of → HasOwn core wholes here.whole next → IsSolidType core next → IsFound false next here (then_index_by core of here f i now)
  index_found of next here f i ready w h e own_next solid = step_found of next here (element_step core of (here.temp + f.used)) 1 f (f.items & i) w (both wholes blocks f.items i w.items h) e own_next solid
  index_found of next here f i (at_path p) w h e own_next solid = step_found of next here (element_step core of (here.temp + f.used)) 1 f (f.items & i) w (both wholes blocks f.items i w.items h) e own_next solid
  index_found of next here f i (a_text bytes) w h e own_next solid = record { items = three wholes blocks f.items i (only (act (pick here.temp bytes here.temp))) w.items h (tt, tt); own_is = own_next; now = tt; state = solid }

  -- of a text that is written there a Char is picked
  pub pick_found : (of next : TypeId) (here : Here) (f : Found) (i : Items) (now : Now) → IsState true of now → AreNamed wholes blocks f.items → AreNamed wholes blocks i → HasOwn core wholes here.whole next → IsSolidType core next → IsFound false next here (then_index_by core of here f i now)
  pick_found of next here f i (a_text bytes) s w h own_next solid = record { items = three wholes blocks f.items i (only (act (pick here.temp bytes here.temp))) w h (tt, tt); own_is = own_next; now = tt; state = solid }
  pick_found of next here f i ready s w h own_next solid = absurd s
  pick_found of next here f i (at_path p) s w h own_next solid = absurd s

  pub two_found : (goes : Option Bool) (o : Operator) (checked : Bool) (type : Option CoreType) (next : TypeId) (here : Here) (f : Found) (second : Items) → AreNamed wholes blocks f.items → AreNamed wholes blocks second → HasOwn core wholes here.whole next → IsSolidType core next → IsFound false next here (two_by goes o checked type here f second)
  two_found None o checked type next here f second w h own_next solid = record { items = three wholes blocks f.items second (only (act (on_two o checked type here.temp))) w h (on_two_in o checked type here.temp, tt); own_is = own_next; now = tt; state = solid }
  two_found (Some truth) o checked type next here f second w h own_next solid = record { items = both wholes blocks f.items (only (also truth here.temp second)) w ((λ k above less. unless_in truth here.temp k, h), tt); own_is = own_next; now = tt; state = solid }

  pub second_in : (here : Here) (goes : Option Bool) (e : Expression) → AreNamed wholes blocks (make (env_at core r) (past 1 here) e).items → AreNamed wholes blocks (make (env_at core r) here e).items → AreNamed wholes blocks (make (env_at core r) (second_here goes here) e).items
  second_in here None e a b = a
  second_in here (Some truth) e a b = b

  -- ---- constants

  pub constant_found : (c : Const) (nodes words : ℕ) (of : TypeId) (here : Here) → Fits core c of → EveryNode (simple_asks core) (root_nodes (fixed c nodes words) of) → IsFound (is_text (fixed c nodes words)) of here (of_constant c here.temp)
  constant_found (Ordinal n) nodes words of here h s = record { items = (tt, tt); own_is = λ e. absurd (constant_apart core (Ordinal n) of h e); now = tt; state = s }
  constant_found (SetOf es) nodes words of here h s = record { items = (tt, tt); own_is = λ e. absurd (constant_apart core (SetOf es) of h e); now = tt; state = s }
  constant_found (Text bytes) nodes words of here h s = record { items = tt; own_is = λ e. absurd (constant_apart core (Text bytes) of h e); now = tt; state = tt }
  constant_found NilOf nodes words of here h s = record { items = tt; own_is = λ e. absurd (constant_apart core NilOf of h e); now = tt; state = s }

  -- ---- calls

  -- the result of a call has the type of its node
  pub receiver_in : (result : Option TypeId) (of : TypeId) (here : Here) → GivesType core result of → IsSolidType core of → HasOwn core wholes here.whole of → ReceiverIn wholes (receiver_of core result here)
  receiver_in None of here h solid own_is = tt
  receiver_in (Some to) of here h solid own_is =
      let same = one_back_solid core to of h solid in
      by (solid_is core to (subst (IsSolidType core) (sym same) solid)) (subst (HasOwn core wholes here.whole) (sym same) own_is)
    where
      by : IsSolid core to → HasOwn core wholes here.whole to → ReceiverIn wholes (receiver_by (shape_of core to) to here)
      by (inl (kind, e)) whole = subst (λ s. ReceiverIn wholes (receiver_by s to here)) (sym e) tt
      by (inr e) whole = subst (λ s. ReceiverIn wholes (receiver_by s to here)) (sym e) (whole (whole_shape (shape_of core to) e))

  -- an argument that is a value has the type of its node
  pub given_in : (of : TypeId) (here : Here) → IsSolidType core of → HasOwn core wholes here.whole of → GivenIn wholes (given_by (shape_of core of) of here)
  given_in of here solid own_is = by (solid_is core of solid)
    where
      by : IsSolid core of → GivenIn wholes (given_by (shape_of core of) of here)
      by (inl (kind, e)) = subst (λ s. GivenIn wholes (given_by s of here)) (sym e) tt
      by (inr e) = subst (λ s. GivenIn wholes (given_by s of here)) (sym e) (own_is (whole_shape (shape_of core of) e))
