-- How an expression becomes items. Operands are evaluated from the left to the right; the value of an expression goes to the first
-- temporary that is free, or stays in its place where only a part of it is looked at. (Free Pascal Reference Guide, "Expressions".)
use Rattle.std.specs.Prelude.{length, ℕ, ◌+◌, ℤ, pos, negsuc, Bool, true, false, List, [], ◌∷◌, Option, Some, None, slice_get, if◌then◌else◌}
use Rattle.op_core.specs.Expression.{Expression, expression, Root as Start, constant as fixed, variable, object, call, construct as constructed, set as bracketed, Steps, no_steps, steps, Action as Doing, convert, bracket, field, index, prefixed, operate, apply, Elements, no_elements, elements, Element as Member, one, range, Arguments, no_arguments, arguments, Argument, value, place, array, listed}
use Rattle.op_core.specs.Sizes.{type_at, range_of, values_of}
use Rattle.op_core.specs.Typing.{type_of, type_after}
use Rattle.op_core.specs.declared.constant.Const.{Const}
use Rattle.op_core.specs.declared.constant.Const.TheVariants.{Ordinal, Text, Set as SetOf, Nil as NilOf}
use Rattle.op_core.specs.declared.ids.TypeId.{TypeId}
use Rattle.op_core.specs.declared.operation.Conversion.{Conversion}
use Rattle.op_core.specs.declared.operation.Conversion.TheVariants.{LowBits, Check}
use Rattle.op_core.specs.declared.operation.Function.{Function}
use Rattle.op_core.specs.declared.operation.Function.TheVariants.{Length, Low, High, Succ, Pred, Abs, Sqr, Odd, UpCase}
use Rattle.op_core.specs.declared.program.Core.{Core}
use Rattle.op_core.specs.declared.routine.Routine.{Routine}
use Rattle.op_core.specs.declared.types.CoreType.{CoreType}
use Rattle.op_core.specs.declared.types.CoreType.TheVariants.{Integer, Boolean, Char, Set, Array}
use Rattle.op_core.specs.declared.types.IntegerKind.TheVariants.{Unsigned8, Signed32}
use Rattle.op_meaning.specs.Actions.{Action, constant, load, copy, look, arithmetic, compare, negate, complement, invert, absolute, odd, upper, pick, low_bits, check, neighbour, single as lone, span, combine, contains, check_set}
use Rattle.op_meaning.specs.Items.{Given, by_value, by_place, by_copy, Receiver, nowhere, to_temp, to_place, act, also, enter, construct, Items, none, then_do, ◌&◌, only, acts}
use Rattle.op_meaning.specs.Numbers.{between}
use Rattle.op_meaning.specs.Paths.{Path, Step, field as part_field, element as part_element, in_temporary, path_to, with_step, root_of}
use Rattle.op_meaning.specs.Sets.{set_of, set_of_elements}
use Rattle.op_meaning.specs.Shapes.{Shape, single, composite, shape_of, field_number}
use Rattle.op_tree.specs.declared.operator.Operator.{Operator}
use Rattle.op_tree.specs.declared.operator.Operator.TheVariants.{Equal, NotEqual, Less, Greater, LessEqual, GreaterEqual, In_, Add, Subtract, Or, Multiply, And}
use Rattle.op_tree.specs.declared.operator.PrefixOperator.{PrefixOperator}
use Rattle.op_tree.specs.declared.operator.PrefixOperator.TheVariants.{Not, Plus, Minus}

-- ---- temporaries

-- Temporaries are numbered by where a value stands in the text. `Here` has the first free one for a value and the first free one for
-- a record or an array.
pub record Here : Type 0 where
  pub temp : ℕ
  pub whole : ℕ

abbrev pub first_here : Here
first_here = record { temp = 0; whole = 0 }

abbrev pub past : ℕ → Here → Here
past n here = record here { temp = here.temp + n }

abbrev pub past_whole : Here → Here
past_whole here = record here { whole = here.whole + 1 }

-- the program's tables, and the routine whose text it is
pub record Env : Type 0 where
  pub core : Core
  pub routine : ℕ

-- ---- where a value is

-- in the first free temporary, by its type one for a value or one for a record or an array; at a place; or a literal
pub data Now : Type 0 where
  ready : Now
  at_path : (path : Path) → Now
  a_text : (bytes : List ℕ) → Now

-- what was to be done for it, and how many temporaries the indices of its path keep
pub record Found : Type 0 where
  pub items : Items
  pub now : Now
  pub used : ℕ

abbrev pub found : Items → Now → Found
found items now = record { items = items; now = now; used = 0 }

abbrev pub whole_path : TypeId → Here → Path
whole_path of here = path_to (in_temporary of here.whole)

abbrev pub path_of : TypeId → Here → Now → Path
path_of of here (at_path p) = p
path_of of here _ = whole_path of here

-- a value of its own: a number is loaded, a record or an array copied
abbrev pub loaded : Shape → TypeId → Here → Path → Items
loaded (single kind) of here p = only (act (load here.temp kind p))
loaded composite of here p = only (act (copy of (whole_path of here) p))
loaded _ of here p = none

abbrev pub own_by : Core → TypeId → Here → Found → Now → Found
own_by core of here f (at_path p) = found (f.items & loaded (shape_of core of) of here p) ready
own_by core of here f now = f

abbrev pub own : Env → TypeId → Here → Found → Found
own env of here f = own_by env.core of here f f.now

abbrev pub then_acts : Found → List Action → Found
then_acts f actions = record f { items = f.items & acts actions }

-- ---- ranges of types

abbrev pub low_of : Option (ℤ × ℤ) → ℤ
low_of None = pos 0
low_of (Some r) = r.0

abbrev pub high_of : Option (ℤ × ℤ) → ℤ
high_of None = pos 0
high_of (Some r) = r.1

abbrev pub low_in : Core → TypeId → ℤ
low_in core of = low_of (range_of (type_at core of))

abbrev pub high_in : Core → TypeId → ℤ
high_in core of = high_of (range_of (type_at core of))

-- what the values of a type are counted by: an array by its index type, an ordinal type by itself
abbrev pub counted_by : TypeId → Option CoreType → TypeId
counted_by of (Some (Array at element)) = at
counted_by of _ = of

abbrev pub counted_of : Core → TypeId → TypeId
counted_of core of = counted_by of (type_at core of)

-- ---- selections ("Record types" and "Arrays")

-- of what is at a place, or of a value in its temporary
abbrev pub then_step : TypeId → Here → Step → ℕ → Found → Found
then_step of here step used f = record f { now = at_path (with_step step (path_of of here f.now)); used = f.used + used }

abbrev pub element_step : Core → TypeId → ℕ → Step
element_step core of t = part_element of (low_in core (counted_of core of)) (high_in core (counted_of core of)) t

-- the index is evaluated behind the temporaries of the indices in front of it; a literal gives a Char
abbrev pub then_index_by : Core → TypeId → Here → Found → Items → Now → Found
then_index_by core of here f i (a_text bytes) = found (f.items & i & only (act (pick here.temp bytes here.temp))) ready
then_index_by core of here f i now = then_step of here (element_step core of (here.temp + f.used)) 1 (record f { items = f.items & i })

abbrev pub then_index : Core → TypeId → Here → Found → Items → Found
then_index core of here f i = then_index_by core of here f i f.now

-- ---- operators ("Operators")

abbrev pub is_comparison : Operator → Bool
is_comparison Equal = true
is_comparison NotEqual = true
is_comparison Less = true
is_comparison Greater = true
is_comparison LessEqual = true
is_comparison GreaterEqual = true
is_comparison _ = false

-- by the type of the left operand, which is in the temporary; the right one is in the next one
abbrev pub on_two : Operator → Bool → Option CoreType → ℕ → Action
on_two o checked (Some (Set base)) t = combine o t t (t + 1)
on_two In_ checked _ t = contains t t (t + 1)
on_two o checked _ t = if is_comparison o then compare o t t (t + 1) else arithmetic o checked t t (t + 1)

-- The truth value of the left operand with which the right one is evaluated: `and` of Booleans stops at False, and `or` at True
-- ("Boolean operators").
abbrev pub goes_on_at : Operator → Option CoreType → Option Bool
goes_on_at And (Some Boolean) = Some true
goes_on_at Or (Some Boolean) = Some false
goes_on_at _ _ = None

-- where the right operand goes: in place of the left one where that decides nothing any more, else behind it
abbrev pub second_here : Option Bool → Here → Here
second_here None here = past 1 here
second_here (Some truth) here = here

abbrev pub two_by : Option Bool → Operator → Bool → Option CoreType → Here → Found → Items → Found
two_by None o checked of here f second = found (f.items & second & only (act (on_two o checked of here.temp))) ready
two_by (Some truth) o checked of here f second = found (f.items & only (also truth here.temp second)) ready

abbrev pub is_boolean : Option CoreType → Bool
is_boolean (Some Boolean) = true
is_boolean _ = false

abbrev pub prefix : PrefixOperator → Bool → Option CoreType → ℕ → List Action
prefix Plus checked of t = []
prefix Minus checked of t = negate checked t t ∷ []
prefix Not checked of t = if is_boolean of then invert t t ∷ [] else complement t t ∷ []

-- ---- conversions ("Value typecasts"; Programmer's Guide, "$R : Range checking")

-- the low bits are kept, or the value is checked; of a set its elements are
abbrev pub converted_by : Core → Conversion → TypeId → Option CoreType → ℕ → List Action
converted_by core LowBits to (Some (Integer kind)) t = low_bits kind t t ∷ []
converted_by core LowBits to (Some Char) t = low_bits Unsigned8 t t ∷ []
converted_by core Check to (Some (Set base)) t = check_set (set_of (λ n. between (low_in core base) (high_in core base) (pos n))) t t ∷ []
converted_by core Check to of t = check (low_in core to) (high_in core to) t t ∷ []
converted_by core _ to of t = []

abbrev pub converted : Core → Conversion → TypeId → ℕ → List Action
converted core c to t = converted_by core c to (type_at core to) t

-- ---- functions (reference of the unit System, "Succ", "Pred", "Abs", "Sqr", "Odd", "UpCase", "Ord", "Low", "High" and "Length")

-- of an Integer the next one is a sum; of every other ordinal type it is a value of the type
abbrev pub moved : Core → Operator → ℤ → Bool → TypeId → Option CoreType → ℕ → List Action
moved core o distance checked of (Some (Integer Signed32)) t = constant (t + 1) (pos 1) ∷ arithmetic o checked t t (t + 1) ∷ []
moved core o distance checked of _ t = neighbour distance (low_in core of) (high_in core of) t t ∷ []

abbrev pub applied : Core → Function → Bool → TypeId → ℕ → List Action
applied core Succ checked of t = moved core Add (pos 1) checked of (type_at core of) t
applied core Pred checked of t = moved core Subtract (negsuc 0) checked of (type_at core of) t
applied core Abs checked of t = absolute checked t t ∷ []
applied core Sqr checked of t = arithmetic Multiply checked t t t ∷ []
applied core Odd checked of t = odd t t ∷ []
applied core UpCase checked of t = upper t t ∷ []
applied core _ checked of t = []

-- the bounds and the length of an array, and the bounds of an ordinal type, are those of the type
abbrev pub measured_by : Function → Option (ℤ × ℤ) → Option ℤ
measured_by Low (Some r) = Some r.0
measured_by High (Some r) = Some r.1
measured_by Length (Some r) = Some (pos (values_of (Some r)))
measured_by _ _ = None

-- those of a literal begin at 1
abbrev pub measured : Core → Function → TypeId → Now → Option ℤ
measured core f of (a_text bytes) = measured_by f (Some (pos 1, pos (length bytes)))
measured core f of now = measured_by f (range_of (type_at core (counted_of core of)))

-- the place is looked at where it is
abbrev pub looked_at : Now → Items
looked_at (at_path p) = only (act (look p))
looked_at _ = none

abbrev pub applied_by : Option ℤ → Env → Function → Bool → TypeId → Here → Found → Found
applied_by None env function checked of here f = then_acts (own env of here f) (applied env.core function checked of here.temp)
applied_by (Some n) env function checked of here f = found (f.items & looked_at f.now & only (act (constant here.temp n))) ready

-- ---- constants, calls and arguments

abbrev pub of_constant : Const → ℕ → Found
of_constant (Ordinal n) t = found (only (act (constant t n))) ready
of_constant (SetOf es) t = found (only (act (constant t (set_of_elements es)))) ready
of_constant (Text bytes) t = found none (a_text bytes)
of_constant NilOf t = found none ready

abbrev pub receiver_by : Shape → TypeId → Here → Receiver
receiver_by (single kind) of here = to_temp here.temp
receiver_by _ of here = to_place of (whole_path of here)

abbrev pub receiver_of : Core → Option TypeId → Here → Receiver
receiver_of core None here = nowhere
receiver_of core (Some of) here = receiver_by (shape_of core of) of here

abbrev pub result_of : Option Routine → Option TypeId
result_of None = None
result_of (Some r) = r.result

-- what a value parameter is given ("Value parameters")
abbrev pub given_by : Shape → TypeId → Here → Given
given_by (single kind) of here = by_value kind here.temp
given_by _ of here = by_copy of (whole_path of here)

-- what is done for the arguments of a call, and what its parameters are then given
pub record AllPassed : Type 0 where
  pub items : Items
  pub given : List Given

-- the same for one argument
pub record OnePassed : Type 0 where
  pub items : Items
  pub given : Given
  -- the temporaries that it keeps until the call
  pub used : ℕ

-- ---- expressions

abbrev mutual
  -- the value, or the place where it is
  pub find : Env → Here → Expression → Found
  find env here (expression root of others) = find_steps env here of others (find_root env here of root)

  -- the value, in a temporary of its own
  pub make : Env → Here → Expression → Found
  make env here (expression root of others) = own env (type_after of others) here (find_steps env here of others (find_root env here of root))

  pub find_root : Env → Here → TypeId → Start → Found
  find_root env here of (fixed c nodes words) = of_constant c here.temp
  find_root env here of (variable v) = found none (at_path (path_to (root_of env.core env.routine v)))
  find_root env here of (object v) = found none (at_path (path_to (root_of env.core env.routine v)))
  find_root env here of (call r given) =
      let passing = pass env (past_whole here) given in
      found (passing.items & only (enter r.0 passing.given (receiver_of env.core (result_of (slice_get env.core.routines r.0)) here))) ready
  find_root env here of (constructed c r given) =
      let passing = pass env (past_whole here) given in
      found (passing.items & only (construct c r.0 passing.given (to_place of (whole_path of here)))) ready
  find_root env here of (bracketed es) = found (then_do (act (constant here.temp (pos 0))) (gather env here es)) ready
  find_root env here of _ = found none ready

  pub find_steps : Env → Here → TypeId → Steps → Found → Found
  find_steps env here of no_steps f = f
  find_steps env here of (steps action next others) f = find_steps env here next others (find_step env here of action next f)

  -- what is so far has the first type, what comes out the second one
  pub find_step : Env → Here → TypeId → Doing → TypeId → Found → Found
  find_step env here of (convert c origin) to f = then_acts (own env of here f) (converted env.core c to here.temp)
  find_step env here of bracket to f = own env of here f
  find_step env here of (field id) to f = then_step of here (part_field of (field_number env.core of id)) 0 f
  find_step env here of (index e) to f = then_index env.core of here f (make env (past f.used (past_whole here)) e).items
  find_step env here of (prefixed o checked) to f = then_acts (own env of here f) (prefix o checked (type_at env.core of) here.temp)
  find_step env here of (operate o checked e) to f =
      let goes_on = goes_on_at o (type_at env.core of) in
      two_by goes_on o checked (type_at env.core of) here (own env of here f) (make env (second_here goes_on here) e).items
  find_step env here of (apply function checked) to f = applied_by (measured env.core function of f.now) env function checked of here f
  find_step env here of _ to f = f

  -- the elements of a set constructor are joined one after the other ("Set Constructors")
  pub gather : Env → Here → Elements → Items
  gather env here no_elements = none
  gather env here (elements e es) = gather_one env here e & then_do (act (combine Add here.temp here.temp (here.temp + 1))) (gather env here es)

  pub gather_one : Env → Here → Member → Items
  gather_one env here (one e) = (make env (past 1 here) e).items & only (act (lone (here.temp + 1) (here.temp + 1)))
  gather_one env here (range e e') = (make env (past 1 here) e).items & (make env (past 2 here) e').items & only (act (span (here.temp + 1) (here.temp + 1) (here.temp + 2)))

  -- arguments are evaluated from the left to the right; the paths of places are followed by the call ("Parameter lists")
  pub pass : Env → Here → Arguments → AllPassed
  pass env here no_arguments = record { items = none; given = [] }
  pass env here (arguments a others) =
      let first = pass_one env here a in
      let rest = pass env (past first.used (past_whole here)) others in
      record { items = first.items & rest.items; given = first.given ∷ rest.given }

  pub pass_one : Env → Here → Argument → OnePassed
  pass_one env here (value e) = let f = make env here e in record { items = f.items; given = given_by (shape_of env.core (type_of e)) (type_of e) here; used = 1 }
  pass_one env here (place e) = let f = find env here e in record { items = f.items; given = by_place (path_of (type_of e) here f.now); used = f.used }
  pass_one env here (array e) = let f = find env here e in record { items = f.items; given = by_place (path_of (type_of e) here f.now); used = f.used }
  pass_one env here (listed of es) = record { items = none; given = by_copy of (whole_path of here); used = 0 }
