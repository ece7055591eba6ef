-- How an expression becomes items. Operands are evaluated from the left to the right; the value of an expression goes to the first
-- temporary that is free, or stays in its place where only a part of it is looked at. (Free Pascal Reference Guide, "Expressions".)
use Rattle.std.specs.Prelude.{length, ℕ, suc, ◌+◌, ℤ, pos, negsuc, Bool, true, false, ◌||◌, List, [], ◌∷◌, Option, Some, None, slice_get, if◌then◌else◌}
use Rattle.op_core.specs.Expression.{Expression, expression, Root as Start, constant as fixed, variable, object, call, construct as constructed, set as bracketed, eof, eoln, Steps, no_steps, steps, Action as Doing, convert, bracket, field, index, method, prefixed, operate, is as is_of, apply, copy as copy_of, Elements, no_elements, elements, Element as Member, one, range, Arguments, no_arguments, arguments, Argument, value, place, array, listed, Expressions, no_expressions, expressions}
use Rattle.op_core.specs.Sizes.{type_at, range_of, values_of}
use Rattle.op_core.specs.Typing.{type_of, type_after}
use Rattle.op_core.specs.declared.constant.Const.{Const}
use Rattle.op_core.specs.declared.constant.Const.TheVariants.{Ordinal, Text, Set as SetOf, Nil as NilOf}
use Rattle.op_core.specs.declared.ids.FieldId.{FieldId}
use Rattle.op_core.specs.declared.ids.TypeId.{TypeId}
use Rattle.op_core.specs.declared.operation.Conversion.{Conversion}
use Rattle.op_core.specs.declared.operation.Conversion.TheVariants.{Keep, LowBits, Check, ToString, ToInterface, Instance}
use Rattle.op_core.specs.declared.operation.Function.{Function}
use Rattle.op_core.specs.declared.operation.Function.TheVariants.{Length, Low, High, Succ, Pred, Abs, Sqr, Odd, UpCase, Assigned, Whole, ClassName}
use Rattle.op_core.specs.declared.program.Core.{Core}
use Rattle.op_core.specs.declared.routine.Routine.{Routine}
use Rattle.op_core.specs.declared.routine.Variable.{Variable}
use Rattle.op_core.specs.declared.types.CoreType.{CoreType}
use Rattle.op_core.specs.declared.types.CoreType.TheVariants.{Integer, Boolean, Char, String, Set, Array, DynamicArray, OpenArray, Class}
use Rattle.op_core.specs.declared.types.IntegerKind.TheVariants.{Unsigned8, Signed32}
use Rattle.op_semantics.specs.Actions.{Action, constant, load, store, copy, arithmetic, compare, negate, complement, invert, absolute, odd, upper, pick, low_bits, check, neighbour, single as lone, span, combine, contains, check_set, peek, primitive}
use Rattle.op_semantics.specs.Items.{Given, by_value, by_place, by_elements, by_copy, by_operand, Receiver, nowhere, to_temp, to_place, to_new, act, also, enter, construct, invoke, Items, none, then_do, ◌&◌, only, acts}
use Rattle.op_meaning.specs.Charge.{is_open}
use Rattle.op_meaning.specs.Numbers.{between}
use Rattle.op_semantics.specs.Paths.{Path, Root, through, in_temporary, Step, field as part_field, element as part_element, of_array, of_open, of_instance, path_to, with_step, root_of, array_on}
use Rattle.op_semantics.specs.Primitives.{Operand, from_temp, value_of, literal_text, nil_of, a_type, Destination, in_temp, in_new, over_place}
use Rattle.op_meaning.specs.Sets.{set_of, set_of_elements}
use Rattle.op_semantics.specs.Shapes.{no_type, Shape, single, composite, of_chars, shape_of, is_managed, field_number, field_of_class, variables_of, refers}
use Rattle.op_semantics.specs.World.{Temporary}
use Rattle.op_semantics.specs.declared.primitive.Primitive.{Primitive}
use Rattle.op_semantics.specs.declared.primitive.Primitive.TheVariants.{Same, Concatenate, CompareTexts, TextLength, CharAt, PieceOfText, TextOfChar, ArrayLength, PieceOfArray, CopyElements, NewList, SameName, IsSome, AsInterface, AsInstance, IsInstance, NameOfClass}
use Rattle.op_tree.specs.declared.operator.Operator.{Operator}
use Rattle.op_tree.specs.declared.operator.Operator.TheVariants.{Equal, NotEqual, Less, Greater, LessEqual, GreaterEqual, In_, Add, Subtract, Or, Multiply, And}
use Rattle.op_tree.specs.declared.operator.PrefixOperator.{PrefixOperator}
use Rattle.op_tree.specs.declared.operator.PrefixOperator.TheVariants.{Not, Plus, Minus}

-- ---- temporaries

-- Temporaries are numbered by where a value stands in the text. `Here` has the first free one for a number and the first free one for
-- a record or an array without managed parts, both of which are used again, and the first free one for a value that has to be ended. Of these none
-- is used twice in a statement: they are numbered in order of evaluation.
pub record Here : Type 0 where
  pub temp : ℕ
  pub whole : ℕ
  pub held : ℕ

abbrev pub first_here : Here
first_here = record { temp = 0; whole = 0; held = 0 }

abbrev pub past : ℕ → Here → Here
past n here = record here { temp = here.temp + n }

abbrev pub past_whole : Here → Here
past_whole here = record here { whole = here.whole + 1 }

abbrev pub holding : ℕ → Here → Here
holding held here = record here { held = held }

-- the program's tables, and the routine whose text it is
pub record Env : Type 0 where
  pub core : Core
  pub routine : ℕ

-- ---- where a value is

-- In the first free temporary, by its type one for a number or one for a record or an array; at a place; in a temporary of its own; a literal;
-- nil of a type; or a Char of a text, by the temporary that has the index.
pub data Now : Type 0 where
  ready : Now
  at_path : (path : Path) → Now
  owned : (path : Path) → Now
  a_text : (bytes : List ℕ) → Now
  a_nil : (of : TypeId) → Now
  a_char : (text : Operand) → (t : ℕ) → Now

-- what was to be done for it, how many temporaries the indices of its path keep, and the first free one behind it for a value that has to be ended
pub record Found : Type 0 where
  pub items : Items
  pub now : Now
  pub used : ℕ
  pub held : ℕ

abbrev pub found : Items → Now → ℕ → Found
found items now held = record { items = items; now = now; used = 0; held = held }

abbrev pub whole_path : TypeId → Here → Path
whole_path of here = path_to (in_temporary of here.whole)

abbrev pub held_path : TypeId → ℕ → Path
held_path of n = path_to (in_temporary of n)

abbrev pub path_of : TypeId → Here → Now → Path
path_of of here (at_path p) = p
path_of of here (owned p) = p
path_of of here _ = whole_path of here

-- a value that is no number, where it is
abbrev pub operand_of : TypeId → Here → Now → Operand
operand_of of here ready = value_of (whole_path of here)
operand_of of here (at_path p) = value_of p
operand_of of here (owned p) = value_of p
operand_of of here (a_text bytes) = literal_text bytes
operand_of of here (a_nil n) = nil_of n
operand_of of here (a_char text t) = text

-- ---- a value of its own

-- what a primitive gives: a value that has to be ended in a new temporary, and another one that is no number in the free one
abbrev pub then_value : Core → TypeId → Here → Primitive → List Operand → Found → Found
then_value core of here p operands f =
    if is_managed core of
    then found (f.items & only (act (primitive p operands (in_new of f.held)))) (owned (held_path of f.held)) (f.held + 1)
    else found (f.items & only (act (primitive p operands (over_place (whole_path of here))))) (owned (whole_path of here)) f.held

abbrev pub then_number : Here → Primitive → List Operand → Found → Found
then_number here p operands f = found (f.items & only (act (primitive p operands (in_temp here.temp)))) ready f.held

-- a number is loaded; a value that has to be ended goes to a new temporary; any other one is copied
abbrev pub loaded : Core → Shape → TypeId → Here → Path → Found → Found
loaded core (single kind) of here p f = found (f.items & only (act (load here.temp kind p))) ready f.held
loaded core composite of here p f =
    if is_managed core of
    then found (f.items & only (act (primitive Same (value_of p ∷ []) (in_new of f.held)))) (owned (held_path of f.held)) (f.held + 1)
    else found (f.items & only (act (copy of (whole_path of here) p))) ready f.held
loaded core shape of here p f = then_value core of here Same (value_of p ∷ []) f

abbrev pub own_by : Core → TypeId → Here → Found → Now → Found
own_by core of here f (at_path p) = loaded core (shape_of core of) of here p f
own_by core of here f (a_char text t) = then_number here CharAt (text ∷ from_temp t ∷ []) f
own_by core of here f now = f

abbrev pub own : Env → TypeId → Here → Found → Found
own env of here f = own_by env.core of here f f.now

-- nil that is looked at as a place goes to a temporary
abbrev pub somewhere_by : Core → TypeId → Here → Found → Now → Found
somewhere_by core of here f (a_nil n) = then_value core of here Same (nil_of n ∷ []) f
somewhere_by core of here f now = f

abbrev pub somewhere : Env → TypeId → Here → Found → Found
somewhere env of here f = somewhere_by env.core of here f f.now

-- the elements of an open array stay where they are, also behind brackets
abbrev pub in_place_or_own : Env → TypeId → Here → Found → Found
in_place_or_own env of here f = if is_open (type_at env.core of) then f else own env of here f

abbrev pub then_acts : Found → List Action → Found
then_acts f actions = record f { items = f.items & acts actions }

-- ---- ranges of types

abbrev pub low_of : Option (ℤ × ℤ) → ℤ
low_of None = pos 0
low_of (Some r) = r.0

abbrev pub high_of : Option (ℤ × ℤ) → ℤ
high_of None = pos 0
high_of (Some r) = r.1

abbrev pub low_in : Core → TypeId → ℤ
low_in core of = low_of (range_of (type_at core of))

abbrev pub high_in : Core → TypeId → ℤ
high_in core of = high_of (range_of (type_at core of))

-- what the values of a type are counted by: an array by its index type, an ordinal type by itself
abbrev pub counted_by : TypeId → Option CoreType → TypeId
counted_by of (Some (Array at element)) = at
counted_by of _ = of

abbrev pub counted_of : Core → TypeId → TypeId
counted_of core of = counted_by of (type_at core of)

-- ---- selections ("Record types", "Arrays" and "Classes")

-- of what is at a place, or of a value in its temporary
abbrev pub then_step : TypeId → Here → Step → ℕ → Found → Found
then_step of here step used f = record f { now = at_path (with_step step (path_of of here f.now)); used = f.used + used }

abbrev pub element_step : Core → TypeId → ℕ → Step
element_step core of t = part_element of (low_in core (counted_of core of)) (high_in core (counted_of core of)) t

-- the elements of an open array that is given by reference are where its parameter leads
abbrev pub open_step : TypeId → ℕ → Root → Step
open_step of t (through v) = of_open of t
open_step of t root = of_array of t

abbrev pub index_step : Core → TypeId → Option CoreType → ℕ → Path → Step
index_step core of (Some (DynamicArray element)) t p = of_array of t
index_step core of (Some (OpenArray element)) t p = open_step of t p.root
index_step core of _ t p = element_step core of t

-- the index is evaluated behind the temporaries of the indices in front of it
abbrev pub then_element : Core → TypeId → Option CoreType → Here → Found → Found → Found
then_element core of (Some String) here f i =
    record { items = f.items & i.items; now = a_char (operand_of of here f.now) (here.temp + f.used); used = f.used + 1; held = i.held }
then_element core of type here f i =
    then_step of here (index_step core of type (here.temp + f.used) (path_of of here f.now)) 1 (record f { items = f.items & i.items; held = i.held })

-- a literal gives a Char
abbrev pub then_index_by : Core → TypeId → Here → Found → Found → Now → Found
then_index_by core of here f i (a_text bytes) = found (f.items & i.items & only (act (pick here.temp bytes here.temp))) ready i.held
then_index_by core of here f i now = then_element core of (type_at core of) here f i

abbrev pub then_index : Core → TypeId → Here → Found → Found → Found
then_index core of here f i = then_index_by core of here f i f.now

-- a field of an instance, or of a record
abbrev pub field_step : Core → TypeId → Option CoreType → FieldId → Step
field_step core of (Some (Class c)) id = of_instance (field_of_class core c id)
field_step core of _ id = part_field of (field_number core of id)

-- ---- operators ("Operators")

abbrev pub is_comparison : Operator → Bool
is_comparison Equal = true
is_comparison NotEqual = true
is_comparison Less = true
is_comparison Greater = true
is_comparison LessEqual = true
is_comparison GreaterEqual = true
is_comparison _ = false

-- by the type of the left operand, which is in the temporary; the right one is in the next one
abbrev pub on_two : Operator → Bool → Option CoreType → ℕ → Action
on_two o checked (Some (Set base)) t = combine o t t (t + 1)
on_two In_ checked _ t = contains t t (t + 1)
on_two o checked _ t = if is_comparison o then compare o t t (t + 1) else arithmetic o checked t t (t + 1)

-- The truth value of the left operand with which the right one is evaluated: `and` of Booleans stops at False, and `or` at True
-- ("Boolean operators").
abbrev pub goes_on_at : Operator → Option CoreType → Option Bool
goes_on_at And (Some Boolean) = Some true
goes_on_at Or (Some Boolean) = Some false
goes_on_at _ _ = None

-- where the right operand goes: in place of the left one where that decides nothing any more, else behind it
abbrev pub second_here : Option Bool → Here → Here
second_here None here = past 1 here
second_here (Some truth) here = here

-- what an operator on two numbers leaves free is free; the right one of two values that are no numbers stands behind the left one
abbrev pub beside : Shape → Here → Here
beside (single kind) here = here
beside composite here = here
beside shape here = past_whole here

-- texts are joined, or compared by their order
abbrev pub on_texts : Core → Operator → TypeId → Here → List Operand → Found → Found
on_texts core Add to here operands f = then_value core to here Concatenate operands f
on_texts core o to here operands f = then_acts (then_number here CompareTexts operands f) (constant (here.temp + 1) (pos 0) ∷ compare o here.temp here.temp (here.temp + 1) ∷ [])

abbrev pub differs : Operator → ℕ → List Action
differs NotEqual t = invert t t ∷ []
differs o t = []

-- references are the same, or they are not
abbrev pub on_references : Operator → Here → List Operand → Found → Found
on_references o here operands f = then_acts (then_number here SameName operands f) (differs o here.temp)

-- the right operand was evaluated behind the left one: numbers by the type of the left one, texts, references; there is no operator on parts
abbrev pub two_by : Core → Option Bool → Operator → Bool → TypeId → Shape → TypeId → Here → Found → TypeId → Found → Found
two_by core (Some truth) o checked of shape to here f right second = found (f.items & only (also truth here.temp second.items)) ready second.held
two_by core None o checked of (single kind) to here f right second =
    found (f.items & second.items & only (act (on_two o checked (type_at core of) here.temp))) ready second.held
two_by core None o checked of composite to here f right second =
    found (f.items & second.items & only (act (on_two o checked (type_at core of) here.temp))) ready second.held
two_by core None o checked of of_chars to here f right second =
    on_texts core o to here (operand_of of here f.now ∷ operand_of right (past_whole here) second.now ∷ []) (found (f.items & second.items) ready second.held)
two_by core None o checked of shape to here f right second =
    on_references o here (operand_of of here f.now ∷ operand_of right (past_whole here) second.now ∷ []) (found (f.items & second.items) ready second.held)

-- nil, also behind brackets and conversions; what is compared with it is looked at where it is
abbrev pub stays_nil : Steps → Bool
stays_nil no_steps = true
stays_nil (steps (convert c origin) of others) = stays_nil others
stays_nil (steps bracket of others) = stays_nil others
stays_nil _ = false

abbrev pub is_nil : Expression → Bool
is_nil (expression (fixed NilOf nodes words) of others) = stays_nil others
is_nil _ = false

abbrev pub is_nil_now : Now → Bool
is_nil_now (a_nil of) = true
is_nil_now _ = false

abbrev pub is_boolean : Option CoreType → Bool
is_boolean (Some Boolean) = true
is_boolean _ = false

abbrev pub prefix : PrefixOperator → Bool → Option CoreType → ℕ → List Action
prefix Plus checked of t = []
prefix Minus checked of t = negate checked t t ∷ []
prefix Not checked of t = if is_boolean of then invert t t ∷ [] else complement t t ∷ []

-- ---- conversions ("Value typecasts"; Programmer's Guide, "$R : Range checking")

-- the low bits are kept, or the value is checked; of a set its elements are
abbrev pub converted_by : Core → Conversion → TypeId → Option CoreType → ℕ → List Action
converted_by core LowBits to (Some (Integer kind)) t = low_bits kind t t ∷ []
converted_by core LowBits to (Some Char) t = low_bits Unsigned8 t t ∷ []
converted_by core Check to (Some (Set base)) t = check_set (set_of (λ n. between (low_in core base) (high_in core base) (pos n))) t t ∷ []
converted_by core Check to of t = check (low_in core to) (high_in core to) t t ∷ []
converted_by core _ to of t = []

abbrev pub converted : Core → Conversion → TypeId → ℕ → List Action
converted core c to t = converted_by core c to (type_at core to) t

-- A Char becomes a text, and an instance a reference of an interface; a cast of an instance is checked. A literal and nil stay what they are.
abbrev pub then_converted : Env → Conversion → TypeId → TypeId → Here → Found → Now → Found
then_converted env Keep of to here f (a_nil n) = record f { now = a_nil to }
then_converted env Keep of to here f (a_text bytes) = f
then_converted env ToString of to here f (a_text bytes) = f
then_converted env ToString of to here f now = then_value env.core to here TextOfChar (from_temp here.temp ∷ []) (own env of here f)
then_converted env ToInterface of to here f (a_nil n) = record f { now = a_nil to }
then_converted env ToInterface of to here f now =
    let g = own env of here f in then_value env.core to here AsInterface (a_type to ∷ operand_of of here g.now ∷ []) g
then_converted env Instance of to here f (a_nil n) = record f { now = a_nil to }
then_converted env Instance of to here f now =
    let g = own env of here f in then_value env.core to here AsInstance (a_type to ∷ operand_of of here g.now ∷ []) g
then_converted env c of to here f now = then_acts (own env of here f) (converted env.core c to here.temp)

-- ---- functions (reference of the unit System, "Succ", "Pred", "Abs", "Sqr", "Odd", "UpCase", "Ord", "Low", "High" and "Length")

-- of an Integer the next one is a sum; of every other ordinal type it is a value of the type
abbrev pub moved : Core → Operator → ℤ → Bool → TypeId → Option CoreType → ℕ → List Action
moved core o distance checked of (Some (Integer Signed32)) t = constant (t + 1) (pos 1) ∷ arithmetic o checked t t (t + 1) ∷ []
moved core o distance checked of _ t = neighbour distance (low_in core of) (high_in core of) t t ∷ []

abbrev pub applied : Core → Function → Bool → TypeId → ℕ → List Action
applied core Succ checked of t = moved core Add (pos 1) checked of (type_at core of) t
applied core Pred checked of t = moved core Subtract (negsuc 0) checked of (type_at core of) t
applied core Abs checked of t = absolute checked t t ∷ []
applied core Sqr checked of t = arithmetic Multiply checked t t t ∷ []
applied core Odd checked of t = odd t t ∷ []
applied core UpCase checked of t = upper t t ∷ []
applied core _ checked of t = []

-- the bounds and the length of an array, and the bounds of an ordinal type, are those of the type
abbrev pub measured_by : Function → Option (ℤ × ℤ) → Option ℤ
measured_by Low (Some r) = Some r.0
measured_by High (Some r) = Some r.1
measured_by Length (Some r) = Some (pos (values_of (Some r)))
measured_by _ _ = None

-- those of a literal begin at 1
abbrev pub measured : Core → Function → TypeId → Now → Option ℤ
measured core Length of (a_text bytes) = Some (pos (length bytes))
measured core f of (a_text bytes) = measured_by f (Some (pos 1, pos (length bytes)))
measured core f of now = measured_by f (range_of (type_at core (counted_of core of)))

abbrev pub is_measure : Function → Bool
is_measure Length = true
is_measure Low = true
is_measure High = true
is_measure f = false

-- the last index is one less than the length, where indices begin at 0
abbrev pub last_index : Function → ℕ → List Action
last_index High t = constant (t + 1) (pos 1) ∷ arithmetic Subtract false t t (t + 1) ∷ []
last_index Low t = constant t (pos 0) ∷ []
last_index f t = []

-- a text and an array are looked at where they are
abbrev pub long_by : Function → TypeId → Option CoreType → Here → Found → Found
long_by Low of (Some String) here f = then_acts (then_number here TextLength (operand_of of here f.now ∷ []) f) (constant here.temp (pos 1) ∷ [])
long_by function of (Some String) here f = then_number here TextLength (operand_of of here f.now ∷ []) f
long_by function of type here f = then_acts (then_number here ArrayLength (operand_of of here f.now ∷ []) f) (last_index function here.temp)

-- what takes a piece of a value of the type, from the index and of the length in two temporaries
abbrev pub piece_row : Option CoreType → Primitive
piece_row (Some (DynamicArray element)) = PieceOfArray
piece_row (Some (OpenArray element)) = PieceOfArray
piece_row (Some (Array at element)) = PieceOfArray
piece_row _ = PieceOfText

abbrev pub element_operand : Option CoreType → List Operand → List Operand
element_operand (Some (DynamicArray element)) operands = a_type element ∷ operands
element_operand (Some (OpenArray element)) operands = a_type element ∷ operands
element_operand (Some (Array at element)) operands = a_type element ∷ operands
element_operand _ operands = operands

abbrev pub then_piece : Core → TypeId → TypeId → Here → Now → Found → Found
then_piece core of to here now f =
    then_value core to here (piece_row (type_at core of)) (element_operand (type_at core of) (operand_of of here now ∷ from_temp here.temp ∷ from_temp (here.temp + 1) ∷ [])) f

-- a function on a value of its own
abbrev pub applied_to : Env → Function → Bool → TypeId → TypeId → Here → Found → Found
applied_to env Whole checked of to here g =
    then_piece env.core of to here g.now (then_acts g (constant here.temp (pos 0) ∷ constant (here.temp + 1) (pos 2147483647) ∷ []))
applied_to env ClassName checked of to here g = then_value env.core to here NameOfClass (operand_of of here g.now ∷ []) g
applied_to env function checked of to here g = then_acts g (applied env.core function checked of here.temp)

abbrev pub applied_by : Option ℤ → Env → Function → Bool → TypeId → TypeId → Here → Found → Found
applied_by (Some n) env function checked of to here f = found (f.items & only (act (constant here.temp n))) ready f.held
applied_by None env Assigned checked of to here f = then_number here IsSome (operand_of of here f.now ∷ []) f
applied_by None env function checked of to here f =
    if is_measure function then long_by function of (type_at env.core of) here f else applied_to env function checked of to here (in_place_or_own env of here f)

-- ---- the input ("Eof" and "Eoln")

-- whether the input is at its end, and whether it is there or in front of a line feed
abbrev pub at_input_end : ℕ → List Action
at_input_end t = peek t ∷ constant (t + 1) (negsuc 0) ∷ compare Equal t t (t + 1) ∷ []

abbrev pub at_line_end : ℕ → Items
at_line_end t =
    acts (peek (t + 1) ∷ constant t (negsuc 0) ∷ compare Equal t t (t + 1) ∷ [])
    & only (also false t (acts (constant t (pos 10) ∷ compare Equal t t (t + 1) ∷ [])))

-- ---- constants, calls and arguments

abbrev pub of_constant : Const → TypeId → Here → Found
of_constant (Ordinal n) of here = found (only (act (constant here.temp n))) ready here.held
of_constant (SetOf es) of here = found (only (act (constant here.temp (set_of_elements es)))) ready here.held
of_constant (Text bytes) of here = found none (a_text bytes) here.held
of_constant NilOf of here = found none (a_nil of) here.held

-- where a result goes, and where it is then
pub record Result : Type 0 where
  pub receiver : Receiver
  pub now : Now
  pub held : ℕ

abbrev pub place_by : Core → Shape → TypeId → Here → ℕ → Result
place_by core (single kind) of here held = record { receiver = to_temp here.temp; now = ready; held = held }
place_by core composite of here held =
    if is_managed core of
    then record { receiver = to_new of held; now = owned (held_path of held); held = held + 1 }
    else record { receiver = to_place of (whole_path of here); now = ready; held = held }
place_by core shape of here held =
    if is_managed core of
    then record { receiver = to_new of held; now = owned (held_path of held); held = held + 1 }
    else record { receiver = to_place of (whole_path of here); now = owned (whole_path of here); held = held }

abbrev pub place_for : Core → Option TypeId → Here → ℕ → Result
place_for core None here held = record { receiver = nowhere; now = ready; held = held }
place_for core (Some of) here held = place_by core (shape_of core of) of here held

abbrev pub result_of : Option Routine → Option TypeId
result_of None = None
result_of (Some r) = r.result

-- what a value parameter is given ("Value parameters")
abbrev pub given_by : Core → Shape → TypeId → Here → Now → Given
given_by core (single kind) of here now = by_value kind here.temp
given_by core composite of here now = by_copy of (path_of of here now)
given_by core shape of here now = by_operand (operand_of of here now)

-- what is done for the arguments of a call, and what its parameters are then given
pub record AllPassed : Type 0 where
  pub items : Items
  pub given : List Given
  pub held : ℕ

-- the same for one argument
pub record OnePassed : Type 0 where
  pub items : Items
  pub given : Given
  -- the temporaries that it keeps until the call
  pub used : ℕ
  pub held : ℕ

-- a temporary that holds a dynamic array for the call
abbrev pub hold_by : Option TypeId → ℕ → Option Temporary
hold_by None held = None
hold_by (Some of) held = Some (record { of = of; n = held })

abbrev pub past_hold : Option TypeId → ℕ → ℕ
past_hold None held = held
past_hold (Some of) held = held + 1

abbrev pub place_passed : Path → Found → OnePassed
place_passed p f =
    let holder = array_on None p.steps in record { items = f.items; given = by_place p (hold_by holder f.held); used = f.used; held = past_hold holder f.held }

-- a temporary holds its array already
abbrev pub held_at : TypeId → Root → List Step → Option TypeId
held_at of (in_temporary to n) [] = None
held_at of root on = Some of

abbrev pub elements_passed : Option TypeId → Path → Found → OnePassed
elements_passed holder p f = record { items = f.items; given = by_elements p (hold_by holder f.held); used = f.used; held = past_hold holder f.held }

-- what is handed on is held already: a list and the elements that a parameter stands for as they are, and the array of a parameter by value
abbrev pub open_passed : Path → Root → Found → OnePassed
open_passed p (through v) f = record { items = f.items; given = by_place p None; used = f.used; held = f.held }
open_passed p (in_temporary to n) f = record { items = f.items; given = by_place p None; used = f.used; held = f.held }
open_passed p root f = elements_passed None p f

-- an open array by reference: the elements of the dynamic array at a place, an open array as it is handed on, or an array with bounds
abbrev pub reference_passed : TypeId → Option CoreType → Path → Found → OnePassed
reference_passed of (Some (DynamicArray element)) p f = elements_passed (held_at of p.root p.steps) p f
reference_passed of (Some (OpenArray element)) p f = open_passed p p.root f
reference_passed of type p f = place_passed p f

abbrev pub element_of : Option CoreType → TypeId
element_of (Some (OpenArray element)) = element
element_of (Some (DynamicArray element)) = element
element_of type = no_type

-- by value: a new array, in a temporary of the parameter's type
abbrev pub elements_copied : Core → TypeId → Operand → Found → OnePassed
elements_copied core to o f = record {
  items = f.items & only (act (primitive CopyElements (a_type (element_of (type_at core to)) ∷ o ∷ []) (in_new to f.held)));
  given = by_operand (value_of (held_path to f.held));
  used = f.used;
  held = f.held + 1;
}

-- by the row of the parameter
abbrev pub array_passed : Core → Here → Option Variable → TypeId → Found → OnePassed
array_passed core here None of f = place_passed (path_of of here f.now) f
array_passed core here (Some v) of f =
    if refers core (Some v) then reference_passed of (type_at core of) (path_of of here f.now) f else elements_copied core v.of (operand_of of here f.now) f

-- the row of the parameter with this number
abbrev pub parameter_row : Core → ℕ → ℕ → Option Variable
parameter_row core r k = slice_get core.variables ((variables_of core r).first + k)

-- ---- lists of values for an open array ("Open array parameters")

-- a value that was evaluated becomes the part of a list with this number
abbrev pub part_given : Core → Shape → TypeId → Here → Now → Path → Items
part_given core (single kind) of here now p = only (act (store p kind here.temp))
part_given core composite of here now p =
    if is_managed core of then only (act (primitive Same (operand_of of here now ∷ []) (over_place p))) else only (act (copy of p (path_of of here now)))
part_given core shape of here now p = only (act (primitive Same (operand_of of here now ∷ []) (over_place p)))

-- what is evaluated, and then what gives it to the list, from the part with this number on
pub record AllListed : Type 0 where
  pub items : Items
  pub given : Items
  pub count : ℕ
  pub held : ℕ

-- a list has a number of its own, and has to be ended where its elements have
abbrev pub list_path : TypeId → ℕ → Path
list_path of held = held_path of held

abbrev pub list_made : Core → TypeId → ℕ → Destination
list_made core of held = if is_managed core (element_of (type_at core of)) then in_new of held else over_place (held_path of held)

abbrev pub list_found : Core → TypeId → Here → ℕ → AllListed → Found
list_found core of here first all = found
    (all.items
    & acts (constant (here.temp + all.count) (pos all.count) ∷ primitive NewList (a_type (element_of (type_at core of)) ∷ from_temp (here.temp + all.count) ∷ []) (list_made core of first) ∷ [])
    & all.given)
    (owned (list_path of first)) all.held

-- ---- expressions

abbrev mutual
  -- the value, or the place where it is
  pub find : Env → Here → Expression → Found
  find env here (expression root of others) = find_steps env here of others (find_root env here of root)

  -- the value, in a temporary of its own
  pub make : Env → Here → Expression → Found
  make env here (expression root of others) = own env (type_after of others) here (find_steps env here of others (find_root env here of root))

  pub find_root : Env → Here → TypeId → Start → Found
  find_root env here of (fixed c nodes words) = of_constant c of here
  find_root env here of (variable v) = found none (at_path (path_to (root_of env.core env.routine v))) here.held
  find_root env here of (object v) = found none (at_path (path_to (root_of env.core env.routine v))) here.held
  find_root env here of (call r given) =
      let passing = pass env (past_whole here) r.0 0 given in
      let result = place_for env.core (result_of (slice_get env.core.routines r.0)) here passing.held in
      found (passing.items & only (enter r.0 passing.given result.receiver)) result.now result.held
  find_root env here of (constructed c r given) =
      let passing = pass env (past_whole here) r.0 1 given in
      let result = place_for env.core (Some of) here passing.held in
      found (passing.items & only (construct c r.0 passing.given result.receiver)) result.now result.held
  find_root env here of (bracketed es) = let g = gather env here es in found (then_do (act (constant here.temp (pos 0))) g.items) ready g.held
  find_root env here of eof = found (acts (at_input_end here.temp)) ready here.held
  find_root env here of eoln = found (at_line_end here.temp) ready here.held

  pub find_steps : Env → Here → TypeId → Steps → Found → Found
  find_steps env here of no_steps f = f
  find_steps env here of (steps action next others) f = find_steps env here next others (find_step env here of action next f)

  -- what is so far has the first type, what comes out the second one
  pub find_step : Env → Here → TypeId → Doing → TypeId → Found → Found
  find_step env here of (convert c origin) to f = then_converted env c of to here f f.now
  find_step env here of bracket to f = in_place_or_own env of here f
  find_step env here of (field id) to f = then_step of here (field_step env.core of (type_at env.core of) id) 0 (somewhere env of here f)
  find_step env here of (index e) to f = let g = somewhere env of here f in then_index env.core of here g (make env (holding g.held (past g.used (past_whole here))) e)
  find_step env here of (method id dispatch given) to f =
      let g = own env of here f in
      let passing = pass env (holding g.held (past_whole here)) id.0 1 given in
      let result = place_for env.core (result_of (slice_get env.core.routines id.0)) here passing.held in
      found (g.items & passing.items & only (invoke id.0 dispatch of (by_operand (operand_of of here g.now) ∷ passing.given) result.receiver)) result.now result.held
  find_step env here of (prefixed o checked) to f = then_acts (own env of here f) (prefix o checked (type_at env.core of) here.temp)
  find_step env here of (operate o checked e) to f =
      if is_nil_now f.now || is_nil e
      then (
      let second = find env (holding f.held (past_whole here)) e in
      on_references o here (operand_of of here f.now ∷ operand_of (type_of e) (past_whole here) second.now ∷ []) (found (f.items & second.items) ready second.held))
      else (
      let goes_on = goes_on_at o (type_at env.core of) in
      let g = own env of here f in
      two_by env.core goes_on o checked of (shape_of env.core of) to here g (type_of e) (make env (holding g.held (beside (shape_of env.core of) (second_here goes_on here))) e))
  find_step env here of (is_of other) to f =
      let g = own env of here f in then_number here IsInstance (a_type other ∷ operand_of of here g.now ∷ []) g
  find_step env here of (apply function checked) to f = applied_by (measured env.core function of f.now) env function checked of to here f
  find_step env here of (copy_of e n) to f =
      let g = in_place_or_own env of here f in
      let a = make env (holding g.held (past_whole here)) e in
      let b = make env (holding a.held (past 1 (past_whole here))) n in
      then_piece env.core of to here g.now (found (g.items & a.items & b.items) ready b.held)

  -- the elements of a set constructor are joined one after the other ("Set Constructors")
  pub gather : Env → Here → Elements → Found
  gather env here no_elements = found none ready here.held
  gather env here (elements e es) =
      let f = gather_one env here e in
      let g = gather env (holding f.held here) es in
      found (f.items & then_do (act (combine Add here.temp here.temp (here.temp + 1))) g.items) ready g.held

  pub gather_one : Env → Here → Member → Found
  gather_one env here (one e) = let f = make env (past 1 here) e in found (f.items & only (act (lone (here.temp + 1) (here.temp + 1)))) ready f.held
  gather_one env here (range e e') =
      let f = make env (past 1 here) e in
      let g = make env (holding f.held (past 2 here)) e' in
      found (f.items & g.items & only (act (span (here.temp + 1) (here.temp + 1) (here.temp + 2)))) ready g.held

  -- arguments are evaluated from the left to the right; the paths of places are followed by the call ("Parameter lists")
  pub pass : Env → Here → (routine parameter : ℕ) → Arguments → AllPassed
  pass env here r k no_arguments = record { items = none; given = []; held = here.held }
  pass env here r k (arguments a others) =
      let first = pass_one env here (parameter_row env.core r k) a in
      let rest = pass env (holding first.held (past first.used (past_whole here))) r (suc k) others in
      record { items = first.items & rest.items; given = first.given ∷ rest.given; held = rest.held }

  pub pass_one : Env → Here → Option Variable → Argument → OnePassed
  pass_one env here v (value e) =
      let f = make env here e in
      record { items = f.items; given = given_by env.core (shape_of env.core (type_of e)) (type_of e) here f.now; used = 1; held = f.held }
  pass_one env here v (place e) = let f = find env here e in place_passed (path_of (type_of e) here f.now) f
  pass_one env here v (array e) = array_passed env.core here v (type_of e) (find env here e)
  pass_one env here v (listed of es) =
      let all = list_all env here of (list_path of here.held) 0 (holding (here.held + 1) (past_whole here)) es in
      array_passed env.core here v of (list_found env.core of here here.held all)

  -- the values of a list, one after the other
  pub list_all : Env → Here → TypeId → Path → (part : ℕ) → Here → Expressions → AllListed
  list_all env here of p k at no_expressions = record { items = none; given = none; count = k; held = at.held }
  list_all env here of p k at (expressions e es) =
      let f = make env at e in
      let rest = list_all env here of p (suc k) (holding f.held (past 1 (past_whole at))) es in
      record {
        items = f.items & rest.items;
        given = part_given env.core (shape_of env.core (element_of (type_at env.core of))) (element_of (type_at env.core of)) at f.now (with_step (part_field of k) p) & rest.given;
        count = rest.count;
        held = rest.held;
      }
