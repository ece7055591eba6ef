-- How a statement becomes items. (Free Pascal Reference Guide, "Statements" and "Exceptions"; reference of the unit System, "Inc",
-- "Dec", "Include", "Exclude", "Write", "Exit", "Break", "Continue" and "Halt".)
use Rattle.std.specs.Prelude.{ℕ, zero, suc, ◌+◌, ℤ, pos, negsuc, Bool, true, false, List, [], ◌∷◌, Option, Some, None, if◌then◌else◌}
use Rattle.op_core.specs.Expression.{Expression, expression, Root as Start, Steps, no_steps, steps, Action as Doing, method, no_arguments}
use Rattle.op_core.specs.Initial.{FirstValue}
use Rattle.op_core.specs.Sizes.{type_at}
use Rattle.op_core.specs.Statement.{Statement, empty, block, if_then, if_else, case_of, while_do, repeat_until, for_to, for_in, try_finally, try_on, try_on_else, raise, reraise, call, assign, exit, exit_with, break, continue, halt as halt_with, built_in, Statements, no_statements, statements, Branches, no_branches, branches, Handlers, no_handlers, handlers, BuiltIn, write, read, count, set_length, include, exclude, val, str, free as free_of, destroy, Item as Output, plain, padded, Target}
use Rattle.op_core.specs.StatementTyping.{host}
use Rattle.op_core.specs.Typing.{type_of}
use Rattle.op_core.specs.declared.ids.TypeId.{TypeId}
use Rattle.op_core.specs.declared.ids.VariableId.{VariableId}
use Rattle.op_core.specs.declared.operation.Conversion.{Conversion}
use Rattle.op_core.specs.declared.operation.Dispatch.{Dispatch}
use Rattle.op_core.specs.declared.program.Core.{Core}
use Rattle.op_core.specs.declared.types.CoreType.{CoreType}
use Rattle.op_core.specs.declared.types.CoreType.TheVariants.{Boolean, Char, String, Set, Array, DynamicArray, OpenArray}
use Rattle.op_core.specs.declared.types.IntegerKind.{IntegerKind}
use Rattle.op_core.specs.declared.types.IntegerKind.TheVariants.{Signed32}
use Rattle.op_semantics.specs.Actions.{Action, constant, load, store, copy, begin_with, arithmetic, compare, check, single as lone, combine, contains, peek, take, forget, note, primitive}
use Rattle.op_semantics.specs.Candidates.{finished}
use Rattle.op_semantics.specs.Expressions.{Here, past, past_whole, holding, Env, Now, ready, at_path, a_text, a_char, Found, found, held_path, path_of, operand_of, given_by, own_by, low_in, high_in, counted_of, element_step, open_step, converted, then_converted, find, make, somewhere}
use Rattle.op_semantics.specs.Items.{act, also, choose, select, loop, body_first, by_operand, nowhere, protect, leave, scoped, attempt, invoke, throw, rethrow, halt, free, Items, none, then_do, Turns, turns, Cases, no_cases, cases, Clauses, no_clauses, for_others, clauses, ◌&◌, only, acts}
use Rattle.op_semantics.specs.Paths.{Path, Root, in_local, Step, of_array, path_to, with_step, root_of}
use Rattle.op_semantics.specs.Primitives.{Operand, from_temp, value_of, literal_text, nil_of, a_type, the_token, unused, in_temp, in_new, into_place, over_place}
use Rattle.op_semantics.specs.Shapes.{Shape, single, composite, shape_of, is_managed, char_type, type_of_variable, type_of_local, variables_of, result_of_routine}
use Rattle.op_meaning.specs.Texts.{line_feed}
use Rattle.op_semantics.specs.declared.primitive.Primitive.{Primitive}
use Rattle.op_semantics.specs.declared.primitive.Primitive.TheVariants.{WriteNumber, WriteTruth, WriteChar, WriteText, Same, TextLength, CharAt, StrNumber, StrTruth, StrChar, StrText, ValNumber, ValCode, PutChar, ResizeText, NewLine, LongerLine, IsFull, WiderLine, TextOfLine, ReadNumber, ArrayLength, ResizeArray}
use Rattle.op_tree.specs.declared.operator.Operator.{Operator}
use Rattle.op_tree.specs.declared.operator.Operator.TheVariants.{Equal, NotEqual, Greater, LessEqual, GreaterEqual, Add, Subtract}
use Rattle.op_tree.specs.declared.statement.Direction.{Direction}
use Rattle.op_tree.specs.declared.statement.Direction.TheVariants.{To, Downto}

-- ---- assignments ("Assignments")

-- What a primitive gives goes into a place of the type. An old value that has to be ended goes to a temporary, which ends next.
abbrev pub put_into : Core → TypeId → Primitive → List Operand → Path → ℕ → Items
put_into core of p operands to held =
    if is_managed core of
    then only (scoped (record { of = of; n = held }) [] (only (act (primitive p operands (into_place of to held)))))
    else only (act (primitive p operands (over_place to)))

-- the value of the second type, which was evaluated, goes into a place of the first type
abbrev pub put_by : Core → Shape → TypeId → TypeId → Here → Now → Path → ℕ → Items
put_by core (single kind) to of here now p held = only (act (store p kind here.temp))
put_by core composite to of here now p held =
    if is_managed core to then put_into core to Same (operand_of of here now ∷ []) p held else only (act (copy of p (path_of of here now)))
put_by core shape to of here now p held = put_into core to Same (operand_of of here now ∷ []) p held

-- a Char goes into a text, which is changed where it is or becomes another one
abbrev pub char_put : Here → Operand → ℕ → Items
char_put here (value_of p) t = only (act (primitive PutChar (value_of p ∷ from_temp t ∷ from_temp here.temp ∷ []) (over_place p)))
char_put here text t = none

abbrev pub stored_at : Core → TypeId → TypeId → Here → Now → ℕ → Now → Items
stored_at core to of here now held (a_char text t) = char_put here text t
stored_at core to of here now held place = put_by core (shape_of core to) to of here now (path_of to here place) held

-- a value that was evaluated goes into a place, which is found with the temporaries behind it
abbrev pub stored_by : Core → TypeId → TypeId → Here → Found → Found → Items
stored_by core to of here v target = v.items & target.items & stored_at core to of here v.now target.held target.now

-- A property that a method writes is a target whose last step is that method: what stands in front of it is the object. ("Properties".)
pub record Setter : Type 0 where
  pub object : Expression
  pub routine : ℕ
  pub dispatch : Dispatch

abbrev pub with_root : Start → TypeId → Steps → Option (Steps × ℕ × Dispatch) → Option Setter
with_root root of others None = None
with_root root of others (Some (front, r, dispatch)) = Some (record { object = expression root of front; routine = r; dispatch = dispatch })

abbrev pub behind_step : Doing → TypeId → Option (Steps × ℕ × Dispatch) → Option (Steps × ℕ × Dispatch)
behind_step action of None = None
behind_step action of (Some (front, r, dispatch)) = Some (steps action of front, r, dispatch)

abbrev pub last_method : Steps → Option (Steps × ℕ × Dispatch)
last_method no_steps = None
last_method (steps (method id dispatch no_arguments) of no_steps) = Some (no_steps, id.0, dispatch)
last_method (steps action of others) = behind_step action of (last_method others)

abbrev pub setter_of : Expression → Option Setter
setter_of (expression root of others) = with_root root of others (last_method others)

-- the right side is evaluated first, then the object, and the method is called with it
abbrev pub set_by : Env → Here → Setter → Expression → Items
set_by env here to e =
    let v = make env here e in
    let g = make env (holding v.held (past 1 (past_whole here))) to.object in
    finished (v.items & g.items
    & only (invoke to.routine to.dispatch (type_of to.object)
    (by_operand (operand_of (type_of to.object) (past 1 (past_whole here)) g.now) ∷ given_by env.core (shape_of env.core (type_of e)) (type_of e) here v.now ∷ []) nowhere))

-- the right side is evaluated first, then the indices of the place
abbrev pub placed : Env → Here → Expression → Expression → Items
placed env here target e =
    let v = make env here e in
    finished (stored_by env.core (type_of target) (type_of e) here v (find env (holding v.held (past 1 (past_whole here))) target))

abbrev pub assigned_by : Env → Here → Option Setter → Expression → Expression → Items
assigned_by env here None target e = placed env here target e
assigned_by env here (Some setter) target e = set_by env here setter e

abbrev pub assigned : Env → Here → Expression → Expression → Items
assigned env here target e = assigned_by env here (setter_of target) target e

abbrev pub result_path : Env → Path
result_path env = path_to (in_local (result_of_routine env.core env.routine))

abbrev pub variable_path : Env → VariableId → Path
variable_path env v = path_to (root_of env.core env.routine v)

abbrev pub at_variable : Env → ℕ → VariableId → Found
at_variable env held v = found none (at_path (variable_path env v)) held

abbrev pub kind_by : Shape → IntegerKind
kind_by (single kind) = kind
kind_by _ = Signed32

abbrev pub kind_of : Core → TypeId → IntegerKind
kind_of core of = kind_by (shape_of core of)

-- the result of the routine is this value
abbrev pub given_back : Env → Here → Expression → Items
given_back env here e =
    let v = make env here e in finished (stored_by env.core (type_of e) (type_of e) here v (found none (at_path (result_path env)) v.held))

-- ---- Write

-- the primitive for a value of the type, and where the value is
abbrev pub write_row : Option CoreType → Primitive
write_row (Some Boolean) = WriteTruth
write_row (Some Char) = WriteChar
write_row (Some String) = WriteText
write_row _ = WriteNumber

abbrev pub written_operand : Option CoreType → TypeId → Here → Now → Operand
written_operand (Some String) of here now = operand_of of here now
written_operand _ of here (a_text bytes) = literal_text bytes
written_operand _ of here now = from_temp here.temp

-- a literal is a text, whatever its type is
abbrev pub row_of : (Option CoreType → Primitive) → Primitive → Option CoreType → Now → Primitive
row_of rows texts type (a_text bytes) = texts
row_of rows texts type now = rows type

-- the value is in the first temporary, or is a text, and the width in the second one
abbrev pub write_value : Env → Here → TypeId → Found → Found → Found
write_value env here of f width =
    let type = host env.core (type_at env.core of) in
    found (f.items & width.items & only (act (primitive (row_of write_row WriteText type f.now) (written_operand type of here f.now ∷ from_temp (here.temp + 1) ∷ []) unused))) ready width.held

abbrev pub no_width : Here → ℕ → Found
no_width here held = found (only (act (constant (here.temp + 1) (pos 0)))) ready held

abbrev pub write_one : Env → Here → Output → Found
write_one env here (plain e) = let f = make env here e in write_value env here (type_of e) f (no_width here f.held)
write_one env here (padded e w) = let f = make env here e in write_value env here (type_of e) f (make env (holding f.held (past 1 here)) w)

-- each is written before the next one is evaluated
abbrev pub write_all : Env → Here → List Output → Found
write_all env here [] = found none ready here.held
write_all env here (o ∷ os) = let f = write_one env here o in let g = write_all env (holding f.held here) os in found (f.items & g.items) ready g.held

abbrev pub line_end : Here → Bool → Items
line_end here false = none
line_end here true = (no_width here 0).items & only (act (primitive WriteText (literal_text line_feed ∷ from_temp (here.temp + 1) ∷ []) unused))

-- ---- Read ("Read" and "ReadLn"): the input is looked at and taken byte by byte

-- so long as the next byte, which is then in the first temporary, passes a test: the second temporary says whether it does
abbrev pub while_next : ℕ → Items → Items → Items
while_next t test body = only (loop (turns (then_do (act (peek t)) test) (t + 1) false none body))

-- whether the byte in the first temporary is this one, or is not, or is above it
abbrev pub byte_is : Operator → ℕ → ℤ → List Action
byte_is o t n = constant (t + 1) n ∷ compare o (t + 1) t (t + 1) ∷ []

-- there is a byte, and it is no line feed
abbrev pub is_there : ℕ → Items
is_there t = acts (byte_is NotEqual t (negsuc 0))

abbrev pub is_in_line : ℕ → Items
is_in_line t = is_there t & only (also true (t + 1) (acts (byte_is NotEqual t (pos 10))))

abbrev pub is_above : ℕ → Items
is_above t = acts (byte_is Greater t (pos 32))

-- blank, tab, line feed or carriage return
abbrev pub is_blank : ℕ → Items
is_blank t =
    acts (byte_is Equal t (pos 32)) & only (also false (t + 1) (acts (byte_is Equal t (pos 9)))) & only (also false (t + 1) (acts (byte_is Equal t (pos 10))))
    & only (also false (t + 1) (acts (byte_is Equal t (pos 13))))

-- a Char is the next byte, or 26 at the end
abbrev pub read_char : ℕ → Items
read_char t = then_do (act (peek t)) (is_there t & only (choose (t + 1) (only (act take)) (only (act (constant t (pos 26))))))

-- an integer is what stands above 32 behind blanks
abbrev pub read_integer : ℕ → Items
read_integer t =
    while_next t (is_blank t) (only (act take))
    & then_do (act forget) (while_next t (is_above t) (acts (note t ∷ take ∷ []))
    & only (act (primitive ReadNumber (the_token ∷ []) (in_temp t))))

-- a line becomes a byte longer, and a full one gets twice the room
abbrev pub longer_by : TypeId → ℕ → ℕ → Items
longer_by of t held =
    let line = held_path of held in
    acts (primitive LongerLine (value_of line ∷ from_temp t ∷ []) (over_place line) ∷ take ∷ primitive IsFull (value_of line ∷ []) (in_temp t) ∷ [])
    & only (choose t (put_into_line of WiderLine line (held + 1)) none)
  where
    put_into_line : TypeId → Primitive → Path → ℕ → Items
    put_into_line of p line old = only (scoped (record { of = of; n = old }) [] (only (act (primitive p (value_of line ∷ []) (into_place of line old)))))

-- The text is in a temporary that is empty at first. The first byte makes a line in the next one, and each byte makes it longer; then the text is
-- made, and the line ends.
abbrev pub read_line : TypeId → ℕ → ℕ → Items
read_line of t held =
    let line = held_path of (held + 1) in
    acts (primitive Same (literal_text [] ∷ []) (in_new of held) ∷ peek t ∷ []) & is_in_line t
    & only (choose (t + 1)
    (only (scoped (record { of = of; n = held + 1 }) []
    (then_do (act (primitive NewLine [] (in_new of (held + 1))))
    (while_next t (is_in_line t) (longer_by of t (held + 1))
    & only (scoped (record { of = of; n = held + 2 }) [] (only (act (primitive TextOfLine (value_of line ∷ []) (into_place of (held_path of held) (held + 2))))))))))
    none)

-- what is read into a place of the type; the path is followed when it is stored
abbrev pub read_into : Env → Here → Target → TypeId → Option CoreType → Found → Found
read_into env here target of (Some String) f =
    let t = here.temp + f.used in
    found (f.items & read_line of t f.held & put_into env.core of Same (value_of (held_path of f.held) ∷ []) (path_of of here f.now) (f.held + 1)) ready (f.held + 2)
read_into env here target of (Some Char) f =
    let there = past f.used here in
    found (f.items & read_char there.temp & acts (converted env.core target.store of there.temp) & stored_at env.core of of there ready f.held f.now) ready f.held
read_into env here target of type f =
    let there = past f.used here in
    found (f.items & read_integer there.temp & acts (converted env.core target.store of there.temp) & stored_at env.core of of there ready f.held f.now) ready f.held

abbrev pub read_one : Env → Here → Target → Found
read_one env here x = read_into env here x (type_of x.place) (host env.core (type_at env.core (type_of x.place))) (find env here x.place)

-- one after the other
abbrev pub read_all : Env → Here → List Target → Found
read_all env here [] = found none ready here.held
read_all env here (x ∷ xs) = let f = read_one env here x in let g = read_all env (holding f.held here) xs in found (f.items & g.items) ready g.held

-- behind the next line feed
abbrev pub rest_of_line : Here → Bool → Items
rest_of_line here false = none
rest_of_line here true =
    while_next here.temp (is_in_line here.temp) (only (act take)) & then_do (act (peek here.temp)) (is_there here.temp & only (choose (here.temp + 1) (only (act take)) none))

-- ---- Inc, Dec, Include and Exclude: the place is found once

abbrev pub sum_or_difference : Direction → Operator
sum_or_difference To = Add
sum_or_difference Downto = Subtract

abbrev pub counted_load : Core → TypeId → Here → Here → Now → Action
counted_load core of here there (a_char text t) = primitive CharAt (text ∷ from_temp t ∷ []) (in_temp there.temp)
counted_load core of here there now = load there.temp (kind_of core of) (path_of of here now)

abbrev pub counted_store : Core → TypeId → Here → Here → Now → Items
counted_store core of here there (a_char text t) = char_put there text t
counted_store core of here there now = only (act (store (path_of of here now) (kind_of core of) there.temp))

-- the indices, then what is there, then by how much, then the store
abbrev pub counted_at : Env → Here → Direction → Target → Expression → Bool → Found → Found
counted_at env here d target amount checked f =
    let there = past f.used here in
    let t = there.temp in
    let of = type_of target.place in
    let by = make env (holding f.held (past 1 (past_whole there))) amount in
    found (f.items & only (act (counted_load env.core of here there f.now))
    & by.items
    & acts (arithmetic (sum_or_difference d) checked t t (t + 1) ∷ []) & acts (converted env.core target.store of t)
    & counted_store env.core of here there f.now) ready by.held

abbrev pub changed_set : Env → Here → Operator → TypeId → Expression → Found → Found
changed_set env here o of e f =
    let t = here.temp + f.used in
    let g = make env (holding f.held (past (f.used + 1) (past_whole here))) e in
    found (f.items & g.items
    & acts (lone (t + 1) (t + 1) ∷ load t Signed32 (path_of of here f.now) ∷ combine o t t (t + 1) ∷ store (path_of of here f.now) Signed32 t ∷ [])) ready g.held

-- ---- SetLength, Val and Str (reference of the unit System)

abbrev pub resize_row : Option CoreType → Primitive
resize_row (Some (DynamicArray element)) = ResizeArray
resize_row _ = ResizeText

abbrev pub resize_operands : Option CoreType → List Operand → List Operand
resize_operands (Some (DynamicArray element)) operands = a_type element ∷ operands
resize_operands _ operands = operands

abbrev pub with_length : Env → Here → TypeId → Found → Found → Found
with_length env here of f n =
    let p = path_of of here f.now in
    let type = type_at env.core of in
    found (f.items & n.items & put_into env.core of (resize_row type) (resize_operands type (value_of p ∷ from_temp (here.temp + f.used) ∷ [])) p n.held) ready (n.held + 1)

abbrev pub str_row : Option CoreType → Primitive
str_row (Some Boolean) = StrTruth
str_row (Some Char) = StrChar
str_row (Some String) = StrText
str_row _ = StrNumber

-- the value, the width, the place; then the text is made, and stored
abbrev pub str_stored : Env → Here → TypeId → TypeId → Found → Found → Found → Found
str_stored env here of to f width g =
    let type = host env.core (type_at env.core of) in
    found (f.items & width.items & g.items
    & only (act (primitive (row_of str_row StrText type f.now) (written_operand type of here f.now ∷ from_temp (here.temp + 1) ∷ []) (in_new to g.held)))
    & put_into env.core to Same (value_of (held_path to g.held) ∷ []) (path_of to here g.now) (g.held + 1)) ready (g.held + 2)

abbrev pub str_into : Env → Here → TypeId → Found → Found → Expression → Found
str_into env here of f width target = str_stored env here of (type_of target) f width (find env (holding width.held (past 2 (past_whole (past_whole here)))) target)

abbrev pub str_of : Env → Here → Output → Expression → Found
str_of env here (plain e) target = let f = make env here e in str_into env here (type_of e) f (no_width here f.held) target
str_of env here (padded e w) target = let f = make env here e in str_into env here (type_of e) f (make env (holding f.held (past 1 (past_whole here))) w) target

-- a number that a text denotes goes to the temporary, and from there to a place
abbrev pub denoted_at : Core → Primitive → Operand → Here → TypeId → Conversion → Found → Items
denoted_at core p text there of c f =
    then_do (act (primitive p (text ∷ []) (in_temp there.temp))) (acts (converted core c of there.temp) & stored_at core of of there ready f.held f.now)

abbrev pub val_into : Core → Here → Operand → Target → Target → Found → Found → Found → Found
val_into core here text v code f g h =
    let there = past (g.used + h.used) here in
    found (f.items & g.items & h.items & denoted_at core ValNumber text there (type_of v.place) v.store g & denoted_at core ValCode text there (type_of code.place) code.store h) ready h.held

abbrev pub val_of : Env → Here → Expression → Target → Target → Found
val_of env here e v code =
    let f = make env here e in
    let g = find env (holding f.held (past_whole here)) v.place in
    val_into env.core here (operand_of (type_of e) here f.now) v code f g (find env (holding g.held (past g.used (past_whole (past_whole here)))) code.place)

-- ---- Free ("Class destruction"), and FreeAndNil, which sets the variable to nil first

abbrev pub freed_at : Here → TypeId → Bool → Found → Found
freed_at here of takes_nil f = found (f.items & only (free takes_nil (path_of of here f.now))) ready f.held

abbrev pub freed_and_nil : Core → Here → TypeId → Found → Found
freed_and_nil core here of f =
    let g = own_by core of (past_whole here) f f.now in
    found (g.items & only (act (primitive Same (nil_of of ∷ []) (over_place (path_of of here f.now)))) & only (free true (path_of of (past_whole here) g.now))) ready g.held

abbrev pub freed_by : Core → Here → TypeId → (empties : Bool) → Found → Found
freed_by core here of false f = freed_at here of true f
freed_by core here of true f = freed_and_nil core here of f

abbrev pub done_built_in : Env → Here → BuiltIn → Found
done_built_in env here (write items ends) = let f = write_all env here items in found (f.items & line_end here ends) ready f.held
done_built_in env here (read targets ends) = let f = read_all env here targets in found (f.items & rest_of_line here ends) ready f.held
done_built_in env here (count d target amount checked) = counted_at env here d target amount checked (find env here target.place)
done_built_in env here (set_length target e) = let f = find env here target in with_length env here (type_of target) f (make env (holding f.held (past f.used (past_whole here))) e)
done_built_in env here (include s e) = changed_set env here Add (type_of s) e (find env here s)
done_built_in env here (exclude s e) = changed_set env here Subtract (type_of s) e (find env here s)
done_built_in env here (val e v code) = val_of env here e v code
done_built_in env here (str item target) = str_of env here item target
done_built_in env here (free_of e empties) = freed_by env.core here (type_of e) empties (somewhere env (type_of e) here (find env here e))
done_built_in env here (destroy e) = freed_at here (type_of e) false (somewhere env (type_of e) here (find env here e))

-- ---- loops that count ("The For..to/downto..do statement")

abbrev pub has_turn : Direction → Operator
has_turn To = LessEqual
has_turn Downto = GreaterEqual

-- The counter is in the first temporary, the last value in the second one, and what a test says in the third. What is stored in the
-- variable in between does not count.
abbrev pub counting : ℕ → Direction → Items → Turns
counting t d body = turns
    (only (act (compare Equal (t + 2) t (t + 1)))) (t + 2) true
    (acts (constant (t + 2) (pos 1) ∷ arithmetic (sum_or_difference d) false t t (t + 2) ∷ []))
    body

abbrev pub check_bound : Env → VariableId → ℕ → Action
check_bound env v t = check (low_in env.core (type_of_variable env.core v.0)) (high_in env.core (type_of_variable env.core v.0)) t t

abbrev pub store_variable : Env → VariableId → ℕ → Action
store_variable env v t = store (variable_path env v) (kind_of env.core (type_of_variable env.core v.0)) t

-- behind both bounds: where there is a turn, they are checked, and each turn stores the counter first
abbrev pub for_items : Env → Here → VariableId → Direction → Items → Items
for_items env here v d body =
    then_do (act (compare (has_turn d) (here.temp + 2) here.temp (here.temp + 1)))
    (only (choose (here.temp + 2)
    (acts (check_bound env v here.temp ∷ check_bound env v (here.temp + 1) ∷ []) & only (body_first (counting here.temp d (then_do (act (store_variable env v here.temp)) body))))
    none))

-- ---- loops over collections ("The For..in..do statement")

-- an element is copied to a temporary and stored in the variable; the temporary ends before the body
abbrev pub each_stored : Env → Here → TypeId → VariableId → Conversion → Found → Items
each_stored env here element v into f =
    let to = type_of_variable env.core v.0 in
    let g = then_converted env into element to here f f.now in
    finished (stored_by env.core to element here g (at_variable env g.held v))

abbrev pub counting_up : ℕ → Items → Items
counting_up t body = only (body_first (counting t To body))

-- behind the collection, which is in a temporary or, of an open array, in its place: the elements from the number in the first temporary to that in
-- the second one
abbrev pub in_elements : Env → Here → Now → TypeId → VariableId → Conversion → Items → Items
in_elements env here now element v into body =
    let there = past 3 (past_whole here) in counting_up here.temp (each_stored env there element v into (found none now here.held) & body)

-- an array with bounds
abbrev pub in_array : Env → Here → TypeId → TypeId → Path → VariableId → Conversion → Items → Items
in_array env here of element p v into body =
    acts (constant here.temp (low_in env.core (counted_of env.core of)) ∷ constant (here.temp + 1) (high_in env.core (counted_of env.core of)) ∷ [])
    & in_elements env here (at_path (with_step (element_step env.core of here.temp) p)) element v into body

abbrev pub if_any : Here → Items → Items
if_any here body = then_do (act (compare LessEqual (here.temp + 2) here.temp (here.temp + 1))) (only (choose (here.temp + 2) body none))

-- from 1 to the length of a text
abbrev pub in_text : Env → Here → Operand → VariableId → Conversion → Items → Items
in_text env here text v into body =
    acts (primitive TextLength (text ∷ []) (in_temp (here.temp + 1)) ∷ constant here.temp (pos 1) ∷ [])
    & if_any here (in_elements env here (a_char text here.temp) char_type v into body)

-- from 0 to one less than the length of an array
abbrev pub in_list : Env → Here → Step → Path → TypeId → VariableId → Conversion → Items → Items
in_list env here step p element v into body =
    acts (primitive ArrayLength (value_of p ∷ []) (in_temp (here.temp + 1)) ∷ constant here.temp (pos 1) ∷ arithmetic Subtract false (here.temp + 1) (here.temp + 1) here.temp ∷ constant here.temp (pos 0) ∷ [])
    & if_any here (in_elements env here (at_path (with_step step p)) element v into body)

-- behind the collection, a set in the first temporary: those of the base's values that are in it
abbrev pub in_set : Env → Here → TypeId → VariableId → Conversion → Items → Items
in_set env here base v into body =
    let t = here.temp in
    let to = type_of_variable env.core v.0 in
    acts (constant (t + 1) (low_in env.core base) ∷ constant (t + 2) (high_in env.core base) ∷ [])
    & only (body_first (counting (t + 1) To (
    then_do (act (contains (t + 4) (t + 1) t)) (only (choose (t + 4)
    (acts (check (low_in env.core base) (high_in env.core base) (t + 4) (t + 1) ∷ []) & acts (converted env.core into to (t + 4)) & only (act (store_variable env v (t + 4))) & body)
    none)))))

abbrev pub in_collection : Env → Here → TypeId → Option CoreType → Now → VariableId → Conversion → Items → Items
in_collection env here of (Some (Array index element)) now v into body = in_array env here of element (path_of of here now) v into body
in_collection env here of (Some (DynamicArray element)) now v into body = in_list env here (of_array of here.temp) (path_of of here now) element v into body
in_collection env here of (Some (OpenArray element)) now v into body = in_list env here (open_step of here.temp (path_of of here now).root) (path_of of here now) element v into body
in_collection env here of (Some String) now v into body = in_text env here (operand_of of here now) v into body
in_collection env here of (Some (Set base)) now v into body = in_set env here base v into body
in_collection env here of _ now v into body = none

-- an open array is gone over in its place
abbrev pub collection : Env → Here → Expression → Option CoreType → Found
collection env here e (Some (OpenArray element)) = find env here e
collection env here e _ = make env here e

-- what the turns of such a loop leave to the body
abbrev pub in_turn : Here → Here
in_turn here = past 4 (past_whole here)

abbrev pub for_in_by : Env → Here → TypeId → Found → VariableId → Conversion → Items → Items
for_in_by env here of f v into body = finished (f.items & in_collection env (holding f.held (past f.used here)) of (type_at env.core of) f.now v into body)

-- ---- statements

abbrev pub clause_variable : Env → Option VariableId → Option Root
clause_variable env None = None
clause_variable env (Some v) = Some (root_of env.core env.routine v)

abbrev mutual
  pub work_of : Env → Here → Statement → Items
  work_of env here empty = none
  work_of env here (block ss) = work_of_all env here ss
  work_of env here (if_then e s) = finished (make env here e).items & only (choose here.temp (work_of env here s) none)
  work_of env here (if_else e s t) = finished (make env here e).items & only (choose here.temp (work_of env here s) (work_of env here t))
  work_of env here (case_of e bs ss) = finished (make env here e).items & only (select here.temp (cases_of env here bs) (work_of_all env here ss))
  work_of env here (while_do e s) = only (loop (turns (finished (make env here e).items) here.temp false none (work_of env here s)))
  work_of env here (repeat_until ss e) = only (body_first (turns (finished (make env here e).items) here.temp true none (work_of_all env here ss)))
  work_of env here (for_to v e d f s) =
      let low = make env here e in
      finished (low.items & (make env (holding low.held (past 1 here)) f).items) & for_items env here v d (work_of env (past 3 here) s)
  work_of env here (for_in v into e s) =
      let f = collection env here e (type_at env.core (type_of e)) in
      for_in_by env here (type_of e) f v into (work_of env (in_turn (holding f.held (past f.used here))) s)
  work_of env here (try_finally ss ts) = only (protect here.temp (work_of_all env (past 2 here) ss) (work_of_all env (past 2 here) ts))
  work_of env here (try_on ss hs) = only (attempt (work_of_all env here ss) (clauses_of env here hs no_clauses))
  work_of env here (try_on_else ss hs ts) = only (attempt (work_of_all env here ss) (clauses_of env here hs (for_others (work_of_all env here ts))))
  work_of env here (raise e) = let f = somewhere env (type_of e) here (find env here e) in finished (f.items & only (throw (path_of (type_of e) here f.now)))
  work_of env here reraise = only rethrow
  work_of env here (call e) = finished (find env here e).items
  work_of env here (assign target e) = assigned env here target e
  work_of env here exit = only (leave 0)
  work_of env here (exit_with e) = given_back env here e & only (leave 0)
  work_of env here break = only (leave 1)
  work_of env here continue = only (leave 2)
  work_of env here (halt_with e) = finished ((make env here e).items & only (halt here.temp))
  work_of env here (built_in b) = finished (done_built_in env here b).items

  pub work_of_all : Env → Here → Statements → Items
  work_of_all env here no_statements = none
  work_of_all env here (statements s ss) = work_of env here s & work_of_all env here ss

  pub cases_of : Env → Here → Branches → Cases
  cases_of env here no_branches = no_cases
  cases_of env here (branches labels s bs) = cases labels (work_of env here s) (cases_of env here bs)

  pub clauses_of : Env → Here → Handlers → Clauses → Clauses
  clauses_of env here no_handlers last = last
  clauses_of env here (handlers v c s hs) last = clauses c (clause_variable env v) (work_of env here s) (clauses_of env here hs last)

-- ---- the variables of a routine that begin with a value ("Initialized variables")

abbrev pub first_item : Core → ℕ → ℕ → Option FirstValue → Items
first_item core r v None = none
first_item core r v (Some value) = only (act (begin_with v (type_of_local core r v) value))

-- so many of them, in order; `first` tells of each row what it begins with
abbrev pub first_items : Core → (ℕ → Option FirstValue) → ℕ → ℕ → Items
first_items core first r zero = none
first_items core first r (suc v) = first_items core first r v & first_item core r v (first ((variables_of core r).first + v))
