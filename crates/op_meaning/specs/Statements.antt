-- How a statement becomes items. (Free Pascal Reference Guide, "Statements" and "Exceptions"; reference of the unit System, "Inc",
-- "Dec", "Include", "Exclude", "Write", "Exit", "Break", "Continue" and "Halt".)
use Rattle.std.specs.Prelude.{ℕ, zero, suc, ◌+◌, pos, Bool, true, false, List, [], ◌∷◌, Option, Some, None}
use Rattle.op_core.specs.Expression.{Expression}
use Rattle.op_core.specs.Initial.{FirstValue}
use Rattle.op_core.specs.Sizes.{type_at}
use Rattle.op_core.specs.Statement.{Statement, empty, block, if_then, if_else, case_of, while_do, repeat_until, for_to, for_in, try_finally, try_on, try_on_else, raise, reraise, call, assign, exit, exit_with, break, continue, halt as halt_with, built_in, Statements, no_statements, statements, Branches, no_branches, branches, Handlers, no_handlers, handlers, BuiltIn, write, count, include, exclude, free as free_of, destroy, Item as Output, plain, padded, Target}
use Rattle.op_core.specs.StatementTyping.{host}
use Rattle.op_core.specs.Typing.{type_of}
use Rattle.op_core.specs.declared.ids.TypeId.{TypeId}
use Rattle.op_core.specs.declared.ids.VariableId.{VariableId}
use Rattle.op_core.specs.declared.operation.Conversion.{Conversion}
use Rattle.op_core.specs.declared.program.Core.{Core}
use Rattle.op_core.specs.declared.types.CoreType.{CoreType}
use Rattle.op_core.specs.declared.types.CoreType.TheVariants.{Boolean, Char, Set, Array}
use Rattle.op_core.specs.declared.types.IntegerKind.{IntegerKind}
use Rattle.op_core.specs.declared.types.IntegerKind.TheVariants.{Signed32}
use Rattle.op_meaning.specs.Actions.{Action, constant, load, store, copy, begin_with, arithmetic, compare, check, single as lone, combine, contains, primitive}
use Rattle.op_meaning.specs.Expressions.{Here, past, past_whole, Env, at_path, Found, found, whole_path, path_of, own, then_acts, low_in, high_in, counted_of, element_step, converted, find, make, Now, a_text}
use Rattle.op_meaning.specs.Items.{act, choose, select, loop, body_first, protect, leave, attempt, throw, rethrow, halt, free, Items, none, then_do, Turns, turns, Cases, no_cases, cases, Clauses, no_clauses, for_others, clauses, ◌&◌, only, acts}
use Rattle.op_meaning.specs.Paths.{Path, Root, in_local, path_to, with_step, root_of}
use Rattle.op_meaning.specs.Primitives.{from_temp, literal_text, unused}
use Rattle.op_meaning.specs.Shapes.{Shape, single, composite, shape_of, type_of_variable, type_of_local, variables_of, result_of_routine}
use Rattle.op_meaning.specs.Texts.{line_feed}
use Rattle.op_meaning.specs.declared.primitive.Primitive.TheVariants.{WriteNumber, WriteTruth, WriteChar, WriteText}
use Rattle.op_tree.specs.declared.operator.Operator.{Operator}
use Rattle.op_tree.specs.declared.operator.Operator.TheVariants.{Equal, LessEqual, GreaterEqual, Add, Subtract}
use Rattle.op_tree.specs.declared.statement.Direction.{Direction}
use Rattle.op_tree.specs.declared.statement.Direction.TheVariants.{To, Downto}

-- ---- assignments ("Assignments")

-- a value that was evaluated, of a type, goes into a place of a shape, which is found with the temporaries behind it
abbrev pub stored_by : Shape → TypeId → Here → Found → Found → Items
stored_by (single kind) of here v target = v.items & target.items & only (act (store (path_of of here target.now) kind here.temp))
stored_by composite of here v target = v.items & target.items & only (act (copy of (path_of of here target.now) (whole_path of here)))
stored_by _ of here v target = v.items & target.items

-- the right side is evaluated first, then the indices of the place
abbrev pub assigned : Env → Here → Expression → Expression → Items
assigned env here target e = stored_by (shape_of env.core (type_of target)) (type_of e) here (make env here e) (find env (past 1 (past_whole here)) target)

abbrev pub result_path : Env → Path
result_path env = path_to (in_local (result_of_routine env.core env.routine))

abbrev pub variable_path : Env → VariableId → Path
variable_path env v = path_to (root_of env.core env.routine v)

abbrev pub at_variable : Env → VariableId → Found
at_variable env v = found none (at_path (variable_path env v))

abbrev pub kind_by : Shape → IntegerKind
kind_by (single kind) = kind
kind_by _ = Signed32

abbrev pub kind_of : Core → TypeId → IntegerKind
kind_of core of = kind_by (shape_of core of)

-- ---- Write

abbrev pub write_by : Option CoreType → ℕ → Action
write_by (Some Boolean) t = primitive WriteTruth (from_temp t ∷ from_temp (t + 1) ∷ []) unused
write_by (Some Char) t = primitive WriteChar (from_temp t ∷ from_temp (t + 1) ∷ []) unused
write_by _ t = primitive WriteNumber (from_temp t ∷ from_temp (t + 1) ∷ []) unused

abbrev pub write_text : List ℕ → ℕ → Action
write_text text width = primitive WriteText (literal_text text ∷ from_temp width ∷ []) unused

-- the value is in the first temporary and the width in the second one; a literal is written as it is
abbrev pub write_by_now : Env → Here → TypeId → Found → Items → Now → Items
write_by_now env here of f width (a_text bytes) = f.items & width & only (act (write_text bytes (here.temp + 1)))
write_by_now env here of f width now = f.items & width & only (act (write_by (host env.core (type_at env.core of)) here.temp))

abbrev pub write_value : Env → Here → TypeId → Found → Items → Items
write_value env here of f width = write_by_now env here of f width f.now

abbrev pub no_width : Here → Items
no_width here = only (act (constant (here.temp + 1) (pos 0)))

abbrev pub write_one : Env → Here → Output → Items
write_one env here (plain e) = write_value env here (type_of e) (make env here e) (no_width here)
write_one env here (padded e w) = write_value env here (type_of e) (make env here e) (make env (past 1 here) w).items

-- each is written before the next one is evaluated
abbrev pub write_all : Env → Here → List Output → Items
write_all env here [] = none
write_all env here (o ∷ os) = write_one env here o & write_all env here os

abbrev pub line_end : Here → Bool → Items
line_end here false = none
line_end here true = no_width here & only (act (write_text line_feed (here.temp + 1)))

-- ---- Inc, Dec, Include and Exclude: the place is found once

abbrev pub sum_or_difference : Direction → Operator
sum_or_difference To = Add
sum_or_difference Downto = Subtract

-- the indices, then what is there, then by how much, then the store
abbrev pub counted_at : Env → Here → Direction → Target → Expression → Bool → Found → Items
counted_at env here d target amount checked f =
    let t = here.temp + f.used in
    let of = type_of target.place in
    f.items & only (act (load t (kind_of env.core of) (path_of of here f.now)))
    & (make env (past (f.used + 1) (past_whole here)) amount).items
    & acts (arithmetic (sum_or_difference d) checked t t (t + 1) ∷ []) & acts (converted env.core target.store of t)
    & only (act (store (path_of of here f.now) (kind_of env.core of) t))

abbrev pub changed_set : Env → Here → Operator → TypeId → Expression → Found → Items
changed_set env here o of e f =
    let t = here.temp + f.used in
    f.items & (make env (past (f.used + 1) (past_whole here)) e).items
    & acts (lone (t + 1) (t + 1) ∷ load t Signed32 (path_of of here f.now) ∷ combine o t t (t + 1) ∷ store (path_of of here f.now) Signed32 t ∷ [])

abbrev pub done_built_in : Env → Here → BuiltIn → Items
done_built_in env here (write items ends) = write_all env here items & line_end here ends
done_built_in env here (count d target amount checked) = counted_at env here d target amount checked (find env here target.place)
done_built_in env here (include s e) = changed_set env here Add (type_of s) e (find env here s)
done_built_in env here (exclude s e) = changed_set env here Subtract (type_of s) e (find env here s)
done_built_in env here (free_of e empties) = let f = find env here e in f.items & only (free true (path_of (type_of e) here f.now))
done_built_in env here (destroy e) = let f = find env here e in f.items & only (free false (path_of (type_of e) here f.now))
done_built_in env here _ = none

-- ---- loops that count ("The For..to/downto..do statement")

abbrev pub has_turn : Direction → Operator
has_turn To = LessEqual
has_turn Downto = GreaterEqual

-- The counter is in the first temporary, the last value in the second one, and what a test says in the third. What is stored in the
-- variable in between does not count.
abbrev pub counting : ℕ → Direction → Items → Turns
counting t d body = turns
    (only (act (compare Equal (t + 2) t (t + 1)))) (t + 2) true
    (acts (constant (t + 2) (pos 1) ∷ arithmetic (sum_or_difference d) false t t (t + 2) ∷ []))
    body

abbrev pub check_bound : Env → VariableId → ℕ → Action
check_bound env v t = check (low_in env.core (type_of_variable env.core v.0)) (high_in env.core (type_of_variable env.core v.0)) t t

abbrev pub store_variable : Env → VariableId → ℕ → Action
store_variable env v t = store (variable_path env v) (kind_of env.core (type_of_variable env.core v.0)) t

-- behind both bounds: where there is a turn, they are checked, and each turn stores the counter first
abbrev pub for_items : Env → Here → VariableId → Direction → Items → Items
for_items env here v d body =
    then_do (act (compare (has_turn d) (here.temp + 2) here.temp (here.temp + 1)))
    (only (choose (here.temp + 2)
    (acts (check_bound env v here.temp ∷ check_bound env v (here.temp + 1) ∷ []) & only (body_first (counting here.temp d (then_do (act (store_variable env v here.temp)) body))))
    none))

-- ---- loops over collections ("The For..in..do statement")

-- behind the collection, a copy of an array: its elements in ascending order
abbrev pub in_array : Env → Here → TypeId → TypeId → VariableId → Conversion → Items → Items
in_array env here of element v into body =
    let t = here.temp in
    let to = type_of_variable env.core v.0 in
    let each = own env element (past 3 (past_whole here)) (found none (at_path (with_step (element_step env.core of t) (whole_path of here)))) in
    acts (constant t (low_in env.core (counted_of env.core of)) ∷ constant (t + 1) (high_in env.core (counted_of env.core of)) ∷ [])
    & only (body_first (counting t To (stored_by (shape_of env.core to) element (past 3 (past_whole here)) (then_acts each (converted env.core into to (t + 3))) (at_variable env v) & body)))

-- behind the collection, a set in the first temporary: those of the base's values that are in it
abbrev pub in_set : Env → Here → TypeId → VariableId → Conversion → Items → Items
in_set env here base v into body =
    let t = here.temp in
    let to = type_of_variable env.core v.0 in
    acts (constant (t + 1) (low_in env.core base) ∷ constant (t + 2) (high_in env.core base) ∷ [])
    & only (body_first (counting (t + 1) To (
    then_do (act (contains (t + 4) (t + 1) t)) (only (choose (t + 4)
    (acts (check (low_in env.core base) (high_in env.core base) (t + 4) (t + 1) ∷ []) & acts (converted env.core into to (t + 4)) & only (act (store_variable env v (t + 4))) & body)
    none)))))

abbrev pub in_collection : Env → Here → TypeId → Option CoreType → VariableId → Conversion → Items → Items
in_collection env here of (Some (Array index element)) v into body = in_array env here of element v into body
in_collection env here of (Some (Set base)) v into body = in_set env here base v into body
in_collection env here of _ v into body = none

-- what the turns of such a loop leave to the body
abbrev pub in_turn : Here → Here
in_turn here = past 4 (past_whole here)

-- ---- statements

abbrev pub clause_variable : Env → Option VariableId → Option Root
clause_variable env None = None
clause_variable env (Some v) = Some (root_of env.core env.routine v)

abbrev mutual
  pub work_of : Env → Here → Statement → Items
  work_of env here empty = none
  work_of env here (block ss) = work_of_all env here ss
  work_of env here (if_then e s) = (make env here e).items & only (choose here.temp (work_of env here s) none)
  work_of env here (if_else e s t) = (make env here e).items & only (choose here.temp (work_of env here s) (work_of env here t))
  work_of env here (case_of e bs ss) = (make env here e).items & only (select here.temp (cases_of env here bs) (work_of_all env here ss))
  work_of env here (while_do e s) = only (loop (turns (make env here e).items here.temp false none (work_of env here s)))
  work_of env here (repeat_until ss e) = only (body_first (turns (make env here e).items here.temp true none (work_of_all env here ss)))
  work_of env here (for_to v e d f s) = (make env here e).items & (make env (past 1 here) f).items & for_items env here v d (work_of env (past 3 here) s)
  work_of env here (for_in v into e s) = (make env here e).items & in_collection env here (type_of e) (type_at env.core (type_of e)) v into (work_of env (in_turn here) s)
  work_of env here (try_finally ss ts) = only (protect here.temp (work_of_all env (past 2 here) ss) (work_of_all env (past 2 here) ts))
  work_of env here (try_on ss hs) = only (attempt (work_of_all env here ss) (clauses_of env here hs no_clauses))
  work_of env here (try_on_else ss hs ts) = only (attempt (work_of_all env here ss) (clauses_of env here hs (for_others (work_of_all env here ts))))
  work_of env here (raise e) = let f = find env here e in f.items & only (throw (path_of (type_of e) here f.now))
  work_of env here reraise = only rethrow
  work_of env here (call e) = (find env here e).items
  work_of env here (assign target e) = assigned env here target e
  work_of env here exit = only (leave 0)
  work_of env here (exit_with e) = stored_by (shape_of env.core (type_of e)) (type_of e) here (make env here e) (found none (at_path (result_path env))) & only (leave 0)
  work_of env here break = only (leave 1)
  work_of env here continue = only (leave 2)
  work_of env here (halt_with e) = (make env here e).items & only (halt here.temp)
  work_of env here (built_in b) = done_built_in env here b

  pub work_of_all : Env → Here → Statements → Items
  work_of_all env here no_statements = none
  work_of_all env here (statements s ss) = work_of env here s & work_of_all env here ss

  pub cases_of : Env → Here → Branches → Cases
  cases_of env here no_branches = no_cases
  cases_of env here (branches labels s bs) = cases labels (work_of env here s) (cases_of env here bs)

  pub clauses_of : Env → Here → Handlers → Clauses → Clauses
  clauses_of env here no_handlers last = last
  clauses_of env here (handlers v c s hs) last = clauses c (clause_variable env v) (work_of env here s) (clauses_of env here hs last)

-- ---- the variables of a routine that begin with a value ("Initialized variables")

abbrev first_item : Core → ℕ → ℕ → Option FirstValue → Items
first_item core r v None = none
first_item core r v (Some value) = only (act (begin_with v (type_of_local core r v) value))

-- so many of them, in order; `first` tells of each row what it begins with
abbrev pub first_items : Core → (ℕ → Option FirstValue) → ℕ → ℕ → Items
first_items core first r zero = none
first_items core first r (suc v) = first_items core first r v & first_item core r v (first ((variables_of core r).first + v))
