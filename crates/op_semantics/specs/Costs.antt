-- The work of a step, by which the steps of a built program are bounded: one, the bytes of all values that it reads, makes, moves,
-- compares or writes, the charges of the activation under way and of the one that is entered, and the classes and interfaces that are
-- looked through; while an exception is under way also the calls of the program.
use Rattle.std.specs.Prelude.{ℕ, zero, suc, ◌+◌, ◌-◌, ◌*◌, Bool, true, false, List, [], ◌∷◌, length, Option, Some, None, nat_lt, slice_get, if◌then◌else◌}
use Rattle.std.specs.List.{sum_by, filter}
use Rattle.op_core.specs.declared.ids.TypeId.{TypeId}
use Rattle.op_core.specs.declared.program.Core.{Core}
use Rattle.op_semantics.specs.Actions.{Action, constant, load, store, copy, begin_with, pick, arithmetic, compare, negate, complement, invert, absolute, odd, upper, low_bits, check, neighbour, single, span, combine, contains, check_set, peek, take, forget, note, primitive}
use Rattle.op_semantics.specs.Calls.{env_of}
use Rattle.op_semantics.specs.Demands.{Demand, nothing, block, demand, fields_size, size_of}
use Rattle.op_semantics.specs.Expressions.{first_here, result_of}
use Rattle.op_semantics.specs.Frames.{Program, State, Frame, destruction, Caller}
use Rattle.op_semantics.specs.Items.{Given, by_value, by_place, by_elements, by_copy, by_operand, Item, act, also, choose, select, loop, body_first, protect, leave, enter, scoped, attempt, throw, rethrow, halt, construct, invoke, free, Items, none, then_do, Turns, turns, Cases, no_cases, cases, Clauses, no_clauses, for_others, clauses, Task, item, mark, turn, finally, resume, catching, scope, handling, leaving, ending, due}
use Rattle.op_semantics.specs.Machine.{step}
use Rattle.op_semantics.specs.Paths.{Path, Step, field, element, of_array, of_open, of_instance}
use Rattle.op_semantics.specs.Primitives.{Destination, Operand, Values, a_type, bytes_handled, from_temp, in_new, in_temp, into_place, literal_text, nil_of, over_place, signature, the_token, unused, value_of, values_of}
use Rattle.op_semantics.specs.Statements.{work_of_all}
use Rattle.op_meaning.specs.Values.{Reached, reached, failing}
use Rattle.op_semantics.specs.World.{World, class_of, Ending, Running, Ended}
use Rattle.op_semantics.specs.declared.primitive.Primitive.{Primitive}

-- ---- bytes of values

-- so many numbers
abbrev pub numbers : ℕ → ℕ
numbers n = 4 * n

abbrev is_element_step : Step → Bool
is_element_step (field of k) = false
is_element_step (element of low high t) = true
is_element_step (of_array of t) = true
is_element_step (of_open of t) = true
is_element_step (of_instance k) = true

-- the indices of a path
abbrev pub indices : Path → ℕ
indices path = numbers (length (filter is_element_step path.steps))

-- ---- primitives: a value that goes to a place is as large as its type says

abbrev operand_bytes : Operand → ℕ
operand_bytes (from_temp t) = 0
operand_bytes (value_of path) = indices path
operand_bytes (literal_text bytes) = 0
operand_bytes (nil_of of) = 0
operand_bytes (a_type of) = 0
operand_bytes the_token = 0

abbrev destination_bytes : Core → Destination → ℕ
destination_bytes core unused = 0
destination_bytes core (in_temp t) = 0
destination_bytes core (in_new of n) = size_of core of
destination_bytes core (into_place of to old) = 2 * size_of core of + indices to
destination_bytes core (over_place to) = indices to

-- an operand whose path fails has no value
abbrev handled : (p : Primitive) → Reached (Values (signature p)) → ℕ
handled p (reached vs) = bytes_handled p vs
handled p (failing error) = 0

-- by how many places a text is held decides nothing here
abbrev pub primitive_bytes : Core → World → Primitive → List Operand → Destination → ℕ
primitive_bytes core w p operands to = handled p (values_of core (λ n. 0) w (signature p) operands) + sum_by operand_bytes operands + destination_bytes core to

-- ---- actions, items and tasks

-- but for what is written or made
abbrev pub action_bytes : Core → World → Action → ℕ
action_bytes core w (constant to n) = numbers 3
action_bytes core w (load to kind from) = numbers 1 + indices from
action_bytes core w (store to kind from) = numbers 1 + indices to
action_bytes core w (copy of to from) = size_of core of + indices to + indices from
action_bytes core w (begin_with v of value) = size_of core of
action_bytes core w (pick to text index) = numbers 3
action_bytes core w (arithmetic o checked to a b) = numbers 3
action_bytes core w (compare o to a b) = numbers 3
action_bytes core w (negate checked to a) = numbers 3
action_bytes core w (complement to a) = numbers 3
action_bytes core w (invert to a) = numbers 3
action_bytes core w (absolute checked to a) = numbers 3
action_bytes core w (odd to a) = numbers 3
action_bytes core w (upper to a) = numbers 3
action_bytes core w (low_bits kind to a) = numbers 3
action_bytes core w (check low high to a) = numbers 3
action_bytes core w (neighbour distance low high to a) = numbers 3
action_bytes core w (single to a) = numbers 3
action_bytes core w (span to a b) = numbers 3
action_bytes core w (combine o to a b) = numbers 3
action_bytes core w (contains to a b) = numbers 3
action_bytes core w (check_set all to a) = numbers 3
action_bytes core w (peek to) = numbers 3
action_bytes core w take = numbers 3
action_bytes core w forget = numbers 3
action_bytes core w (note a) = numbers 3
action_bytes core w (primitive p operands to) = primitive_bytes core w p operands to

abbrev pub given_bytes : Core → Given → ℕ
given_bytes core (by_value kind t) = numbers 1
given_bytes core (by_place path hold) = numbers 1 + indices path
given_bytes core (by_elements path hold) = numbers 2 + indices path
given_bytes core (by_copy of path) = size_of core of + indices path
given_bytes core (by_operand o) = numbers 1 + operand_bytes o

abbrev pub item_bytes : Core → World → Item → ℕ
item_bytes core w (act a) = action_bytes core w a
item_bytes core w (also truth t items) = numbers 1
item_bytes core w (choose t first otherwise) = numbers 1
item_bytes core w (select t cs otherwise) = numbers 1
item_bytes core w (loop l) = numbers 1
item_bytes core w (body_first l) = numbers 1
item_bytes core w (protect t items finalization) = numbers 1
item_bytes core w (leave what) = numbers 1
item_bytes core w (enter r given receiver) = sum_by (given_bytes core) given
item_bytes core w (scoped t ts items) = numbers 1
item_bytes core w (attempt items cs) = numbers 1
item_bytes core w (throw at) = numbers 1 + indices at
item_bytes core w rethrow = numbers 1
item_bytes core w (halt t) = numbers 1
item_bytes core w (construct c r given receiver) = sum_by (given_bytes core) given
item_bytes core w (invoke r dispatch of given receiver) = sum_by (given_bytes core) given
item_bytes core w (free takes_nil at) = numbers 1 + indices at

abbrev pub task_bytes : Core → World → Task → ℕ
task_bytes core w (item i) = item_bytes core w i
task_bytes core w (mark l) = numbers 1
task_bytes core w (turn l) = numbers 1
task_bytes core w (finally t finalization) = numbers 1
task_bytes core w (resume t) = numbers 1
task_bytes core w (catching cs) = numbers 1
task_bytes core w (scope t ts) = numbers 1
task_bytes core w (handling instance) = numbers 1
task_bytes core w (leaving reason) = numbers 1
task_bytes core w (ending variables result) = numbers 1
task_bytes core w (due f) = numbers 1

abbrev result_bytes : Core → Option TypeId → ℕ
result_bytes core None = 0
result_bytes core (Some of) = size_of core of

-- an activation that has nothing more to do moves its result
abbrev pub work_bytes : Core → World → ℕ → List Task → ℕ
work_bytes core w r [] = result_bytes core (result_of (slice_get core.routines r))
work_bytes core w r (task ∷ work) = task_bytes core w task

-- the last test of a destruction goes through all fields
abbrev frame_bytes : Core → World → Frame → ℕ
frame_bytes core w (destruction i started true [] waits) = numbers 1 + fields_size core (class_of w i)
frame_bytes core w frame = numbers 1

abbrev acting_bytes : Core → State → List Frame → ℕ
acting_bytes core s [] = work_bytes core s.world s.routine s.work
acting_bytes core s (frame ∷ rest) = frame_bytes core s.world frame

-- what is written, and what is read
abbrev console_bytes : World → World → ℕ
console_bytes v w = (length w.output - length v.output) + (length w.errors - length v.errors) + (length v.input - length w.input)

abbrev demand_bytes : Demand → ℕ
demand_bytes nothing = 0
demand_bytes (block bytes slot) = bytes

abbrev pub bytes_of : Program → State → ℕ
bytes_of p s = acting_bytes p.core s s.frames + console_bytes s.world (step p s).world + demand_bytes (demand p s)

-- ---- calls

-- how many calls there are in items
abbrev mutual
  pub calls_in : Items → ℕ
  calls_in none = 0
  calls_in (then_do i is) = calls_at i + calls_in is

  pub calls_at : Item → ℕ
  calls_at (act a) = 0
  calls_at (also truth t is) = calls_in is
  calls_at (choose t a b) = calls_in a + calls_in b
  calls_at (select t cs others) = calls_among cs + calls_in others
  calls_at (loop l) = calls_in_turns l
  calls_at (body_first l) = calls_in_turns l
  calls_at (protect t is ts) = calls_in is + calls_in ts
  calls_at (leave what) = 0
  calls_at (enter r given receiver) = 1
  calls_at (scoped t ts is) = calls_in is
  calls_at (attempt is cs) = calls_in is + calls_in_clauses cs
  calls_at (throw at) = 0
  calls_at rethrow = 0
  calls_at (halt t) = 0
  calls_at (construct c r given receiver) = 1
  calls_at (invoke r dispatch of given receiver) = 1
  calls_at (free takes_nil at) = 0

  pub calls_in_turns : Turns → ℕ
  calls_in_turns (turns head t ends between body) = calls_in head + calls_in between + calls_in body

  pub calls_among : Cases → ℕ
  calls_among no_cases = 0
  calls_among (cases labels is others) = calls_in is + calls_among others

  pub calls_in_clauses : Clauses → ℕ
  calls_in_clauses no_clauses = 0
  calls_in_clauses (for_others is) = calls_in is
  calls_in_clauses (clauses c v is others) = calls_in is + calls_in_clauses others

abbrev calls_below : Program → ℕ → ℕ
calls_below p zero = 0
calls_below p (suc r) = calls_below p r + calls_in (work_of_all (env_of p r) first_here (p.body r))

abbrev pub calls_of : Program → ℕ
calls_of p = calls_below p (length p.core.routines)

abbrev while_raised : Program → Option ℕ → ℕ
while_raised p None = 0
while_raised p (Some e) = calls_of p

-- ---- the work of the step from here

-- the program itself, below all activations, is charged nothing
abbrev charge_under_way : Program → ℕ → List Caller → ℕ
charge_under_way p r [] = 0
charge_under_way p r (c ∷ cs) = p.charge r

abbrev entered_charge : Program → State → State → ℕ
entered_charge p s t = if nat_lt (length s.callers) (length t.callers) then p.charge t.routine else 0

abbrev pub descriptions : Core → ℕ
descriptions core = length core.classes + length core.interfaces

abbrev pub effort : Program → State → ℕ
effort p s = 1 + bytes_of p s + charge_under_way p s.routine s.callers + entered_charge p s (step p s) + descriptions p.core + while_raised p s.world.raised

-- a state that has ended does nothing
abbrev cost_by : Program → State → Ending → ℕ
cost_by p s Running = effort p s
cost_by p s (Ended status) = 0

abbrev pub cost : Program → State → ℕ
cost p s = cost_by p s s.world.ending
