-- A test of whether a program is of the plain class.
use Rattle.std.specs.Prelude.{◌≡◌, ◌<◌, Bool, true, false, ◌&&◌, ℕ, length, List, Option, Some, None, nat_lt, not}
use Rattle.std.specs.List.{list_all}
use Rattle.op_core.specs.declared.ids.RoutineId.{RoutineId}
use Rattle.op_core.specs.declared.ids.TypeId.{TypeId}
use Rattle.op_core.specs.declared.program.Core.{Core}
use Rattle.op_core.specs.declared.program.ExceptionClasses.{ExceptionClasses}
use Rattle.op_core.specs.declared.program.Unit.{Unit as UnitRow}
use Rattle.op_core.specs.declared.routine.Routine.{Routine}
use Rattle.op_core.specs.declared.routine.Variable.{Variable}
use Rattle.op_meaning.specs.Actions.{Action, constant, load, store, copy, look, begin_with, pick, arithmetic, compare, negate, complement, invert, absolute, odd, upper, low_bits, check, neighbour, single, span, combine, contains, check_set, primitive}
use Rattle.op_meaning.specs.Frames.{program_of}
use Rattle.op_meaning.specs.Items.{Item, act, also, choose, select, loop, body_first, protect, leave, enter, scoped, attempt, throw, rethrow, halt, construct, free, Items, none, then_do, Turns, turns, Cases, no_cases, cases}
use Rattle.op_meaning.specs.Primitives.{Operand, from_temp, gives, literal_text, text_at}
use Rattle.op_meaning.specs.Shapes.{is_managed, no_type}
use Rattle.op_mir.specs.Code.{items_of}
use Rattle.op_mir.specs.Kinds.{is_nothing}
use Rattle.op_mir.specs.Plain.{IsPlain}

-- ---- actions

abbrev pub is_plain_operand : Operand → Bool
is_plain_operand (from_temp t) = true
is_plain_operand (text_at path) = false
is_plain_operand (literal_text bytes) = true

abbrev pub is_plain_action : Action → Bool
is_plain_action (constant to n) = true
is_plain_action (load to kind from) = true
is_plain_action (store to kind from) = true
is_plain_action (copy of to from) = true
is_plain_action (look at) = true
is_plain_action (begin_with v of value) = true
is_plain_action (pick to text index) = true
is_plain_action (arithmetic o checked to a b) = true
is_plain_action (compare o to a b) = true
is_plain_action (negate checked to a) = true
is_plain_action (complement to a) = true
is_plain_action (invert to a) = true
is_plain_action (absolute checked to a) = true
is_plain_action (odd to a) = true
is_plain_action (upper to a) = true
is_plain_action (low_bits kind to a) = true
is_plain_action (check low high to a) = true
is_plain_action (neighbour distance low high to a) = true
is_plain_action (single to a) = true
is_plain_action (span to a b) = true
is_plain_action (combine o to a b) = true
is_plain_action (contains to a b) = true
is_plain_action (check_set all to a) = true
is_plain_action (primitive p operands to) = is_nothing (gives p) && list_all is_plain_operand operands

-- ---- items, of a program with so many routines

abbrev mutual
  pub are_plain : ℕ → Items → Bool
  are_plain n none = true
  are_plain n (then_do i others) = is_plain_item n i && are_plain n others

  pub is_plain_item : ℕ → Item → Bool
  is_plain_item n (act a) = is_plain_action a
  is_plain_item n (also truth t items) = are_plain n items
  is_plain_item n (choose t first otherwise) = are_plain n first && are_plain n otherwise
  is_plain_item n (select t cs otherwise) = are_plain_cases n cs && are_plain n otherwise
  is_plain_item n (loop l) = are_plain_turns n l
  is_plain_item n (body_first l) = are_plain_turns n l
  is_plain_item n (protect t items finalization) = are_plain n items && are_plain n finalization
  is_plain_item n (leave what) = nat_lt what 3
  is_plain_item n (enter r given receiver) = nat_lt r n
  is_plain_item n (halt t) = true
  is_plain_item n (scoped t ts items) = are_plain n items
  is_plain_item n (attempt items cs) = false
  is_plain_item n (throw at) = false
  is_plain_item n rethrow = false
  is_plain_item n (construct c r given receiver) = false
  is_plain_item n (free takes_nil at) = false

  pub are_plain_turns : ℕ → Turns → Bool
  are_plain_turns n (turns head t ends between body) = are_plain n head && are_plain n between && are_plain n body

  pub are_plain_cases : ℕ → Cases → Bool
  are_plain_cases n no_cases = true
  are_plain_cases n (cases labels items others) = are_plain n items && are_plain_cases n others

-- ---- tables: no variable and no result is managed, the parts of units exist, and errors end the program

abbrev pub is_plain_type : Core → TypeId → Bool
is_plain_type core of = not (is_managed core of)

abbrev pub is_plain_variable : Core → Variable → Bool
is_plain_variable core v = is_plain_type core v.of

abbrev pub is_plain_result : Core → Option TypeId → Bool
is_plain_result core None = true
is_plain_result core (Some of) = is_plain_type core of

abbrev pub is_plain_routine : Core → Routine → Bool
is_plain_routine core r = is_plain_result core r.result

abbrev pub has_part : Core → Option RoutineId → Bool
has_part core None = true
has_part core (Some r) = nat_lt r.0 (length core.routines)

abbrev pub is_plain_unit : Core → UnitRow → Bool
is_plain_unit core u = has_part core u.initialization && has_part core u.finalization

abbrev pub has_no_exceptions : Option ExceptionClasses → Bool
has_no_exceptions None = true
has_no_exceptions (Some x) = false

unfoldable pub has_plain_tables : Core → Bool
has_plain_tables core =
    has_no_exceptions core.exceptions
    && is_plain_type core no_type
    && list_all (is_plain_variable core) core.variables
    && list_all (is_plain_routine core) core.routines
    && list_all (is_plain_unit core) core.units

-- a program that passes the tests is plain
abbrev pub PlainByTest : Type 0
PlainByTest =
    (core : Core) (stack : ℕ) →
    has_plain_tables core ≡ true →
    ((r : ℕ) → r < length core.routines → are_plain (length core.routines) (items_of (program_of core stack) r) ≡ true) →
    IsPlain (program_of core stack)
