-- A test of whether a program is without strings, dynamic and open arrays, classes and interfaces.
use Rattle.std.specs.Prelude.{◌≡◌, ◌^◌, ℕ, Bool, true, false, not, ◌&&◌, ◌||◌, List, Option, Some, None, length, nat_lt, slice_get}
use Rattle.std.specs.List.{list_all}
use Rattle.op_core.specs.Expression.{Expression, Root, constant, variable, object, call, construct, set, eof, eoln, Action, convert, bracket, field, index, method, prefixed, operate, is, apply, copy, Argument, value, place, array, listed}
use Rattle.op_core.specs.Sizes.{type_at, range_of, values_of}
use Rattle.op_core.specs.Statement.{Statements, stmts_of}
use Rattle.op_core.specs.declared.constant.Const.{Const}
use Rattle.op_core.specs.declared.constant.Const.TheVariants.{Ordinal, Text, Set, Nil}
use Rattle.op_core.specs.declared.ids.RoutineId.{RoutineId}
use Rattle.op_core.specs.declared.ids.TypeId.{TypeId}
use Rattle.op_core.specs.declared.program.Core.{Core}
use Rattle.op_core.specs.declared.program.Unit.{Unit as UnitRow}
use Rattle.op_core.specs.declared.routine.Body.{Body}
use Rattle.op_core.specs.declared.routine.Owner.{Owner}
use Rattle.op_core.specs.declared.routine.Owner.TheVariants.{Unit as OfUnit}
use Rattle.op_core.specs.declared.routine.Parameter.{Parameter}
use Rattle.op_core.specs.declared.routine.Routine.{Routine}
use Rattle.op_core.specs.declared.routine.Variable.{Variable}
use Rattle.op_core.specs.declared.types.CoreType.{CoreType}
use Rattle.op_core.specs.declared.types.CoreType.TheVariants.{Array}
use Rattle.op_meaning.specs.Every.{Node, Tests, at_argument, at_construct, at_copy, at_end, at_handlers, at_input, at_labels, at_method, at_raise, at_root, at_step, at_steps, at_strings, expression_nodes, passes, passes_in, statements_works}
use Rattle.op_meaning.specs.Shapes.{is_reference}
use Rattle.op_typing.specs.Simple.{IsSimpleProgram, asks_text, is_solid}

abbrev pub is_short_text : List ℕ → Bool
is_short_text text = nat_lt (length text) (2 ^ 31) && list_all (λ b. nat_lt b 256) text

abbrev pub is_none : {A : Type 0} → Option A → Bool
is_none None = true
is_none (Some a) = false

abbrev pub is_solid_type : Core → TypeId → Bool
is_solid_type core of = is_solid (type_at core of)

-- ---- nodes

abbrev pub is_simple_constant : Core → Const → TypeId → Bool
is_simple_constant core (Ordinal n) of = is_solid_type core of
is_simple_constant core (Text bytes) of = is_short_text bytes
is_simple_constant core (Set members) of = is_solid_type core of
is_simple_constant core Nil of = is_solid_type core of

abbrev pub is_simple_root : Core → Root → TypeId → Bool → Bool
is_simple_root core (constant v nodes words) of parts = is_simple_constant core v of
is_simple_root core (variable id) of parts = is_solid_type core of
is_simple_root core (object id) of parts = is_solid_type core of
is_simple_root core (call id given) of parts = is_solid_type core of && parts
is_simple_root core (construct c id given) of parts = false
is_simple_root core (set es) of parts = is_solid_type core of && parts
is_simple_root core eof of parts = is_solid_type core of
is_simple_root core eoln of parts = is_solid_type core of

abbrev pub is_simple_step : Core → Bool → Action → TypeId → Bool → Bool
is_simple_step core true (convert conversion origin) next parts = false
is_simple_step core true bracket next parts = true
is_simple_step core true (field id) next parts = false
is_simple_step core true (index e) next parts = parts && is_solid_type core next
is_simple_step core true (method id dispatch given) next parts = false
is_simple_step core true (prefixed operator checked) next parts = false
is_simple_step core true (operate operator checked e) next parts = false
is_simple_step core true (is class) next parts = false
is_simple_step core true (apply function checked) next parts = asks_text function && is_solid_type core next
is_simple_step core true (copy e e') next parts = false
is_simple_step core false (convert conversion origin) next parts = is_solid_type core next
is_simple_step core false bracket next parts = is_solid_type core next
is_simple_step core false (field id) next parts = is_solid_type core next
is_simple_step core false (index e) next parts = parts && is_solid_type core next
is_simple_step core false (method id dispatch given) next parts = false
is_simple_step core false (prefixed operator checked) next parts = is_solid_type core next
is_simple_step core false (operate operator checked e) next parts = parts && is_solid_type core next
is_simple_step core false (is class) next parts = is_solid_type core next
is_simple_step core false (apply function checked) next parts = is_solid_type core next
is_simple_step core false (copy e e') next parts = is_solid_type core next

abbrev pub is_simple_argument : Argument → Bool → Bool
is_simple_argument (value e) parts = parts
is_simple_argument (place e) parts = parts
is_simple_argument (array e) parts = false
is_simple_argument (listed of es) parts = false

abbrev pub is_simple_node : Core → Node → Bool → Bool
is_simple_node core (at_root root of) parts = is_simple_root core root of parts
is_simple_node core (at_steps others) parts = parts
is_simple_node core (at_step text action next) parts = is_simple_step core text action next parts
is_simple_node core (at_argument a) parts = is_simple_argument a parts
is_simple_node core at_construct parts = parts
is_simple_node core at_method parts = parts
is_simple_node core at_copy parts = true
is_simple_node core at_input parts = true
is_simple_node core at_strings parts = true
is_simple_node core at_end parts = parts
is_simple_node core at_handlers parts = true
is_simple_node core at_raise parts = parts
is_simple_node core (at_labels labels) parts = parts

abbrev pub simple_tests : Core → Tests
simple_tests core = record { of_node = is_simple_node core; of_amount = λ e parts. parts }

abbrev pub is_simple : Core → Expression → Bool
is_simple core e = passes (simple_tests core) (expression_nodes e)

abbrev pub are_simple_statements : Core → Statements → Bool
are_simple_statements core ss = passes_in (simple_tests core) (statements_works ss)

-- ---- programs

abbrev pub is_counted : Core → CoreType → Bool
is_counted core (Array at element) = nat_lt (values_of (range_of (type_at core at))) (2 ^ 31)
is_counted core _ = true

abbrev pub is_of_unit : Owner → Bool
is_of_unit OfUnit = true
is_of_unit _ = false

abbrev pub is_solid_result : Core → Option TypeId → Bool
is_solid_result core None = true
is_solid_result core (Some of) = is_solid_type core of

abbrev pub is_simple_body : Core → Option Body → Bool
is_simple_body core None = true
is_simple_body core (Some b) = are_simple_statements core (stmts_of b.statements.items)

abbrev pub is_simple_routine : Core → Routine → Bool
is_simple_routine core x = is_of_unit x.owner && (is_none x.enclosing && (is_solid_result core x.result && is_simple_body core x.body))

abbrev pub gives_nothing : Option Routine → Bool
gives_nothing None = false
gives_nothing (Some x) = is_none x.result

abbrev pub is_procedure : Core → Option RoutineId → Bool
is_procedure core None = true
is_procedure core (Some q) = gives_nothing (slice_get core.routines q.0)

abbrev pub is_simple_unit : Core → UnitRow → Bool
is_simple_unit core u = is_procedure core u.initialization && is_procedure core u.finalization

abbrev pub begins_itself : Variable → Bool
begins_itself v = not (is_reference v.role) || is_none v.first_value

abbrev pub is_solid_parameter : Core → Parameter → Bool
is_solid_parameter core p = is_solid_type core p.of

abbrev pub is_solid_variable : Core → Variable → Bool
is_solid_variable core v = is_solid_type core v.of

unfoldable pub is_simple_program : Core → Bool
is_simple_program core =
    list_all (is_counted core) core.types
    && (list_all (is_solid_parameter core) core.parameters
    && (list_all (is_solid_variable core) core.variables
    && (list_all begins_itself core.variables
    && (list_all (is_simple_routine core) core.routines
    && list_all (is_simple_unit core) core.units))))

-- a program that passes the test is without them
abbrev pub SimpleByTest : Type 0
SimpleByTest = (core : Core) → is_simple_program core ≡ true → IsSimpleProgram core
