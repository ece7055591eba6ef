-- The size of a program, which bounds that of its image: of what is written in it, each thing at so many bytes.
use Rattle.std.specs.Prelude.{ℕ, ◌+◌, ◌-◌, ◌*◌, List, ◌++◌, length, Option, Some, None, if◌then◌else◌}
use Rattle.std.specs.List.{flat_map, sum_by}
use Rattle.std.specs.Option.{option_map, option_to_list}
use Rattle.op_constants.specs.FirstBytes.{are_zeros, first_bytes}
use Rattle.op_constants.specs.Texts.{distinct}
use Rattle.op_core.specs.Initial.{FirstValue, first_value_of}
use Rattle.op_core.specs.Rows.{rows}
use Rattle.op_core.specs.Sound.{globals_of, size_of}
use Rattle.op_core.specs.declared.ids.RoutineId.{RoutineId}
use Rattle.op_core.specs.declared.ids.TypeId.{TypeId}
use Rattle.op_core.specs.declared.program.Core.{Core}
use Rattle.op_core.specs.declared.program.Unit.{Unit as UnitRow}
use Rattle.op_core.specs.declared.routine.Role.TheVariants.{Constant, Handler, Object, Parameter, Plain, Result}
use Rattle.op_core.specs.declared.routine.Role.{Role}
use Rattle.op_core.specs.declared.routine.Routine.{Routine}
use Rattle.op_core.specs.declared.routine.Variable.{Variable}
use Rattle.op_meaning.specs.Charge.{body_weight, nodes_of, statements_in}
use Rattle.op_sizes.specs.Texts.{body_texts}

-- ---- nodes: those that a body is charged for

abbrev pub body_nodes : Core → Routine → ℕ
body_nodes core x = nodes_of (body_weight core (statements_in x.body))

abbrev pub nodes : Core → ℕ
nodes core = sum_by (body_nodes core) core.routines

-- ---- declared names: of those of types, of constants and of values of enumerations there are no rows, and they do not count

-- how many a variable is declared by: the object of a method and the result of a function have no declaration of their own
abbrev pub declared_by : Role → ℕ
declared_by Plain = 1
declared_by Constant = 1
declared_by (Parameter mode) = 1
declared_by Handler = 1
declared_by Object = 0
declared_by Result = 0

abbrev pub own_names : Core → Routine → ℕ
own_names core x = sum_by (λ v. declared_by v.role) (rows core.variables x.variables)

-- the parts of a unit, which have no name of their own
abbrev pub parts_of : UnitRow → List RoutineId
parts_of u = option_to_list u.initialization ++ option_to_list u.finalization

-- of units, of routines, of what is declared in routines, of global variables and of fields; the last unit is the program, which may have none
abbrev pub names : Core → ℕ
names core =
    (length core.units - 1)
    + (length core.routines - length (flat_map parts_of core.units))
    + sum_by (own_names core) core.routines
    + length core.globals
    + length core.fields

-- ---- literals: each of the different texts of all bodies

abbrev pub texts : Core → List (List ℕ)
texts core = flat_map (λ x. body_texts (statements_in x.body)) core.routines

abbrev pub text_size : List ℕ → ℕ
text_size text = 64 + length text

abbrev pub literals : Core → ℕ
literals core = sum_by text_size (distinct (texts core))

-- ---- first values

-- the bytes of a variable that does not begin as zero
abbrev pub first_size_by : Core → TypeId → Option FirstValue → ℕ
first_size_by core of None = 0
first_size_by core of (Some value) = if are_zeros (first_bytes core of value) then 0 else size_of core of

abbrev pub first_size : Core → Variable → ℕ
first_size core v = first_size_by core v.of (option_map (λ i. first_value_of i.value) v.first_value)

abbrev pub variables_size : Core → List Variable → ℕ
variables_size core vs = sum_by (first_size core) vs

abbrev pub first_values : Core → ℕ
first_values core = sum_by (λ x. variables_size core (rows core.variables x.variables)) core.routines + variables_size core (globals_of core)

-- ---- all of it

abbrev pub program_size : Core → ℕ
program_size core = 262144 + 2048 * nodes core + 2048 * names core + literals core + first_values core
