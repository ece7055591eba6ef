-- How a program begins: all globals have their first values, nothing is made, and the parts of the units are to be entered in the order
-- of the units; the main part is that of the last one. (Free Pascal Reference Guide, "Programs", "Units" and "Initialized
-- variables".)
use Rattle.std.specs.Prelude.{ℕ, List, [], ◌∷◌, ◌++◌, length, reverse, map, Option, Some, None, pos}
use Rattle.std.specs.List.{flat_map, filter}
use Rattle.op_core.specs.Initial.{FirstValue}
use Rattle.op_core.specs.Rows.{rows}
use Rattle.op_core.specs.declared.ids.RoutineId.{RoutineId}
use Rattle.op_core.specs.declared.ids.VariableId.{VariableId}
use Rattle.op_core.specs.declared.program.Core.{Core}
use Rattle.op_core.specs.declared.program.Unit.{Unit as UnitRow}
use Rattle.op_semantics.specs.Calls.{no_temps, none_waiting}
use Rattle.op_semantics.specs.Frames.{Program, State, Pending, empty_global}
use Rattle.op_semantics.specs.Items.{nowhere, enter, Task, item, due}
use Rattle.op_semantics.specs.Machine.{run_for}
use Rattle.op_semantics.specs.Shapes.{first_of, zero_of, type_of_variable, is_managed}
use Rattle.op_meaning.specs.Values.{Value, number, Holder, global, all_of}
use Rattle.op_semantics.specs.World.{World, gone, Running}

-- ---- globals

abbrev first_global : Core → ℕ → Option FirstValue → Value
first_global core v None = zero_of core (type_of_variable core v)
first_global core v (Some value) = first_of core (type_of_variable core v) value

abbrev pub first_memory : Program → Holder → Value
first_memory p (global v) = first_global p.core v (p.first v)
first_memory p h = number (pos 0)

abbrev managed_globals : Core → UnitRow → List VariableId
managed_globals core u = filter (λ v. is_managed core (type_of_variable core v.0)) (rows core.globals u.globals)

-- the closing empties the program's own globals first, then each unit's in reverse order, within one in order of declaration
abbrev pub first_pending : Core → List Pending
first_pending core = map (λ v. empty_global v) (flat_map (managed_globals core) (reverse core.units))

-- ---- the parts of the units

abbrev entering : Option RoutineId → List Task
entering None = []
entering (Some r) = item (enter r.0 [] nowhere) ∷ []

abbrev becoming_due : Option RoutineId → List Task
becoming_due None = []
becoming_due (Some r) = due r ∷ []

abbrev pub unit_work : UnitRow → List Task
unit_work u = entering u.initialization ++ becoming_due u.finalization

-- ---- the first state

abbrev pub first_world : Program → List ℕ → World
first_world p input = record {
  temps = no_temps;
  waiting = none_waiting;
  made = [];
  depth = 0;
  memory = first_memory p;
  bound = λ d v. all_of (global 0);
  objects = λ n. gone;
  next = 1;
  raised = None;
  token = [];
  input = input;
  output = [];
  errors = [];
  ending = Running;
}

-- the program itself is the lowest activation: it is no routine and is charged nothing
abbrev pub start : Program → List ℕ → State
start p input = record {
  world = first_world p input;
  routine = length p.core.routines;
  work = flat_map unit_work p.core.units;
  frames = [];
  callers = [];
  pending = first_pending p.core;
  charged = 0;
  counts = tt;
}

-- the state after so many steps
unfoldable pub after : Program → List ℕ → ℕ → State
after p input n = run_for n p (start p input)
