-- Declarations change what is declared.
use Rattle.std.specs.Prelude.{◌≡◌, ℕ, List, Option, map}
use Rattle.op_base.specs.declared.place.Place.{Place}
use Rattle.op_check_unit.specs.Bodies.{said}
use Rattle.op_check_unit.specs.FirstValues.{begins_so}
use Rattle.op_check_unit.specs.declared.declarer.Declarer.{Declarer}
use Rattle.op_core.specs.Faults.{kept}
use Rattle.op_core.specs.Initial.{FirstValue}
use Rattle.op_core.specs.Statement.{Statements}
use Rattle.op_core.specs.declared.ids.RoutineId.{RoutineId}
use Rattle.op_core.specs.declared.ids.UnitId.{UnitId}
use Rattle.op_core.specs.declared.ids.VariableId.{VariableId}
use Rattle.op_core.specs.declared.program.Core.{Core}
use Rattle.op_judgement.specs.Given as made
pub use Rattle.op_judgement.specs.Given.{breaks, by, checked, each, each_declaration, followed, gather, gives, is_clear, silent, unless, unless_faulty, where_true}
use Rattle.op_judgement.specs.Steps.{Step, done}
use Rattle.op_types.specs.Names.{Named}

-- The typed program so far; the unit whose parts are declared; the visible names, how many of these were declared before this scope, and
-- how many names the scope has; the name of the unit whose own scope it is, if that has a name; the names of the declaration that is under
-- way, which stand in front and are declared at its end; the bytes of the variables of this scope, and the routine whose locals they are.
-- Rows have no bodies and first values, which stand beside them, as do the places of those declared ahead.
pub record Here : Type 0 where
  pub core : Core
  pub unit : UnitId
  pub names : List Named
  pub first : ℕ
  pub count : ℕ
  pub own : Option (List ℕ)
  pub ahead : List Named
  pub bytes : ℕ
  pub routine : Option RoutineId
  pub awaited : List (Option Place)
  pub bodies : List (RoutineId × Statements)
  pub first_values : List (VariableId × FirstValue)

-- ---- what is computed of a part

-- without a type where anything in the part breaks a rule
abbrev pub Given : Type 0 → Type 0
Given A = made.Given Here A

-- ---- answers

abbrev pub here_of : Declarer → Here
here_of d = record { core = d.core; unit = d.unit; names = d.visible; first = d.first; count = d.count; own = d.own; ahead = d.ahead; bytes = d.bytes; routine = d.routine; awaited = d.awaited; bodies = map said d.bodies.items; first_values = map begins_so d.first_values.items }

-- what is declared, and the first fault
abbrev pub Declared : {A : Type 0} → Given A → Declarer → Declarer → Type 0
Declared g old new = (here_of new ≡ g.here) × (new.sink.kept ≡ kept old.sink.kept g.faults)

abbrev pub Declares : {A : Type 0} → Step Here A → Declarer → Declarer → Type 0
Declares g old new = Declared (done g) old new

-- the same, with what the part denotes
abbrev pub Left : {A : Type 0} → Given A → Declarer → Declarer → Option A → Type 0
Left g old new typed = (typed ≡ g.typed) × Declared g old new

abbrev pub Leaves : {A : Type 0} → Step Here A → Declarer → Declarer → Option A → Type 0
Leaves g old new typed = Left (done g) old new typed
