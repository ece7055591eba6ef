-- What the checker answers of a whole program.
use Rattle.std.specs.Prelude.{◌≡◌, List, [], ◌∷◌, Option, Some, None, Result, Ok, Err, map, slice_set}
use Rattle.std.specs.Option.{option_map}
use Rattle.op_check_unit.specs.FirstValues.{begins_with, begun, without_first_values}
use Rattle.op_check_unit.specs.Steps.{Given, Here, here_of}
use Rattle.op_check_unit.specs.declared.declarer.Declarer.{Declarer}
use Rattle.op_core.specs.Faults.{FirstIs, kept}
use Rattle.op_core.specs.Initial.{FirstValue}
use Rattle.op_core.specs.Statement.{Statements, stmts_of}
use Rattle.op_core.specs.declared.error.CheckError.{CheckError}
use Rattle.op_core.specs.declared.error.CheckError.TheVariants.{Refused, NoMemory}
use Rattle.op_core.specs.declared.ids.RoutineId.{RoutineId}
use Rattle.op_core.specs.declared.ids.VariableId.{VariableId}
use Rattle.op_core.specs.declared.program.Core.{Core}
use Rattle.op_core.specs.declared.routine.Routine.{Routine}

-- ---- bodies in their rows

abbrev pub bare : Routine → Routine
bare r = record r { body = None }

abbrev pub without_bodies : Core → Core
without_bodies core = record core { routines = map bare core.routines }

abbrev pub body_in : Routine → Option Statements
body_in r = option_map (λ b. stmts_of b.statements.items) r.body

abbrev pub placed : List (RoutineId × Statements) → List (Option Statements) → List (Option Statements)
placed [] xs = xs
placed (b ∷ bs) xs = slice_set (placed bs xs) b.0.0 (Some b.1)

-- the same program, with these bodies in the rows of their routines
pub record Places (bs : List (RoutineId × Statements)) (old new : Core) : Type 0 where
  pub others : without_bodies new ≡ without_bodies old
  pub bodies : map body_in new.routines ≡ placed bs (map body_in old.routines)

-- ---- the answer

-- the same program, with bodies and first values in their rows
pub record Fills (bs : List (RoutineId × Statements)) (vs : List (VariableId × FirstValue)) (old new : Core) : Type 0 where
  pub others : without_first_values (without_bodies new) ≡ without_first_values (without_bodies old)
  pub bodies : map body_in new.routines ≡ placed bs (map body_in old.routines)
  pub values : map begins_with new.variables ≡ begun vs (map begins_with old.variables)

-- the program that was declared
abbrev IsProgram : Here → Core → Type 0
IsProgram h core = Fills h.bodies h.first_values h.core core

-- what a declarer comes to: its program, or the refusal that it kept
abbrev pub Finishes : Declarer → Result Core CheckError → Type 0
Finishes d (Ok core) = IsProgram (here_of d) core × (d.sink.kept ≡ None)
Finishes d (Err (Refused r)) = d.sink.kept ≡ Some r
Finishes d (Err NoMemory) = Unit {0}

-- the typed program, where no rule is broken; else the first one, and of those that stand alike the one that is reported first
abbrev pub CheckIs : Given (Unit {0}) → Result Core CheckError → Type 0
CheckIs g (Ok core) = IsProgram g.here core × FirstIs g.faults None
CheckIs g (Err (Refused r)) = FirstIs g.faults (Some r) × (kept None g.faults ≡ Some r)
CheckIs g (Err NoMemory) = Unit {0}
