-- Where a part of a body is refused that has no place in the tree. The tokens of a file are looked through before its trees are checked, and
-- the grammar is asked, so that nobody is told such a place.
use Rattle.std.specs.Prelude.{Option, Some, None, slice_get}
use Rattle.std.specs.Option.{option_and_then}
use Rattle.op_base.specs.declared.place.Place.{Place}
use Rattle.op_check_expr.specs.Scopes.{Here}
use Rattle.op_core.specs.declared.ids.RoutineId.{RoutineId}
use Rattle.op_core.specs.declared.program.Core.{Core}
use Rattle.op_core.specs.declared.routine.Routine.{Routine}

-- where a routine's name stands, and without a routine the beginning of the main file
abbrev pub name_place : Option Routine → Place
name_place None = record { file = 0; line = 1; col = 1 }
name_place (Some r) = r.name.position.place

abbrev pub routine_at : Core → Option RoutineId → Option Routine
routine_at core id = option_and_then (λ id. slice_get core.routines id.0) id

-- the name of the routine whose body it is
abbrev pub place_of_body : Here → Place
place_of_body here = name_place (routine_at here.core here.routine)
