-- Where each expression has a sound value or breaks a rule: in a program whose names all stand for what is there.
use Rattle.std.specs.Prelude.{◌≡◌, ℕ, Some, slice_get}
use Rattle.op_core.specs.Members.{InRun}
use Rattle.op_core.specs.Sound.{IsFounded, Row}
use Rattle.op_core.specs.Typing.{IsTyped, Sees}
use Rattle.op_core.specs.declared.ids.RoutineId.{RoutineId}
use Rattle.op_core.specs.declared.program.Core.{Core}
use Rattle.op_core.specs.declared.routine.Routine.{Routine}
use Rattle.op_check_expr.specs.Naming.{Denoted, Meant, built_in, routine, type_name, unit, value}
use Rattle.op_check_expr.specs.Scopes.{Here}
use Rattle.op_check_expr.specs.Values.{Value, computed, constant}
use Rattle.op_typed.specs.Standing.{AllStand, IsSoundConstant}

pub record IsSettled (sees : Sees) (here : Here) : Type 0 where
  pub founded : IsFounded here.core
  pub names : AllStand here.core sees here.visible
  pub own : (id : RoutineId) (r : Routine) → here.routine ≡ Some id → slice_get here.core.routines id.0 ≡ Some r → (n : ℕ) → InRun r.variables n → sees.variable (record { 0 = n })

-- a constant of its type, or a typed tree
abbrev pub IsSoundValue : Core → Sees → Value → Type 0
IsSoundValue core sees (constant c) = IsSoundConstant core c
IsSoundValue core sees (computed e) = IsTyped core sees e

-- what a name stands for is there, and may be named
abbrev pub IsThere : Core → Sees → Meant → Type 0
IsThere core sees (value v) = IsSoundValue core sees v
IsThere core sees (routine id) = sees.routine id × Row core.routines id.0
IsThere core sees (type_name of) = Row core.types of.0
IsThere core sees (unit name) = Unit {0}
IsThere core sees (built_in b) = Unit {0}

abbrev pub IsKnown : Core → Sees → Denoted → Type 0
IsKnown core sees d = IsThere core sees d.what
