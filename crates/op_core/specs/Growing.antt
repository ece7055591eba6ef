-- When a program grows: rows are put behind others, and a routine that is declared ahead gets the row of its body's heading.
use Rattle.std.specs.Prelude.{◌≡◌, List, ◌++◌, IsTrue}
use Rattle.op_core.specs.Heading.{same_parameters, same_result}
use Rattle.op_core.specs.Members.{There}
use Rattle.op_core.specs.Rows.{rows}
use Rattle.op_core.specs.Sound.{Each}
use Rattle.op_core.specs.Typing.{Sees}
use Rattle.op_core.specs.declared.ids.RoutineId.{RoutineId}
use Rattle.op_core.specs.declared.ids.VariableId.{VariableId}
use Rattle.op_core.specs.declared.program.Core.{Core}
use Rattle.op_core.specs.declared.routine.Routine.{Routine}
use Rattle.op_core.specs.declared.routine.Variable.{Variable}

-- the second table begins with the first one
pub record IsFrontOf {A : Type 0} (old new : List A) : Type 0 where
  pub more : List A
  pub is : new ≡ old ++ more

-- each row stays where it is, or one like it takes its place
pub record Stay {A : Type 0} (R : A → A → Type 0) (old new : List A) : Type 0 where
  pub each : Each old (λ n a. There new n (R a))

pub record SameVariable (v w : Variable) : Type 0 where
  pub of : w.of ≡ v.of
  pub role : w.role ≡ v.role

-- they are called alike
pub record SameRoutine (old new : Core) (r s : Routine) : Type 0 where
  pub owner : s.owner ≡ r.owner
  pub kind : s.kind ≡ r.kind
  pub result : IsTrue (same_result new.types r.result s.result)
  pub parameters : IsTrue (same_parameters new.types (rows old.parameters r.parameters) (rows new.parameters s.parameters))

pub record Grows (old new : Core) : Type 0 where
  pub types : IsFrontOf old.types new.types
  pub extents : IsFrontOf old.extents new.extents
  pub fields : IsFrontOf old.fields new.fields
  pub parameters : IsFrontOf old.parameters new.parameters
  pub variables : Stay SameVariable old.variables new.variables
  pub routines : Stay (SameRoutine old new) old.routines new.routines
  pub classes : new.classes ≡ old.classes
  pub interfaces : new.interfaces ≡ old.interfaces
  pub listed : new.listed ≡ old.listed
  pub methods : new.methods ≡ old.methods
  pub exceptions : new.exceptions ≡ old.exceptions

-- what may be named there may be named here
pub record SeesMore (less more : Sees) : Type 0 where
  pub variable : (v : VariableId) → less.variable v → more.variable v
  pub routine : (r : RoutineId) → less.routine r → more.routine r
