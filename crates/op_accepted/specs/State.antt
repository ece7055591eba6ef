-- What is shown of a state of the declarations: its tables, what its names stand for, and the trees that are made so far.
use Rattle.std.specs.Prelude.{◌≡◌, ◌≤◌, true, false, List, length, Option, None, IfSome}
use Rattle.std.specs.List.{All}
use Rattle.op_accepted.specs.Fit.{AreFitStatements, IfAny, IfTyped, IsFitConstant, IsFitHere, IsFitMeaning, IsFitTables}
use Rattle.op_base.specs.declared.rule.Refusal.{Refusal}
use Rattle.op_check_expr.specs.Scopes.{Here as Scope}
use Rattle.op_check_stmt.specs.Statement.{statements}
use Rattle.op_check_unit.specs.Steps.{Given, Here}
use Rattle.op_check_unit.specs.Types.{constant_part}
use Rattle.op_check_unit.specs.declared.uses.Export.{Export}
use Rattle.op_core.specs.Faults.{IsIn}
use Rattle.op_core.specs.Growing.{IsFrontOf, Stay}
use Rattle.op_core.specs.Initial.{FirstValue}
use Rattle.op_core.specs.Members.{There}
use Rattle.op_core.specs.Statement.{Statements}
use Rattle.op_core.specs.declared.ids.RoutineId.{RoutineId}
use Rattle.op_core.specs.declared.ids.VariableId.{VariableId}
use Rattle.op_core.specs.declared.program.Core.{Core}
use Rattle.op_core.specs.declared.routine.Owner.TheVariants.{Unit as OfUnit}
use Rattle.op_core.specs.declared.routine.Routine.{Routine}
use Rattle.op_core.specs.declared.routine.Variable.{Variable}
use Rattle.op_judgement.specs.Judgement.{checked}
use Rattle.op_meaning.specs.Shapes.{is_reference}
use Rattle.op_plain.specs.Plain.{is_plain_role, is_plain_unit}
use Rattle.op_tree.specs.Expression.{Expression}
use Rattle.op_tree.specs.Statement.{Statements as Tree}
use Rattle.op_types.specs.Names.{Named}
use Rattle.op_typing.specs.SimpleTests.{is_none}

-- ---- rows

-- the row of a variable, whose first value stands beside it
pub record IsPlainRow (v : Variable) : Type 0 where
  pub role : is_plain_role v.role ≡ true
  pub bare : v.first_value ≡ None

-- the row of a routine that stands in no other one, whose body stands beside it
pub record IsOuterRow (r : Routine) : Type 0 where
  pub owner : r.owner ≡ OfUnit
  pub enclosing : r.enclosing ≡ None
  pub parameters : r.parameters.count ≤ 64
  pub bare : r.body ≡ None

-- a variable with a first value stands for no other one
abbrev pub IsOfItself : Core → VariableId × FirstValue → Type 0
IsOfItself core b = There core.variables b.0.0 (λ v. is_reference v.role ≡ false)

-- ---- states

abbrev pub AreFitNames : Core → List Named → Type 0
AreFitNames core names = All (λ n. IsFitMeaning core n.meaning) names

abbrev pub IsFitExport : Core → Option Export → Type 0
IsFitExport core e = IfSome e (λ e. AreFitNames core e.names)

-- a program so far, the names that are visible, and the bodies and first values beside it
pub record IsFit (core : Core) (visible : List Named) (made : List (RoutineId × Statements)) (begun : List (VariableId × FirstValue)) : Type 0 where
  pub tables : IsFitTables core
  pub exceptions : core.exceptions ≡ None
  pub variables : All IsPlainRow core.variables
  pub routines : All IsOuterRow core.routines
  pub units : All (λ u. is_plain_unit core u ≡ true) core.units
  pub names : AreFitNames core visible
  pub bodies : All (λ b. AreFitStatements core b.1) made
  pub values : All (IsOfItself core) begun

abbrev pub IsFitState : Here → Type 0
IsFitState h = IsFit h.core h.names h.bodies h.first_values

-- ---- steps

-- it gives something where the other one does
abbrev pub GivesAlike : Routine → Routine → Type 0
GivesAlike r s = is_none s.result ≡ is_none r.result

-- rows are put behind those of types and variables, and a routine may get another row
pub record IsLater (old new : Core) : Type 0 where
  pub types : IsFrontOf old.types new.types
  pub variables : IsFrontOf old.variables new.variables
  pub routines : Stay GivesAlike old.routines new.routines
  pub units : length new.units ≡ length old.units

-- A part of a declaration leaves a fit state, with a meaning of which this holds if it has any; or a rule is broken.
pub data Keeps {A : Type 0} (P : A → Core → Type 0) (old : Core) (g : Given A) : Type 0 where
  kept : IsFitState g.here → IsLater old g.here.core → IfAny (λ a. P a g.here.core) g.typed → Keeps P old g
  faulty : (r : Refusal) → IsIn r g.faults → Keeps P old g

-- ---- what is shown of trees

-- of the statements of bodies, and of constants in declarations
pub record AreTreesFit : Type 0 where
  pub body : (here : Scope) → IsFitHere here → (ss : Tree) → IfTyped (AreFitStatements here.core) (checked (statements here ss))
  pub grow : (old new : Core) → IsFrontOf old.types new.types → (ss : Statements) → AreFitStatements old ss → AreFitStatements new ss
  pub constant : (core : Core) (visible : List Named) → IsFitTables core → AreFitNames core visible → (e : Expression) → IfTyped (λ c. IsFitConstant core c.value c.of) (checked (constant_part core visible e))
