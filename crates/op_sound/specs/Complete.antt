-- What is declared where no rule is broken: every name stands for what is there, every row is sound, and every routine has its body.
use Rattle.std.specs.Prelude.{◌≡◌, ◌⊎◌, ◌+◌, ◌<◌, ◌≤◌, ℕ, zero, suc, List, [], ◌∷◌, ◌++◌, drop, length, take, is_some, IfSome, IsSomeAnd, IsTrue, Option, Some, None}
use Rattle.std.specs.List.{All, Contains, filter}
use Rattle.op_base.specs.declared.place.Place.{Place}
use Rattle.op_base.specs.declared.rule.Refusal.{Refusal}
use Rattle.op_check_unit.specs.Declaring.{most_global_bytes}
use Rattle.op_check_unit.specs.Routines.{most_bytes}
use Rattle.op_check_unit.specs.Steps.{Given, Here}
use Rattle.op_sound.specs.Tables.{IsTabled}
use Rattle.op_check_unit.specs.declared.uses.Export.{Export}
use Rattle.op_core.specs.Faults.{IsIn}
use Rattle.op_core.specs.Growing.{IsFrontOf}
use Rattle.op_core.specs.Initial.{FirstValue}
use Rattle.op_core.specs.Members.{InRun, There}
use Rattle.op_core.specs.Relations.{Always, Filled}
use Rattle.op_core.specs.Rows.{rows}
use Rattle.op_core.specs.Sizes.{type_at}
use Rattle.op_core.specs.Sound.{Fit, HasRows, IsFirst, Row, at_start, bytes_of, globals_of, is_declared, is_of_block}
use Rattle.op_core.specs.Statement.{Statements}
use Rattle.op_core.specs.StatementTyping.{AreStatements}
use Rattle.op_core.specs.Typing.{Sees}
use Rattle.op_core.specs.declared.ids.RoutineId.{RoutineId}
use Rattle.op_core.specs.declared.ids.VariableId.{VariableId}
use Rattle.op_core.specs.declared.program.Core.{Core}
use Rattle.op_core.specs.declared.program.Unit.{Unit as RustUnit}
use Rattle.op_core.specs.declared.routine.Owner.TheVariants.{Unit as OfUnit}
use Rattle.op_core.specs.declared.routine.Routine.{Routine}
use Rattle.op_core.specs.declared.routine.Variable.{Variable}
use Rattle.op_types.specs.Names.{Named}
use Rattle.op_typed.specs.Standing.{AllStand}

-- ---- scopes

-- the scope of a body, by its first variable, and the names and bytes of the scope round it
pub record Inside : Type 0 where
  pub first : ℕ
  pub names : ℕ
  pub bytes : ℕ

-- What stands round a unit: what units export; the globals of interface parts that are not in the table yet, since their units come later; and
-- how many globals there are of the units before it.
pub record Around : Type 0 where
  pub exports : List (Option Export)
  pub apart : List VariableId
  pub start : ℕ

-- what is under way: in what it stands, the routine whose body comes, and the scope of a body
pub record Stage : Type 0 where
  pub around : Around
  pub current : Option ℕ
  pub inside : Option Inside

-- outside of bodies
abbrev pub outside : Around → Option ℕ → Stage
outside around current = record { around = around; current = current; inside = None }

-- in the table, or not yet
abbrev pub IsGlobalOf : List VariableId → Core → VariableId → Type 0
IsGlobalOf apart core v = Contains core.globals v ⊎ Contains apart v

-- globals and, in a body, the variables from its first one on; and routines
abbrev pub scope : List VariableId → Option Inside → Core → Sees
scope apart inside core = record { variable = λ v. IsGlobalOf apart core v ⊎ IsSomeAnd inside (λ i. i.first ≤ v.0); routine = λ r. Row core.routines r.0 }

-- globals and the routine's variables
abbrev pub scope_of : List VariableId → Core → Routine → Sees
scope_of apart core r = record { variable = λ v. IsGlobalOf apart core v ⊎ InRun r.variables v.0; routine = λ x. Row core.routines x.0 }

-- the variables that are declared in a scope
abbrev pub declared_in : Option Inside → Core → List Variable
declared_in None core = globals_of core
declared_in (Some i) core = filter (λ v. is_declared v.role) (drop i.first core.variables)

-- so many bytes are counted for them, unless there are too many
abbrev pub Counts : Core → Option Inside → ℕ → Type 0
Counts core inside bytes = bytes ≤ most_global_bytes → bytes_of core (declared_in inside core) ≤ bytes

-- the scope round a body is left as it was
pub record IsInside (apart : List VariableId) (core : Core) (ns : List Named) (i : Inside) : Type 0 where
  pub first : i.first ≤ length core.variables
  pub names : i.names ≤ length ns
  pub stand : AllStand core (scope apart None core) (take i.names ns)
  pub counts : Counts core None i.bytes

-- ---- rows

abbrev pub IsBareVariable : Core → Variable → Type 0
IsBareVariable core v = Row core.types v.of.0 × (v.first_value ≡ None)

-- a routine without its body
pub record IsBareRoutine (core : Core) (r : Routine) : Type 0 where
  pub unit : Row core.units r.unit.0
  pub owner : r.owner ≡ OfUnit
  pub enclosing : r.enclosing ≡ None
  pub body : r.body ≡ None
  pub runs : Fit core.parameters r.parameters × Fit core.variables r.variables
  pub result : IfSome r.result (λ of. Row core.types of.0)
  pub locals : bytes_of core (filter (λ v. is_declared v.role) (rows core.variables r.variables)) ≤ most_bytes

pub record IsPeopled (core : Core) : Type 0 where
  pub parameters : All (λ p. Row core.types p.of.0) core.parameters
  pub variables : All (IsBareVariable core) core.variables
  pub routines : All (IsBareRoutine core) core.routines
  pub globals : All (λ v. Row core.variables v.0) core.globals
  pub room : bytes_of core (globals_of core) ≤ most_global_bytes

-- ---- bodies and first values

-- the statements of a routine, whose variables have their rows
abbrev pub IsTypedBody : List VariableId → Core → RoutineId × Statements → Type 0
IsTypedBody apart core b = There core.routines b.0.0 (λ r. HasRows core r × AreStatements core (scope_of apart core r) (at_start r) b.1)

abbrev pub IsTypedFirst : Core → VariableId × FirstValue → Type 0
IsTypedFirst core b = There core.variables b.0.0 (λ v. IsSomeAnd (type_at core v.of) (λ t. IsFirst core t v.of b.1))

abbrev pub IsAwaited : List (Option Place) → ℕ → Type 0
IsAwaited [] n = ⊥
IsAwaited (p ∷ ps) zero = Filled Always p
IsAwaited (p ∷ ps) (suc n) = IsAwaited ps n

abbrev pub HasBody : List (RoutineId × Statements) → ℕ → Type 0
HasBody [] n = ⊥
HasBody (b ∷ bs) n = (b.0.0 ≡ n) ⊎ HasBody bs n

-- the body of a routine is under way, or awaited
abbrev pub IsOpen : Option ℕ → List (Option Place) → ℕ → Type 0
IsOpen current places n = (current ≡ Some n) ⊎ IsAwaited places n

-- ---- units

-- a part of a unit is a procedure, whose body has come
abbrev pub IsDonePart : Core → Option ℕ → List (Option Place) → RoutineId → Type 0
IsDonePart core current places p = There core.routines p.0 (λ r. r.parameters.count ≡ 0) × (IsOpen current places p.0 → ⊥)

-- its globals stand in front of those of the units behind it
pub record IsDone (core : Core) (start : ℕ) (current : Option ℕ) (places : List (Option Place)) (u : RustUnit) : Type 0 where
  pub globals : u.globals.first + u.globals.count ≤ start
  pub initialization : IfSome u.initialization (IsDonePart core current places)
  pub finalization : IfSome u.finalization (IsDonePart core current places)

-- what a unit exports is seen outside of bodies, and its global variables are there
pub record IsExported (apart : List VariableId) (core : Core) (e : Export) : Type 0 where
  pub unit : Row core.units e.id.0
  pub names : AllStand core (scope apart None core) e.names
  pub globals : All (λ v. Row core.variables v.0) e.globals

-- if the unit's interface part is declared
abbrev pub IsShown : List VariableId → Core → Option Export → Type 0
IsShown apart core e = IfSome e (IsExported apart core)

-- ---- states

pub record Settled (s : Stage) (h : Here) : Type 0 where
  pub tables : IsTabled h.core
  pub people : IsPeopled h.core
  pub unit : Row h.core.units h.unit.0
  pub rows : length s.around.exports < length h.core.units
  pub units : All (IsDone h.core s.around.start s.current h.awaited) h.core.units
  pub exports : All (IsShown s.around.apart h.core) s.around.exports
  pub start : s.around.start ≤ length h.core.globals
  pub names : AllStand h.core (scope s.around.apart s.inside h.core) h.names
  pub first : h.first ≤ length h.names
  pub counts : Counts h.core s.inside h.bytes
  pub routine : is_some h.routine ≡ is_some s.inside
  pub inside : IfSome s.inside (IsInside s.around.apart h.core h.names)
  pub current : IfSome s.current (λ n. (n < length h.core.routines) × (IsAwaited h.awaited n → ⊥))
  pub awaits : length h.awaited ≡ length h.core.routines
  pub accounted : (n : ℕ) → n < length h.core.routines → IsOpen s.current h.awaited n ⊎ HasBody h.bodies n
  pub bodies : All (λ b. IsTypedBody s.around.apart h.core b × (IsOpen s.current h.awaited b.0.0 → ⊥)) h.bodies
  pub values : All (IsTypedFirst h.core) h.first_values

-- rows that a block declares stand behind the others
pub record WithBlockRows (old new : List Variable) : Type 0 where
  pub more : List Variable
  pub is : new ≡ old ++ more
  pub of_block : All (λ v. IsTrue (is_of_block v.role)) more

-- what a part that is no routine does to tables
pub record Later (old new : Core) : Type 0 where
  pub types : IsFrontOf old.types new.types
  pub parameters : IsFrontOf old.parameters new.parameters
  pub variables : WithBlockRows old.variables new.variables
  pub globals : IsFrontOf old.globals new.globals
  pub routines : new.routines ≡ old.routines

-- a part that means something and leaves a state of which this is so, or a rule that is broken
pub data From {A : Type 0} (R : A → Here → Type 0) (g : Given A) : Type 0 where
  settled : Filled (λ a. R a g.here) g.typed → From R g
  faulty : (r : Refusal) → IsIn r g.faults → From R g

-- what a part that begins in a state means, and that it leaves a settled one
pub record Leads {A : Type 0} (s : Stage) (h : Here) (P : A → Core → Type 0) (a : A) (i : Here) : Type 0 where
  pub state : Settled s i
  pub later : Later h.core i.core
  pub so : P a i.core
