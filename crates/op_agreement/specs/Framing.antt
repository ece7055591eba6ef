-- What is asked of a routine's variables, and of what its code needs an address of, for its frame to fit.
use Rattle.std.specs.Prelude.{◌≡◌, ◌<◌, ℕ, true, false, Some, length, slice_get}
use Rattle.std.specs.List.{All, list_any}
use Rattle.op_constants.specs.Arranged.{IsSmall}
use Rattle.op_core.specs.Rows.{rows}
use Rattle.op_core.specs.declared.ids.TypeId.{TypeId}
use Rattle.op_core.specs.declared.program.Core.{Core}
use Rattle.op_places.specs.Frames.{parameters_of}
use Rattle.op_places.specs.Homes.{is_one_root, roots_of}
use Rattle.op_meaning.specs.Expressions.{result_of}
use Rattle.op_meaning.specs.Shapes.{type_of_local, variables_of}
use Rattle.op_mir.specs.declared.action.Action.TheVariants.{Constant, Load, Store, Copy, Look, BeginWith, Pick, Compute, Do}
use Rattle.op_mir.specs.declared.action.Action.{Action}
use Rattle.op_mir.specs.declared.code.Routine.{Routine}
use Rattle.op_mir.specs.declared.ids.LocalId.{LocalId}
use Rattle.op_mir.specs.declared.instruction.Given.TheVariants.{ByValue, ByPlace, ByCopy}
use Rattle.op_mir.specs.declared.instruction.Given.{Given}
use Rattle.op_mir.specs.declared.instruction.Instruction.TheVariants.{Act, Call, Jump, When, Unless, Switch, Dispatch, MakeDue, OpenTemporaries, EndTemporary, Stop, Return}
use Rattle.op_mir.specs.declared.instruction.Instruction.{Instruction}
use Rattle.op_mir.specs.declared.instruction.Receiver.TheVariants.{Nowhere, Temporary as ToTemporary, Place}
use Rattle.op_mir.specs.declared.instruction.Receiver.{Receiver}
use Rattle.op_mir.specs.declared.path.Root.TheVariants.{Global, Local, Through, Temporary}
use Rattle.op_mir.specs.declared.path.Root.{Root}
use Rattle.op_agreement.specs.Typed.{IsVariable}

-- The rows of a routine's variables fit its code.
pub record HasVariables (core : Core) (r : ℕ) (x : Routine) : Type 0 where
  -- the table has a row for each variable
  pub there : length (rows core.variables (variables_of core r)) ≡ (variables_of core r).count
  -- references stand among the parameters, which come first
  pub references : (v : ℕ) → IsVariable core r v true → v < parameters_of core r
  -- every other variable has a type whose values are small
  pub variables : (v : ℕ) → IsVariable core r v false → IsSmall core (type_of_local core r v)
  -- and so has every temporary of a record or array type that the code names
  pub temporaries : (of : TypeId) (n : ℕ) → list_any (is_one_root (Temporary of n)) (roots_of x) ≡ true → IsSmall core of
  -- what the code gives by place as a variable of the routine's own is one, and no reference
  pub places : (v : LocalId) → list_any (is_one_root (Local v)) (roots_of x) ≡ true → IsVariable core r v.0 false

-- ---- what code may name, instruction by instruction: also code that nothing comes to is asked, since it takes room in the frame

-- a temporary of a type whose values are small, and a variable that is no reference
abbrev pub MayBeNamed : Core → (r : ℕ) → Root → Type 0
MayBeNamed core r (Global v) = Unit {0}
MayBeNamed core r (Local v) = IsVariable core r v.0 false
MayBeNamed core r (Through v) = Unit {0}
MayBeNamed core r (Temporary of n) = IsSmall core of

abbrev pub MayBeGiven : Core → (r : ℕ) → Given → Type 0
MayBeGiven core r (ByValue kind t) = Unit {0}
MayBeGiven core r (ByPlace path) = MayBeNamed core r path.root
MayBeGiven core r (ByCopy of path) = MayBeNamed core r path.root

abbrev pub MayReceive : Core → (r : ℕ) → Receiver → Type 0
MayReceive core r Nowhere = Unit {0}
MayReceive core r (ToTemporary t) = Unit {0}
MayReceive core r (Place of to) = MayBeNamed core r to.root

abbrev pub MayAct : Core → (r : ℕ) → Action → Type 0
MayAct core r (Constant to n) = Unit {0}
MayAct core r (Load to kind from) = MayBeNamed core r from.root
MayAct core r (Store to kind from) = MayBeNamed core r to.root
MayAct core r (Copy of to from) = MayBeNamed core r to.root × MayBeNamed core r from.root
MayAct core r (Look at) = MayBeNamed core r at.root
MayAct core r (BeginWith v) = Unit {0}
MayAct core r (Pick to text index) = Unit {0}
MayAct core r (Compute c) = Unit {0}
MayAct core r (Do p operands to) = Unit {0}

abbrev pub NamesFit : Core → (r : ℕ) → Instruction → Type 0
NamesFit core r (Act a landing) = MayAct core r a
NamesFit core r (Call id call) = All (MayBeGiven core r) call.given × MayReceive core r call.receiver
NamesFit core r (Jump block) = Unit {0}
NamesFit core r (When t block) = Unit {0}
NamesFit core r (Unless t block) = Unit {0}
NamesFit core r (Switch t arms) = Unit {0}
NamesFit core r (Dispatch t block) = Unit {0}
NamesFit core r (MakeDue f) = Unit {0}
NamesFit core r (OpenTemporaries ts) = Unit {0}
NamesFit core r (EndTemporary t) = Unit {0}
NamesFit core r (Stop t) = Unit {0}
NamesFit core r Return = Unit {0}

-- no routine has a result of a type whose values are not small
abbrev pub AreSmallResults : Core → Type 0
AreSmallResults core = (q : ℕ) (of : TypeId) → result_of (slice_get core.routines q) ≡ Some of → IsSmall core of
