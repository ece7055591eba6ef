-- The state of a program that runs: the activation under way with what is still to be done in it, the activations that wait for it,
-- and on each of them what has to be ended before it goes on. (Free Pascal Reference Guide, "Using functions and procedures",
-- "Managed types", "Class destruction", "Exceptions" and "Programs, units, blocks".)
use Rattle.std.specs.Prelude.{ℕ, ◌+◌, ◌-◌, min, Bool, List, ◌∷◌, Option, Some, None, slice_get, nat_lt, if◌then◌else◌, ℤ}
use Rattle.std.specs.Option.{option_map}
use Rattle.op_core.specs.Initial.{FirstValue, first_value_of}
use Rattle.op_core.specs.Statement.{Statements, no_statements, stmts_of}
use Rattle.op_core.specs.declared.ids.ClassId.{ClassId}
use Rattle.op_core.specs.declared.ids.RoutineId.{RoutineId}
use Rattle.op_core.specs.declared.ids.TypeId.{TypeId}
use Rattle.op_core.specs.declared.ids.VariableId.{VariableId}
use Rattle.op_core.specs.declared.operation.Dispatch.{Dispatch}
use Rattle.op_core.specs.declared.program.Core.{Core}
use Rattle.op_core.specs.declared.routine.Body.{Body}
use Rattle.op_core.specs.declared.routine.Routine.{Routine}
use Rattle.op_core.specs.declared.routine.Variable.{Variable}
use Rattle.op_meaning.specs.Charge.{charge_of, most}
use Rattle.op_semantics.specs.Errors.{failed}
use Rattle.op_semantics.specs.Items.{Task, Receiver}
use Rattle.op_meaning.specs.Values.{Value, Place, Spot, Reached, reached, failing}
use Rattle.op_semantics.specs.World.{World, Temporary}

-- ---- programs

-- the tables of a program, the statements of each routine, what variables begin with, what an activation of each routine is charged,
-- and the bytes of stack that all activations have together
pub record Program : Type 0 where
  pub core : Core
  pub body : ℕ → Statements
  pub first : ℕ → Option FirstValue
  pub charge : ℕ → ℕ
  pub stack : ℕ

abbrev statements_in : Option Body → Statements
statements_in None = no_statements
statements_in (Some b) = stmts_of b.statements.items

abbrev body_in : Option Routine → Statements
body_in None = no_statements
body_in (Some r) = statements_in r.body

abbrev first_in : Option Variable → Option FirstValue
first_in None = None
first_in (Some v) = option_map (λ i. first_value_of i.value) v.first_value

-- a typed program with a stack of so many bytes; a charge above the greatest number of 64 bits counts as that number
abbrev pub program_of : Core → ℕ → Program
program_of core stack = record {
  core = core;
  body = λ r. body_in (slice_get core.routines r);
  first = λ v. first_in (slice_get core.variables v);
  charge = λ r. min (charge_of core (record { 0 = r })) most;
  stack = stack;
}

-- ---- frames

-- what started a destruction
pub data Started : Type 0 where
  by_free : Started
  by_loss : Started
  by_constructor : Started
  by_handler : Started

-- what is called: a routine; a constructor that makes an instance of a class; or a method of the instance that is handed over first
pub data Callee : Type 0 where
  a_routine : (routine : ℕ) → Callee
  a_maker : (class : ClassId) → (routine : ℕ) → Callee
  a_method : (routine : ℕ) → (dispatch : Dispatch) → (of : TypeId) → Callee

-- what is handed over: a value, or what a variable parameter stands for
pub data Handed : Type 0 where
  a_value : (value : Value) → Handed
  a_place : (place : Place) → Handed

-- What a walk ends the parts of: a part of something else; an array that was lost, which is gone when its walk is done; or the temporary
-- that was made last, which holds its parts until then.
pub data Over : Type 0 where
  a_part : Over
  an_array : (name : ℕ) → Over
  a_temporary : Over

-- What has to be done before the activation below goes on. An exception that waits in a frame is under way again when the frame is
-- done.
pub data Frame : Type 0 where
  -- the places still to be ended, which keep their values until then
  walk : (places : List Spot) → (over : Over) → (waits : Option ℕ) → Frame
  -- of an instance: whether Destroy was entered, and the fields still to be ended
  destruction : (instance : ℕ) → (started : Started) → (entered : Bool) → (places : List Spot) → (waits : Option ℕ) → Frame
  -- a walk or a destruction that is not charged yet
  uncharged : (frame : Frame) → Frame
  -- a call goes on: the places still to be emptied, and then what is called
  calling : (callee : Callee) → (receiver : Receiver) → (given : List Handed) → (outs : List Spot) → Frame
  -- its constructor is called, or under way
  construction : (instance : ℕ) → Frame
  -- the program ends with this status
  closing : (status : ℕ) → Frame

-- an activation that waits for the one above it, with its temporaries, what is still to be done in it, where a result goes, and the
-- frames on it; the same for each machine that runs a program, by what it has to do
pub record CallerOver (Work : Type 0) : Type 0 where
  pub routine : ℕ
  pub temps : ℕ → ℤ
  pub waiting : ℕ → Option ℕ
  pub made : List Temporary
  pub work : Work
  pub receiver : Receiver
  pub frames : List Frame

-- what the closing still has to do
pub data Pending : Type 0 where
  finalize : (routine : RoutineId) → Pending
  empty_global : (variable : VariableId) → Pending

-- The state of a machine that runs a program, by what it has to do and what it counts. The activation that everything else stands on is the
-- program itself: it has no variables, and enters the parts of the units.
pub record StateOver (Work Counts : Type 0) : Type 0 where
  pub world : World
  pub routine : ℕ
  -- what is still to be done in the activation under way
  pub work : Work
  -- on the activation under way, the one that acts first
  pub frames : List Frame
  pub callers : List (CallerOver Work)
  pub pending : List Pending
  -- the charges of all activations, walks and destructions
  pub charged : ℕ
  -- how many places hold each name, where a machine counts them
  pub counts : Counts

-- the source machine has tasks to do, and counts nothing
abbrev pub Caller : Type 0
Caller = CallerOver (List Task)

abbrev pub State : Type 0
State = StateOver (List Task) (Unit {0})

-- What a machine goes by, beside its state: the program, what is to be done in each routine, by how many places a name is held, and what
-- becomes of the state where it is held by one place more, or by one less.
pub record Rules (Work Counts : Type 0) : Type 0 where
  pub program : Program
  pub body : ℕ → Work
  pub number : StateOver Work Counts → ℕ → ℕ
  pub more : ℕ → StateOver Work Counts → StateOver Work Counts
  pub less : ℕ → StateOver Work Counts → StateOver Work Counts

abbrev pub with_work : {Work Counts : Type 0} → Work → StateOver Work Counts → StateOver Work Counts
with_work work s = record s { work = work }

abbrev pub with_world : {Work Counts : Type 0} → World → StateOver Work Counts → StateOver Work Counts
with_world w s = record s { world = w }

abbrev pub with_frames : {Work Counts : Type 0} → List Frame → StateOver Work Counts → StateOver Work Counts
with_frames frames s = record s { frames = frames }

-- the error with this number
abbrev pub fails : {Work Counts : Type 0} → Program → ℕ → StateOver Work Counts → StateOver Work Counts
fails p n s = with_world (failed p.core n s.world) s

-- what is done with what is come to, or the error that is met on the way
abbrev pub at_reached : {A Work Counts : Type 0} → Program → Reached A → (A → StateOver Work Counts) → StateOver Work Counts → StateOver Work Counts
at_reached p (reached x) f s = f x
at_reached p (failing error) f s = fails p error s

-- ---- charges

-- what a walk and a destruction are charged
abbrev pub frame_charge : ℕ
frame_charge = 64

-- error 202 comes exactly where a push would make the sum of the charges pass the stack
abbrev pub charged_for : {Work Counts : Type 0} → Program → ℕ → StateOver Work Counts → (StateOver Work Counts → StateOver Work Counts) → StateOver Work Counts
charged_for p bytes s push = if nat_lt p.stack (s.charged + bytes) then fails p 202 s else push (record s { charged = s.charged + bytes })

abbrev pub discharged : {Work Counts : Type 0} → ℕ → StateOver Work Counts → StateOver Work Counts
discharged bytes s = record s { charged = s.charged - bytes }

-- a walk or a destruction is put on top, and the exception under way waits in it; its first step takes its charge
abbrev pub pushed : {Work Counts : Type 0} → (Option ℕ → Frame) → StateOver Work Counts → StateOver Work Counts
pushed frame s = with_frames (uncharged (frame s.world.raised) ∷ s.frames) (with_world (record s.world { raised = None }) s)

-- a walk or a destruction is done, and what waits in it is under way again
abbrev pub popped : {Work Counts : Type 0} → Option ℕ → List Frame → StateOver Work Counts → StateOver Work Counts
popped waits rest s = with_frames rest (with_world (record s.world { raised = waits }) (discharged frame_charge s))
