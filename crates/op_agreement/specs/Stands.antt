-- When a state of low code stands for one of managed code.
use Rattle.std.specs.Prelude.{◌≡◌, ◌<◌, ◌≤◌, ◌⊎◌, ℕ, zero, suc, ◌+◌, ◌-◌, ◌^◌, ◌%◌, true, false, List, [], ◌∷◌, drop, length, map, Option, Some, None, slice_get, ℤ}
use Rattle.std.specs.List.{flat_map}
use Rattle.op_compute.specs.Bank.{scratch_of}
use Rattle.op_compute.specs.Meaning.{IsWordOf}
use Rattle.op_constants.specs.Literals.{instruction_literals, literals_of}
use Rattle.op_core.specs.declared.ids.RoutineId.{RoutineId}
use Rattle.op_expand.specs.Calls.{closing_number, finalizations, has_closing, left, receiver_of, result_address, runtime}
use Rattle.op_places.specs.Frames.{frame_of}
use Rattle.op_places.specs.Homes.{home_at, parameter}
use Rattle.op_expand.specs.Routines.{most_charge}
use Rattle.op_places.specs.declared.homes.Home.TheVariants.{Held}
use Rattle.op_low.specs.State.{Activation, Caller, State, Running, Ended, block_of, space}
use Rattle.op_low.specs.declared.instruction.Instruction.{Instruction as LowInstruction}
use Rattle.op_low.specs.declared.instruction.Instruction.TheVariants.{Exit, Jump}
use Rattle.op_meaning.specs.Expressions.{result_of}
use Rattle.op_meaning.specs.Frames.{Frame as WaitingFrame, Pending, closing, finalize}
use Rattle.op_meaning.specs.Items.{Receiver, nowhere, to_temp, to_place}
use Rattle.op_meaning.specs.Paths.{in_temporary}
use Rattle.op_meaning.specs.Shapes.{type_of_local}
use Rattle.op_meaning.specs.Values.{Value, Holder, local, temporary, Place, number_in}
use Rattle.op_meaning.specs.World.{Ending, Running as GoingOn, Ended as HasEnded}
use Rattle.op_mir.specs.Code.{Instr, make_due, ret}
use Rattle.op_mir.specs.Machine.{MirCaller, MirState}
use Rattle.op_mir.specs.Plain.{IsPlainWorld}
use Rattle.op_mir.specs.View.{routine_at, view_instruction, view_receiver}
use Rattle.op_mir.specs.declared.instruction.Instruction.{Instruction}
use Rattle.op_mir.specs.declared.instruction.Receiver.{Receiver as DeclaredReceiver}
use Rattle.op_rt_text.specs.Names.{block_id, register}
use Rattle.op_rv.specs.State.{word_at}
use Rattle.op_agreement.specs.Chart.{Floor, AllLie, IsAt}
use Rattle.op_agreement.specs.Fitting.{HasHeap, closing_space}
use Rattle.op_expand.specs.Routines.{code_of}
use Rattle.op_agreement.specs.Settings.{Setting, managed, FrameFits, HaveHomes, AreLiterals, IsExpanded, due_address}
use Rattle.op_agreement.specs.Typed.{IsVariable, AreFine, IsTypedReceiver}

-- ---- where code goes on

-- what is left of a block, in managed and in low code
pub record Position (g : Setting) (f : Floor) (rest : List Instr) (now : List LowInstruction) : Type 0 where
  pub is : List Instruction
  pub above : rest ≡ map (view_instruction g.core f.number) is
  pub below : now ≡ code_of g.core g.mir f.frame (literals_of g.core g.mir) is
  pub literals : AreLiterals (literals_of g.core g.mir) (flat_map (instruction_literals g.core f.number) is)
  pub fine : AreFine g.core g.mir f.number f.routine is
  pub homes : HaveHomes g.core f.number f.frame is

-- ---- activations

-- a routine of the program, which is charged no more than any stack has
pub record IsFloor (g : Setting) (f : Floor) : Type 0 where
  pub found : routine_at g.mir f.number ≡ Some f.routine
  pub charge : f.routine.charge ≤ most_charge
  pub framed : f.frame ≡ frame_of g.core f.number f.routine
  pub fits : FrameFits g.core f.number f.routine f.frame
  pub expanded : IsExpanded g f.number f.routine f.frame

-- what registers have of an activation with so many below it: its variables that are kept in registers, the addresses of what its
-- variable parameters stand for, and its temporaries that are one value
pub record AreKept (g : Setting) (floors : ℕ → Floor) (d : ℕ) (values : Holder → Value) (bound : ℕ → ℕ → Place) (temps : ℕ → ℤ) (registers : ℕ → ℕ) : Type 0 where
  pub variables : (v r : ℕ) → IsVariable g.core (floors d).number v false → home_at (floors d).frame.homes (record { 0 = v }) ≡ Held (record { 0 = r }) → IsWordOf (registers r) (number_in (values (local d v)))
  pub references : (v : ℕ) → IsVariable g.core (floors d).number v true → IsAt g floors d (bound d v) (type_of_local g.core (floors d).number v) (registers (parameter v))
  pub words : (v : ℕ) → IsVariable g.core (floors d).number v true → registers (parameter v) < 2 ^ 32
  pub temporaries : (t : ℕ) → t < (floors d).routine.temporaries → IsWordOf (registers ((floors d).frame.bank.temporaries + t)) (temps t)

-- An activation of managed code, with so many below it, and one of low code. Register 0 has the bytes of stack that are left, and there is
-- room for them and for run-time routines.
pub record ActivationStands (g : Setting) (floors : ℕ → Floor) (d : ℕ) (values : Holder → Value) (bound : ℕ → ℕ → Place) (temps : ℕ → ℤ) (routine : ℕ) (a : Activation) (limit room charged : ℕ) : Type 0 where
  pub floor : IsFloor g (floors d)
  pub number : (floors d).number ≡ routine
  pub same : a.routine ≡ runtime + (floors d).number
  pub kept : AreKept g floors d values bound temps a.registers
  pub left : a.registers 0 + charged ≡ g.stack
  pub base : limit ≡ (floors d).base + (floors d).frame.locals
  pub enough : a.registers 0 + 1024 ≤ room
  pub top : limit + room ≤ g.top

-- where a caller gets the result: in the register of a temporary, or at the address that the routine above has in register 1
abbrev pub ResultGoes : Setting → (ℕ → Floor) → (d : ℕ) → DeclaredReceiver → Receiver → Caller → (address : ℕ) → Type 0
ResultGoes g floors d declared nowhere c address = Unit {0}
ResultGoes g floors d declared (to_temp t) c address = t < (floors d).routine.temporaries
ResultGoes g floors d declared (to_place of path) c address =
    (n : ℕ) × (path ≡ record { root = in_temporary of n; steps = [] }) × IsAt g floors d (record { holder = temporary d of n; path = [] }) of address × (address < 2 ^ 32)

-- What waits while a finalization part is done: an activation on which the program ends with this status, and between the two the closing, which
-- knows the bytes of stack that are left and the status, and goes on by looking for the next part.
pub record ClosingWaits (g : Setting) (c : MirCaller) (l : Caller) (a : Activation) (status number : ℕ) : Type 0 where
  pub some : has_closing g.core ≡ true
  pub low : number < length g.core.routines
  pub frames : c.frames ≡ closing status ∷ []
  pub receiver : c.receiver ≡ nowhere
  pub result : result_of (slice_get g.core.routines number) ≡ None
  pub waiting : (t : ℕ) → c.waiting t ≡ None
  pub made : c.made ≡ []
  pub same : l.activation.routine ≡ closing_number g.core
  pub now : l.activation.now ≡ Jump (block_id 0) ∷ []
  pub left : l.activation.registers 0 ≡ a.registers 0
  pub told : l.activation.registers 1 % 2 ^ 8 ≡ status
  pub to : 2 ≤ l.to.0

-- The callers below an activation of a routine with this number and this address for its result. The program itself has none. A caller waits
-- for its call, or is one on which the program ends, with the closing above it.
abbrev pub CallersStand : Setting → (ℕ → Floor) → (Holder → Value) → (ℕ → ℕ → Place) → List MirCaller → List Caller → (number address limit room charged : ℕ) → Type 0
CallersStand g floors values bound [] [] number address limit room charged = (number ≡ length g.core.routines) × (limit ≡ g.bottom + (floors 0).frame.locals)
CallersStand g floors values bound (c ∷ cs) (l ∷ ls) number address limit room charged =
    ((below : ℕ) × (under : ℕ) × (spare : ℕ) × (declared : DeclaredReceiver)
    × (number < length g.core.routines)
    × (charged ≡ under + (managed g).charge number)
    × (limit ≡ below + (floors (suc (length cs))).frame.locals)
    × (spare ≡ room + space g.low g.placement (runtime + number))
    × (c.frames ≡ [])
    × (c.receiver ≡ view_receiver declared)
    × (l.to ≡ receiver_of (floors (length cs)).frame declared (scratch_of (floors (length cs)).frame.bank 0))
    × IsTypedReceiver g.core c.receiver (result_of (slice_get g.core.routines number))
    × ResultGoes g floors (length cs) declared c.receiver l address
    × ((t : ℕ) → c.waiting t ≡ None) × (c.made ≡ [])
    × Position g (floors (length cs)) c.work l.activation.now
    × ActivationStands g floors (length cs) values bound c.temps c.routine l.activation below spare under
    × CallersStand g floors values bound cs ls c.routine (l.activation.registers result_address.0) below spare under)
    ⊎ ((below : ℕ) × (under : ℕ) × (spare : ℕ) × (status : ℕ) × (a : Activation) × (ended : Caller) × (others : List Caller)
    × (ls ≡ ended ∷ others)
    × (charged ≡ under + (managed g).charge number)
    × (limit ≡ below + (floors (suc (length cs))).frame.locals)
    × (spare ≡ room + space g.low g.placement (runtime + number) + closing_space g)
    × ClosingWaits g c l a status number
    × ActivationStands g floors (length cs) values bound c.temps c.routine a below spare under
    × CallersStand g floors values bound cs others c.routine (a.registers result_address.0) below spare under)
CallersStand g floors values bound _ _ number address limit room charged = ⊥

-- ---- states

-- literals and the code stand as they were loaded
abbrev pub IsFixed : Setting → (ℕ → ℕ) → Type 0
IsFixed g memory = (x : ℕ) → x < g.bottom → g.placement.rights.writable x ≡ false → memory x ≡ g.loaded x

abbrev pub part_or : Option RoutineId → RoutineId
part_or None = record { 0 = 0 }
part_or (Some f) = f

-- the parts that are due are the first ones, the last one first
abbrev pub due_parts : List RoutineId → ℕ → List Pending
due_parts parts zero = []
due_parts parts (suc n) = finalize (part_or (slice_get parts n)) ∷ due_parts parts n

pub record ArePending (parts : List RoutineId) (pending : List Pending) : Type 0 where
  pub few : length pending ≤ length parts
  pub are : pending ≡ due_parts parts (length pending)

-- so many are counted in memory, by a word that tells the bytes of stack besides
abbrev pub IsCounted : Setting → ℕ → (ℕ → ℕ) → Type 0
IsCounted g n memory = has_closing g.core ≡ true → word_at memory (due_address g) ≡ g.stack + n

-- all but where the code goes on
pub record Stays (g : Setting) (floors : ℕ → Floor) (m : MirState) (l : State) : Type 0 where
  pub running : l.ending ≡ Running
  pub plain : IsPlainWorld m.world
  pub pending : ArePending (finalizations g.core) m.pending
  pub due : IsCounted g (length m.pending) l.memory
  pub depth : m.world.depth ≡ length m.callers
  pub activation : ActivationStands g floors (length m.callers) m.world.memory m.world.bound m.world.temps m.routine l.top l.limit l.room m.charged
  pub callers : CallersStand g floors m.world.memory m.world.bound m.callers l.callers m.routine (l.top.registers result_address.0) l.limit l.room m.charged
  pub lie : AllLie g floors (length m.callers) m.world.memory l.memory
  pub fixed : IsFixed g l.memory
  pub heap : HasHeap g l.memory
  pub bytes : (x : ℕ) → x < l.limit → l.memory x < 2 ^ 8
  pub output : l.output ≡ m.world.output
  pub errors : l.errors ≡ m.world.errors
  pub input : l.input ≡ m.world.input

-- both go on at the same place
pub record GoesOn (g : Setting) (m : MirState) (l : State) : Type 0 where
  pub floors : ℕ → Floor
  pub stays : Stays g floors m l
  pub position : Position g (floors (length m.callers)) m.work l.top.now

-- without finalization parts the program is about to end with the status that the low eight bits of register 0 have
pub record Closes (g : Setting) (status : ℕ) (m : MirState) (l : State) : Type 0 where
  pub running : l.ending ≡ Running
  pub raised : m.world.raised ≡ None
  pub pending : m.pending ≡ []
  pub rest : List LowInstruction
  pub now : l.top.now ≡ Exit left ∷ rest
  pub told : l.top.registers left.0 % 2 ^ 8 ≡ status
  pub output : l.output ≡ m.world.output
  pub errors : l.errors ≡ m.world.errors
  pub input : l.input ≡ m.world.input

-- The closing is under way, above the activation on which the program ends: the code of the last part that is due stands next, or the end.
abbrev pub closing_code : Setting → ℕ → List LowInstruction
closing_code g zero = Exit (register 1) ∷ []
closing_code g (suc n) = block_of g.low (closing_number g.core) (suc n)

pub record ClosingGoesOn (g : Setting) (status : ℕ) (m : MirState) (l : State) : Type 0 where
  pub some : has_closing g.core ≡ true
  pub floors : ℕ → Floor
  pub lower : State
  pub stays : Stays g floors m lower
  pub ended : Caller
  pub registers : ℕ → ℕ
  pub left : registers 0 ≡ lower.top.registers 0
  pub told : registers 1 % 2 ^ 8 ≡ status
  pub is : l ≡ record lower {
    top = record { routine = closing_number g.core; registers = registers; now = closing_code g (length m.pending) };
    callers = ended ∷ lower.callers;
    room = lower.room - closing_space g;
    ending = Running;
  }

-- both have ended, with the same status
pub record HaveEnded (status : ℕ) (m : MirState) (l : State) : Type 0 where
  pub ending : l.ending ≡ Ended status
  pub output : l.output ≡ m.world.output
  pub errors : l.errors ≡ m.world.errors
  pub input : l.input ≡ m.world.input

abbrev pub StandsBy : Setting → Ending → List WaitingFrame → MirState → State → Type 0
StandsBy g (HasEnded status) frames m l = HaveEnded status m l
StandsBy g GoingOn [] m l = GoesOn g m l
StandsBy g GoingOn (closing status ∷ []) m l = Closes g status m l ⊎ ClosingGoesOn g status m l
StandsBy g GoingOn _ m l = ⊥

abbrev pub Stands : Setting → MirState → State → Type 0
Stands g m l = StandsBy g m.world.ending m.frames m l

-- ---- what the program itself still makes due

abbrev pub dues_in : List Instr → List RoutineId
dues_in [] = []
dues_in (make_due f ∷ is) = f ∷ dues_in is
dues_in (ret ∷ is) = []
dues_in (i ∷ is) = dues_in is

-- what is left of the lowest activation's block
abbrev pub lowest_rest : List Instr → List MirCaller → List Instr
lowest_rest rest [] = rest
lowest_rest rest (c ∷ cs) = lowest_rest c.work cs

abbrev pub NoneCloses : List WaitingFrame → List MirCaller → Type 0
NoneCloses frames [] = frames ≡ []
NoneCloses frames (c ∷ cs) = (frames ≡ []) × NoneCloses c.frames cs

-- until the program ends the parts that are not due yet are those that it still makes due
abbrev pub AreStillDue : Setting → MirState → Type 0
AreStillDue g m = NoneCloses m.frames m.callers → dues_in (lowest_rest m.work m.callers) ≡ drop (length m.pending) (finalizations g.core)

abbrev pub StandsFor : Setting → MirState → State → Type 0
StandsFor g m l = AreStillDue g m × Stands g m l
