-- What low code does: a step of its machine, one line an instruction.
use Rattle.std.specs.Prelude.{◌≡◌, ◌≢◌, ◌<◌, ℕ, ◌+◌, ◌-◌, ◌%◌, ◌^◌, Bool, ◌&&◌, Option, Some, None, List, [], ◌∷◌, ◌++◌, length, take, drop, replicate, slice_index, nat_eq, nat_lt, nat_le, if◌then◌else◌}
use Rattle.std.specs.Int.{bytes_low_first}
use Rattle.op_rv.specs.State.{with_bytes, bytes_from, all_from}
use Rattle.op_rv.specs.Operation.{word_from, alu_value, imm_value, shift_value, branch_taken}
use Rattle.op_rv.specs.Step.{can_access, offset_from, load_size_of, load_value, store_size_of}
use Rattle.op_rv.specs.declared.instruction.LoadOp.{LoadOp}
use Rattle.op_rv.specs.declared.instruction.StoreOp.{StoreOp}
use Rattle.op_simulation.specs.System.{System, Always}
use Rattle.op_low.specs.State.{Placement, Activation, Caller, State, Ending, Running, Ended, Bad, routine_of, block_of, value, values, with_value, keep, bad, jump, landed, usable, space}
use Rattle.op_low.specs.declared.code.Low.{Low}
use Rattle.op_rv.specs.declared.symbol.RoutineId.{RoutineId}
use Rattle.op_rv.specs.declared.symbol.Symbol.{Symbol}
use Rattle.op_rv.specs.declared.symbol.Symbol.TheVariants.{Routine}
use Rattle.op_low.specs.declared.ids.VirtualRegister.{VirtualRegister}
use Rattle.op_low.specs.declared.instruction.Call.{Call as Operands}
use Rattle.op_low.specs.declared.instruction.Instruction.{Instruction}
use Rattle.op_low.specs.declared.instruction.Instruction.TheVariants.{Const, Address, Local, Move, Alu, AluImm, Shift, Load, Store, Call, CallAt, Branch, Jump, Return, Raise, Read, Write, Exit}
use Rattle.op_low.specs.declared.instruction.Output.{Output}
use Rattle.op_low.specs.declared.instruction.Output.TheVariants.{Console, Errors}

-- what a step shows
pub data Event : Type 0 where
  Written : (output : Output) → (bytes : List ℕ) → Event
  Taken : (bytes : List ℕ) → Event

-- ---- memory

unfoldable pub load : Placement → LoadOp → VirtualRegister → ℕ → State → State
load p op to a m =
    if can_access (usable p.rights.readable m) a (load_size_of op) then keep to (load_value op m.memory a) m else bad m

-- the low bytes of the value, lowest first; no other byte changes
unfoldable pub store : Placement → StoreOp → ℕ → ℕ → State → State
store p op v a m =
    if can_access (usable p.rights.writable m) a (store_size_of op)
    then record m { memory = with_bytes m.memory a (bytes_low_first 0 (store_size_of op) v) }
    else bad m

-- ---- calls

-- the activation that a call begins: the arguments, and 0 in every other register
abbrev pub entered : Low → ℕ → List ℕ → Activation
entered low r arguments = record { routine = r; registers = slice_index arguments; now = block_of low r 0 }

-- there is such a routine, with so many parameters, and room for it
abbrev pub can_enter : Low → Placement → ℕ → ℕ → State → Bool
can_enter low p r arguments m =
    nat_lt r (length low.routines) && nat_eq arguments (routine_of low r).parameters && nat_le (space low p r) m.room

-- the caller waits, and the locals begin as zeros
unfoldable pub call : Low → Placement → ℕ → Operands → State → State
call low p r operands m =
    let locals = (routine_of low r).locals in
    if can_enter low p r (length operands.arguments) m
    then
    record m {
      top = entered low r (values m operands.arguments);
      callers = record { activation = m.top; to = operands.to; landing = operands.landing } ∷ m.callers;
      limit = m.limit + locals;
      room = m.room - space low p r;
      memory = with_bytes m.memory m.limit (replicate locals 0);
    }
    else bad m

-- the routine that begins at an address
abbrev pub call_found : Low → Placement → Option ℕ → Operands → State → State
call_found low p None operands m = bad m
call_found low p (Some r) operands m = call low p r operands m

-- an activation ends, and its caller goes on
abbrev pub left : Low → Placement → Activation → List Caller → State → State
left low p a callers m =
    record m {
      top = a;
      callers = callers;
      limit = m.limit - (routine_of low m.top.routine).locals;
      room = m.room + space low p m.top.routine;
    }

-- the entry routine has no caller
abbrev pub return_to : Low → Placement → ℕ → List Caller → State → State
return_to low p v [] m = bad m
return_to low p v (c ∷ cs) m = left low p (with_value c.to v c.activation) cs m

abbrev pub raise_to : Low → Placement → List Caller → State → State
raise_to low p [] m = bad m
raise_to low p (c ∷ cs) m = left low p (landed low c.landing c.activation) cs m

-- ---- environment calls

-- at most so many bytes of what is left of the input
abbrev pub taken : ℕ → State → List ℕ
taken length m = take length m.input

unfoldable pub read : Placement → VirtualRegister → ℕ → ℕ → State → State
read p to a size m =
    let bytes = taken size m in
    if all_from (usable p.rights.writable m) a size
    then keep to (length bytes) (record m { memory = with_bytes m.memory a bytes; input = drop size m.input })
    else bad m

abbrev pub written : Output → List ℕ → State → State
written Console bytes m = record m { output = m.output ++ bytes }
written Errors bytes m = record m { errors = m.errors ++ bytes }

unfoldable pub write : Placement → Output → ℕ → ℕ → State → State
write p output a size m =
    if all_from (usable p.rights.readable m) a size then written output (bytes_from m.memory a size) m else bad m

abbrev pub exit : ℕ → State → State
exit status m = record m { ending = Ended (status % 2 ^ 8) }

-- ---- the instructions

-- what an instruction does, in a state that stands behind it
unfoldable pub act : Low → Placement → Instruction → State → State
act low p (Const to n) m = keep to n m
act low p (Address to symbol) m = keep to (p.address symbol) m
act low p (Local to offset) m = keep to (m.limit - (routine_of low m.top.routine).locals + offset) m
act low p (Move to from) m = keep to (value m from) m
act low p (Alu op to left right) m = keep to (alu_value op (value m left) (value m right)) m
act low p (AluImm op to left imm) m = keep to (imm_value op (value m left) (word_from imm)) m
act low p (Shift op to left amount) m = keep to (shift_value op (value m left) amount) m
act low p (Load op to base offset) m = load p op to (offset_from (value m base) offset) m
act low p (Store op v base offset) m = store p op (value m v) (offset_from (value m base) offset) m
act low p (Call r operands) m = call low p r.0 operands m
act low p (CallAt address operands) m = call_found low p (p.routine_at (value m address)) operands m
act low p (Branch op left right block) m = if branch_taken op (value m left) (value m right) then jump low block m else m
act low p (Jump block) m = jump low block m
act low p (Return v) m = return_to low p (value m v) m.callers m
act low p Raise m = raise_to low p m.callers m
act low p (Read to buffer size) m = read p to (value m buffer) (value m size) m
act low p (Write output buffer size) m = write p output (value m buffer) (value m size) m
act low p (Exit status) m = exit (value m status) m

-- the next instruction; the end of a block that no instruction leaves is bad
unfoldable pub done : Low → Placement → List Instruction → State → State
done low p [] m = bad m
done low p (i ∷ is) m = act low p i (record m { top = record m.top { now = is } })

unfoldable pub step_by_ending : Low → Placement → Ending → State → State
step_by_ending low p Running m = done low p m.top.now m
step_by_ending low p (Ended status) m = m
step_by_ending low p Bad m = m

-- a step; a machine that has ended or is bad stays
unfoldable pub step : Low → Placement → State → State
step low p m = step_by_ending low p m.ending m

-- ---- what a step shows and costs

abbrev pub shown_if : Bool → Event → List Event
shown_if happens event = if happens then event ∷ [] else []

unfoldable pub shown_by : Placement → Instruction → State → List Event
shown_by p (Const to n) m = []
shown_by p (Address to symbol) m = []
shown_by p (Local to offset) m = []
shown_by p (Move to from) m = []
shown_by p (Alu op to left right) m = []
shown_by p (AluImm op to left imm) m = []
shown_by p (Shift op to left amount) m = []
shown_by p (Load op to base offset) m = []
shown_by p (Store op v base offset) m = []
shown_by p (Call id call) m = []
shown_by p (CallAt address call) m = []
shown_by p (Branch op left right block) m = []
shown_by p (Jump block) m = []
shown_by p (Return v) m = []
shown_by p Raise m = []
shown_by p (Read to buffer size) m =
    shown_if (all_from (usable p.rights.writable m) (value m buffer) (value m size)) (Taken (taken (value m size) m))
shown_by p (Write output buffer size) m =
    shown_if
    (all_from (usable p.rights.readable m) (value m buffer) (value m size))
    (Written output (bytes_from m.memory (value m buffer) (value m size)))
shown_by p (Exit status) m = []

-- a call is charged for the bytes that it sets to zero
unfoldable pub cost_by : Low → Placement → Instruction → State → ℕ
cost_by low p (Const to n) m = 1
cost_by low p (Address to symbol) m = 1
cost_by low p (Local to offset) m = 1
cost_by low p (Move to from) m = 1
cost_by low p (Alu op to left right) m = 1
cost_by low p (AluImm op to left imm) m = 1
cost_by low p (Shift op to left amount) m = 1
cost_by low p (Load op to base offset) m = 1
cost_by low p (Store op v base offset) m = 1
cost_by low p (Call r operands) m = 1 + space low p r.0 + length operands.arguments
cost_by low p (CallAt address operands) m = cost_at (p.routine_at (value m address))
  where
    cost_at : Option ℕ → ℕ
    cost_at None = 1
    cost_at (Some r) = 1 + space low p r + length operands.arguments
cost_by low p (Branch op left right block) m = 1
cost_by low p (Jump block) m = 1
cost_by low p (Return v) m = 1
cost_by low p Raise m = 1
cost_by low p (Read to buffer size) m = 1
cost_by low p (Write output buffer size) m = 1
cost_by low p (Exit status) m = 1

abbrev pub shown_next : Placement → List Instruction → State → List Event
shown_next p [] m = []
shown_next p (i ∷ is) m = shown_by p i m

abbrev pub cost_next : Low → Placement → List Instruction → State → ℕ
cost_next low p [] m = 1
cost_next low p (i ∷ is) m = cost_by low p i m

unfoldable pub shows : Placement → Ending → State → List Event
shows p Running m = shown_next p m.top.now m
shows p (Ended status) m = []
shows p Bad m = []

unfoldable pub cost : Low → Placement → Ending → State → ℕ
cost low p Running m = cost_next low p m.top.now m
cost low p (Ended status) m = 1
cost low p Bad m = 1

-- ---- the machine

abbrev pub low_machine : Low → Placement → System Event
low_machine low p =
    record { State = State; step = step low p; cost = λ m. cost low p m.ending m; shows = λ m. shows p m.ending m }

-- it never does what low code must not do
abbrev pub NeverBad : Low → Placement → State → Type 0
NeverBad low p m = Always (low_machine low p) (λ s. s.ending ≢ Bad) m

-- how a program begins: no registers, its locals at the bottom of the stack and zeros there
unfoldable pub start : Low → Placement → (bottom : ℕ) → (room : ℕ) → (ℕ → ℕ) → List ℕ → State
start low p bottom room memory input =
    let entry = low.entry.0 in
    let locals = (routine_of low entry).locals in
    record {
      top = entered low entry [];
      callers = [];
      limit = bottom + locals;
      room = room - space low p entry;
      memory = with_bytes memory bottom (replicate locals 0);
      input = input;
      output = [];
      errors = [];
      ending = Running;
    }

-- addresses are words, and a routine is found where it begins
pub record IsPlacement (low : Low) (p : Placement) : Type 0 where
  pub words : (symbol : Symbol) → p.address symbol < 2 ^ 32
  pub finds : (id : RoutineId) → id.0 < length low.routines → p.routine_at (p.address (Routine id)) ≡ Some id.0
