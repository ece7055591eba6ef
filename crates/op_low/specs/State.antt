-- What the machine of low code is at a moment.
use Rattle.std.specs.Prelude.{ℕ, ◌+◌, Bool, true, false, ◌&&◌, Option, Some, None, List, [], ◌∷◌, slice_get, map, nat_eq, nat_lt, if◌then◌else◌}
use Rattle.op_rv.specs.State.{Rights}
use Rattle.op_low.specs.declared.code.Block.{Block}
use Rattle.op_low.specs.declared.code.Low.{Low}
use Rattle.op_low.specs.declared.code.Routine.{Routine}
use Rattle.op_rv.specs.declared.symbol.BlockId.{BlockId}
use Rattle.op_rv.specs.declared.symbol.Symbol.{Symbol}
use Rattle.op_low.specs.declared.ids.VirtualRegister.{VirtualRegister}
use Rattle.op_low.specs.declared.instruction.Instruction.{Instruction}
use Rattle.op_low.specs.declared.instruction.Instruction.TheVariants.{Raise}

-- what is settled when the program is placed in memory
pub record Placement : Type 0 where
  pub address : Symbol → ℕ
  -- the number of the routine that begins at an address
  pub routine_at : ℕ → Option ℕ
  -- the bytes on the stack that a routine takes for itself, beside its locals
  pub frame : ℕ → ℕ
  pub rights : Rights

-- a routine under way
pub record Activation : Type 0 where
  pub routine : ℕ
  pub registers : ℕ → ℕ
  -- what is left of its block
  pub now : List Instruction

-- a routine that waits for its call
pub record Caller : Type 0 where
  -- as it goes on behind the call
  pub activation : Activation
  -- where the value goes
  pub to : VirtualRegister
  pub landing : Option BlockId

-- Whether the machine goes on, or how it ended. Bad is what code must not do: leave its memory, call without room or with
-- other arguments than the routine has, return from the entry routine.
pub data Ending : Type 0 where
  Running : Ending
  Ended : (status : ℕ) → Ending
  Bad : Ending

abbrev pub goes_on : Ending → Bool
goes_on Running = true
goes_on (Ended status) = false
goes_on Bad = false

-- The stack grows from both ends of its bytes: locals upwards to the limit, what routines take for themselves downwards.
-- What lies between them is the room.
pub record State : Type 0 where
  pub top : Activation
  -- innermost first
  pub callers : List Caller
  pub limit : ℕ
  pub room : ℕ
  -- the byte at each address
  pub memory : ℕ → ℕ
  -- what is left of the input
  pub input : List ℕ
  -- what was written
  pub output : List ℕ
  pub errors : List ℕ
  pub ending : Ending

-- ---- routines and blocks

-- a routine that does not exist is empty
abbrev pub no_routine : Routine
no_routine = record { parameters = 0; registers = 0; locals = 0; blocks = [] }

abbrev pub routine_or : Option Routine → Routine
routine_or None = no_routine
routine_or (Some routine) = routine

abbrev pub routine_of : Low → ℕ → Routine
routine_of low r = routine_or (slice_get low.routines r)

-- a block that does not exist is empty
abbrev pub code_or : Option Block → List Instruction
code_or None = []
code_or (Some block) = block.code

abbrev pub block_of : Low → ℕ → ℕ → List Instruction
block_of low r b = code_or (slice_get (routine_of low r).blocks b)

-- ---- registers

abbrev pub value_in : (ℕ → ℕ) → VirtualRegister → ℕ
value_in registers r = registers r.0

abbrev pub value : State → VirtualRegister → ℕ
value m r = value_in m.top.registers r

abbrev pub values : State → List VirtualRegister → List ℕ
values m rs = map (value m) rs

abbrev pub with_value : VirtualRegister → ℕ → Activation → Activation
with_value to v a = record a { registers = λ r. if nat_eq r to.0 then v else a.registers r }

abbrev pub keep : VirtualRegister → ℕ → State → State
keep to v m = record m { top = with_value to v m.top }

-- ---- where the code goes on

abbrev pub bad : State → State
bad m = record m { ending = Bad }

-- at a block of the routine of an activation
abbrev pub at_block : Low → BlockId → Activation → Activation
at_block low block a = record a { now = block_of low a.routine block.0 }

abbrev pub jump : Low → BlockId → State → State
jump low block m = record m { top = at_block low block m.top }

-- at the exceptional successor of a call; with none the caller raises in its turn
abbrev pub landed : Low → Option BlockId → Activation → Activation
landed low None a = record a { now = Raise ∷ [] }
landed low (Some block) a = at_block low block a

-- ---- memory

-- low code may use what has the right and lies below the limit
abbrev pub usable : (ℕ → Bool) → State → ℕ → Bool
usable right m x = right x && nat_lt x m.limit

-- ---- the stack

-- the bytes that an activation of a routine takes of the room
abbrev pub space : Low → Placement → ℕ → ℕ
space low p r = (routine_of low r).locals + p.frame r
