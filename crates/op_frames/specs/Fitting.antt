-- What is asked of a program in managed code, so that its low code is valid.
use Rattle.std.specs.List.{list_any}
use Rattle.std.specs.Prelude.{◌≡◌, ◌<◌, ◌≤◌, ℕ, ◌+◌, max, Bool, true, false, length, Some, slice_get, take, if◌then◌else◌}
use Rattle.op_constants.specs.Offsets.{size_in}
use Rattle.op_constants.specs.Shapes.{is_composite}
use Rattle.op_core.specs.Rows.{rows}
use Rattle.op_core.specs.declared.ids.RoutineId.{RoutineId}
use Rattle.op_core.specs.declared.ids.TypeId.{TypeId}
use Rattle.op_core.specs.declared.program.Core.{Core}
use Rattle.op_core.specs.declared.routine.Variable.{Variable}
use Rattle.op_expand.specs.Calls.{finalizations}
use Rattle.op_places.specs.Frames.{frame_of, parameters_of, variables_room}
use Rattle.op_places.specs.Homes.{home_at}
use Rattle.op_expand.specs.Routines.{most_charge}
use Rattle.op_places.specs.declared.frame.Frame.{Frame}
use Rattle.op_places.specs.declared.homes.Home.{Home}
use Rattle.op_places.specs.declared.homes.Home.TheVariants.{Held, Stored}
use Rattle.op_frames.specs.Made.{Every, IsCode}
use Rattle.op_frames.specs.Named.{IsNamed}
use Rattle.op_frames.specs.Scratch.{room_in}
use Rattle.op_low.specs.Valid.{most_locals, most_registers}
use Rattle.op_lower.specs.Seen.{seen_blocks}
use Rattle.op_lower.specs.Temporaries.{in_blocks, most_of}
use Rattle.op_meaning.specs.Shapes.{is_reference, shape_of, type_of_local, variables_of}
use Rattle.op_mir.specs.View.{view_instruction}
use Rattle.op_mir.specs.declared.action.Action.{Action}
use Rattle.op_mir.specs.declared.action.Action.TheVariants.{Constant, Load, Store, Copy, Look, BeginWith, Pick, Compute, Do}
use Rattle.op_mir.specs.declared.code.Block.{Block}
use Rattle.op_mir.specs.declared.code.Mir.{Mir}
use Rattle.op_mir.specs.declared.code.Routine.{Routine}
use Rattle.op_mir.specs.declared.ids.LocalId.{LocalId}
use Rattle.op_mir.specs.declared.instruction.Instruction.{Instruction}
use Rattle.op_mir.specs.declared.instruction.Instruction.TheVariants.{Act, Call, Jump, When, Unless, Switch, Dispatch, MakeDue, OpenTemporaries, EndTemporary, Stop, Return}

-- ---- scratch registers

abbrev pub is_held : Home → Bool
is_held (Held r) = true
is_held _ = false

abbrev pub is_stored : Home → Bool
is_stored (Stored offset) = true
is_stored _ = false

-- A number that a register has begins with one scratch register, one in memory with two. A value of a type with parts begins with two, or with one
-- and the register of a parameter that is stored.
abbrev pub begins_with_one : Core → (r : ℕ) → Frame → LocalId → Bool
begins_with_one core r frame v =
    if is_composite (shape_of core (type_of_local core r v.0)) then list_any is_stored (take (parameters_of core r) frame.homes)
    else is_held (home_at frame.homes v)

abbrev begin_of_action : Core → ℕ → Frame → Action → ℕ
begin_of_action core r frame (Constant to n) = 0
begin_of_action core r frame (Load to kind from) = 0
begin_of_action core r frame (Store to kind from) = 0
begin_of_action core r frame (Copy of to from) = 0
begin_of_action core r frame (Look at) = 0
begin_of_action core r frame (BeginWith v) = if begins_with_one core r frame v then 1 else 2
begin_of_action core r frame (Pick to text index) = 0
begin_of_action core r frame (Compute c) = 0
begin_of_action core r frame (Do p operands to) = 0

unfoldable pub begin_room : Core → ℕ → Frame → Instruction → ℕ
begin_room core r frame (Act a landing) = begin_of_action core r frame a
begin_room core r frame (Call id call) = 0
begin_room core r frame (Jump block) = 0
begin_room core r frame (When t block) = 0
begin_room core r frame (Unless t block) = 0
begin_room core r frame (Switch t arms) = 0
begin_room core r frame (Dispatch t block) = 0
begin_room core r frame (MakeDue f) = 0
begin_room core r frame (OpenTemporaries ts) = 0
begin_room core r frame (EndTemporary t) = 0
begin_room core r frame (Stop t) = 0
begin_room core r frame Return = 0

abbrev pub begin_of_block : Core → ℕ → Frame → Block → ℕ
begin_of_block core r frame b = most_of (begin_room core r frame) b.code

-- what the variables of a routine begin with
abbrev pub begin_of_routine : Core → ℕ → Routine → ℕ
begin_of_routine core r routine = most_of (begin_of_block core r (frame_of core r routine)) routine.blocks

-- what an instruction takes
abbrev pub room_of_instruction : Core → ℕ → Instruction → ℕ
room_of_instruction core r i = room_in (view_instruction core r i)

abbrev pub room_of_block : Core → ℕ → Block → ℕ
room_of_block core r b = most_of (room_of_instruction core r) b.code

-- as many as one of its instructions takes, and one at least
abbrev pub scratch_of_routine : Core → ℕ → Routine → ℕ
scratch_of_routine core r routine = max (max 1 (begin_of_routine core r routine)) (most_of (room_of_block core r) routine.blocks)

-- no more registers are named by the low code of the routine
abbrev pub registers_of_routine : Core → ℕ → Routine → ℕ
registers_of_routine core r routine = (variables_room core r routine).register + routine.temporaries + scratch_of_routine core r routine

-- Of a routine with the number: its code names what is there, and its frame is small enough unless it is charged more than any stack has.
pub record IsFitting (core : Core) (r : ℕ) (routine : Routine) : Type 0 where
  pub code : Every (IsCode (IsNamed core (length routine.blocks))) (seen_blocks core r routine.blocks)
  pub some : 0 < length routine.blocks
  pub temporaries : routine.temporaries ≡ in_blocks routine.blocks
  pub references : (k : ℕ) (v : Variable) → slice_get (rows core.variables (variables_of core r)) k ≡ Some v → is_reference v.role ≡ true → k < parameters_of core r
  pub parameters : parameters_of core r + 4 ≤ most_registers
  pub registers : routine.charge ≤ most_charge → registers_of_routine core r routine ≤ most_registers
  pub locals : routine.charge ≤ most_charge → (frame_of core r routine).locals ≤ most_locals

-- a finalization part is a routine without parameters
abbrev pub IsPart : Core → RoutineId → Type 0
IsPart core f = (f.0 < length core.routines) × (parameters_of core f.0 ≡ 0)

-- The number behind those of all routines is that of the program itself.
pub record AreFitting (core : Core) (mir : Mir) : Type 0 where
  pub sizes : (of : TypeId) → size_in core of ≤ 1048576
  pub number : length mir.routines ≡ length core.routines
  pub routines : (r : ℕ) (routine : Routine) → slice_get mir.routines r ≡ Some routine → IsFitting core r routine
  pub program : IsFitting core (length mir.routines) mir.program
  pub parts : Every (IsPart core) (finalizations core)
