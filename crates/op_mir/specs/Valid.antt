-- Managed code that may be compiled: it names only what exists, its operands have their kinds, its global variables have room, and each routine is
-- charged at least what its frame needs.
use Rattle.std.specs.Prelude.{ℕ, ◌+◌, ◌-◌, ◌^◌, min, Bool, true, false, ◌&&◌, Option, Some, None, List, [], ◌∷◌, length, slice_get, nat_eq, nat_le, nat_lt}
use Rattle.std.specs.List.{list_all}
use Rattle.op_core.specs.Sound.{bytes_of, globals_of}
use Rattle.op_core.specs.declared.ids.RoutineId.{RoutineId}
use Rattle.op_core.specs.declared.ids.Run.{Run}
use Rattle.op_core.specs.declared.ids.TypeId.{TypeId}
use Rattle.op_core.specs.declared.ids.VariableId.{VariableId}
use Rattle.op_core.specs.declared.program.Core.{Core}
use Rattle.op_meaning.specs.Shapes.{variables_of}
use Rattle.op_mir.specs.FrameNeed.{frame_need}
use Rattle.op_mir.specs.Kinds.{calls, has_kinds, is_part}
use Rattle.op_mir.specs.declared.action.Action.{Action}
use Rattle.op_mir.specs.declared.action.Action.TheVariants.{Constant, Load, Store, Copy, Look, BeginWith, Pick, Compute, Do}
use Rattle.op_mir.specs.declared.action.Computation.{Computation}
use Rattle.op_mir.specs.declared.action.Computation.TheVariants.{Arithmetic, Compare, Negate, Complement, Invert, Absolute, Odd, Upper, LowBits, Check, Neighbour, Single, Span, Combine, Contains, CheckSet}
use Rattle.op_mir.specs.declared.action.Destination.{Destination}
use Rattle.op_mir.specs.declared.action.Destination.TheVariants.{Unused, InTemporary, InNew, IntoPlace, OverPlace}
use Rattle.op_mir.specs.declared.action.Operand.{Operand}
use Rattle.op_mir.specs.declared.action.Operand.TheVariants.{Number, Text, Literal}
use Rattle.op_mir.specs.declared.code.Block.{Block}
use Rattle.op_mir.specs.declared.code.Mir.{Mir}
use Rattle.op_mir.specs.declared.code.Routine.{Routine}
use Rattle.op_mir.specs.declared.ids.BlockId.{BlockId}
use Rattle.op_mir.specs.declared.ids.LocalId.{LocalId}
use Rattle.op_mir.specs.declared.ids.TemporaryId.{TemporaryId}
use Rattle.op_mir.specs.declared.instruction.Arm.{Arm}
use Rattle.op_mir.specs.declared.instruction.Call.{Call as Operands}
use Rattle.op_mir.specs.declared.instruction.Given.{Given}
use Rattle.op_mir.specs.declared.instruction.Given.TheVariants.{ByValue, ByPlace, ByCopy}
use Rattle.op_mir.specs.declared.instruction.Instruction.{Instruction}
use Rattle.op_mir.specs.declared.instruction.Instruction.TheVariants.{Act, Call, Jump, When, Unless, Switch, Dispatch, MakeDue, OpenTemporaries, EndTemporary, Stop, Return}
use Rattle.op_mir.specs.declared.instruction.Receiver.{Receiver}
use Rattle.op_mir.specs.declared.instruction.Receiver.TheVariants.{Nowhere, Temporary as ToTemporary, Place}
use Rattle.op_mir.specs.declared.path.Path.{Path}
use Rattle.op_mir.specs.declared.path.Root.{Root}
use Rattle.op_mir.specs.declared.path.Root.TheVariants.{Global, Local, Through, Temporary}
use Rattle.op_mir.specs.declared.path.Step.{Step}
use Rattle.op_mir.specs.declared.path.Step.TheVariants.{Field, Element}
use Rattle.op_mir.specs.declared.temporary.Temporary.{Temporary as HeldTemporary}

-- ---- what is named exists

abbrev pub has : Routine → TemporaryId → Bool
has routine t = nat_lt t.0 routine.temporaries

-- and the one behind it
abbrev pub has_next : Routine → TemporaryId → Bool
has_next routine t = nat_lt (t.0 + 1) routine.temporaries

abbrev pub has_two : Routine → TemporaryId → TemporaryId → Bool
has_two routine a b = has routine a && has routine b

abbrev pub has_three : Routine → TemporaryId → TemporaryId → TemporaryId → Bool
has_three routine a b c = has routine a && has routine b && has routine c

abbrev pub has_local : Routine → LocalId → Bool
has_local routine v = nat_lt v.0 routine.locals

abbrev pub has_type : Mir → TypeId → Bool
has_type mir of = nat_lt of.0 mir.counts.types

abbrev pub has_variable : Mir → VariableId → Bool
has_variable mir v = nat_lt v.0 mir.counts.variables

abbrev pub has_routine : Mir → RoutineId → Bool
has_routine mir r = nat_lt r.0 (length mir.routines)

abbrev pub has_block : Routine → BlockId → Bool
has_block routine block = nat_lt block.0 (length routine.blocks)

-- the three blocks behind it
abbrev pub has_ways : Routine → BlockId → Bool
has_ways routine block = nat_lt (block.0 + 3) (length routine.blocks)

-- with no landing no block is named
abbrev pub has_landing : Routine → Option BlockId → Bool
has_landing routine None = true
has_landing routine (Some block) = has_block routine block

-- ---- places

unfoldable pub root_fits : Mir → Routine → Root → Bool
root_fits mir routine (Global v) = has_variable mir v
root_fits mir routine (Local v) = has_local routine v
root_fits mir routine (Through v) = has_local routine v
root_fits mir routine (Temporary of n) = has_type mir of

unfoldable pub step_fits : Mir → Routine → Step → Bool
step_fits mir routine (Field of n) = has_type mir of
step_fits mir routine (Element of low high index) = has_type mir of && has routine index

unfoldable pub path_fits : Mir → Routine → Path → Bool
path_fits mir routine path = root_fits mir routine path.root && list_all (step_fits mir routine) path.steps

-- ---- actions

unfoldable pub load_fits : Mir → Routine → TemporaryId → Path → Bool
load_fits mir routine t path = has routine t && path_fits mir routine path

unfoldable pub copy_fits : Mir → Routine → TypeId → Path → Path → Bool
copy_fits mir routine of to from = has_type mir of && path_fits mir routine to && path_fits mir routine from

unfoldable pub computation_fits : Routine → Computation → Bool
computation_fits routine (Arithmetic operator checked to left right) = has_three routine to left right
computation_fits routine (Compare operator to left right) = has_three routine to left right
computation_fits routine (Negate checked to from) = has_two routine to from
computation_fits routine (Complement to from) = has_two routine to from
computation_fits routine (Invert to from) = has_two routine to from
computation_fits routine (Absolute checked to from) = has_two routine to from
computation_fits routine (Odd to from) = has_two routine to from
computation_fits routine (Upper to from) = has_two routine to from
computation_fits routine (LowBits kind to from) = has_two routine to from
computation_fits routine (Check low high to from) = has_two routine to from
computation_fits routine (Neighbour distance low high to from) = has_two routine to from
computation_fits routine (Single to from) = has_two routine to from
computation_fits routine (Span to first last) = has_three routine to first last
computation_fits routine (Combine operator to left right) = has_three routine to left right
computation_fits routine (Contains to element set) = has_three routine to element set
computation_fits routine (CheckSet all to from) = has_two routine to from

unfoldable pub operand_fits : Mir → Routine → Operand → Bool
operand_fits mir routine (Number t) = has routine t
operand_fits mir routine (Text path) = path_fits mir routine path
operand_fits mir routine (Literal text) = true

unfoldable pub destination_fits : Mir → Routine → Destination → Bool
destination_fits mir routine Unused = true
destination_fits mir routine (InTemporary t) = has routine t
destination_fits mir routine (InNew of n) = has_type mir of
destination_fits mir routine (IntoPlace of to old) = has_type mir of && path_fits mir routine to
destination_fits mir routine (OverPlace to) = path_fits mir routine to

unfoldable pub action_fits : Mir → Routine → Action → Bool
action_fits mir routine (Constant to n) = has routine to
action_fits mir routine (Load to kind from) = load_fits mir routine to from
action_fits mir routine (Store to kind from) = load_fits mir routine from to
action_fits mir routine (Copy of to from) = copy_fits mir routine of to from
action_fits mir routine (Look at) = path_fits mir routine at
action_fits mir routine (BeginWith v) = has_local routine v
action_fits mir routine (Pick to text index) = has_two routine to index
action_fits mir routine (Compute computation) = computation_fits routine computation
action_fits mir routine (Do p operands to) = list_all (operand_fits mir routine) operands && destination_fits mir routine to

-- ---- instructions

unfoldable pub copied_fits : Mir → Routine → TypeId → Path → Bool
copied_fits mir routine of path = has_type mir of && path_fits mir routine path

unfoldable pub given_fits : Mir → Routine → Given → Bool
given_fits mir routine (ByValue kind t) = has routine t
given_fits mir routine (ByPlace path) = path_fits mir routine path
given_fits mir routine (ByCopy of path) = copied_fits mir routine of path

unfoldable pub receiver_fits : Mir → Routine → Receiver → Bool
receiver_fits mir routine Nowhere = true
receiver_fits mir routine (ToTemporary t) = has routine t
receiver_fits mir routine (Place of to) = copied_fits mir routine of to

unfoldable pub all_given_fit : Mir → Routine → List Given → Bool
all_given_fit mir routine given = list_all (given_fits mir routine) given

unfoldable pub call_fits : Core → Mir → Run → Routine → RoutineId → Operands → Bool
call_fits core mir variables routine r call =
    has_routine mir r && all_given_fit mir routine call.given && receiver_fits mir routine call.receiver && calls core variables (slice_get core.routines r.0) call && has_landing routine call.landing

unfoldable pub act_fits : Core → Mir → Run → Routine → Action → Option BlockId → Bool
act_fits core mir variables routine action landing = action_fits mir routine action && has_kinds core variables action && has_landing routine landing

abbrev pub branch_fits : Routine → TemporaryId → BlockId → Bool
branch_fits routine t block = has routine t && has_block routine block

abbrev pub arm_fits : Routine → Arm → Bool
arm_fits routine arm = has_block routine arm.block

unfoldable pub switch_fits : Routine → TemporaryId → List Arm → Bool
switch_fits routine t arms = has routine t && list_all (arm_fits routine) arms

-- behind the temporary with the reason stands the one with the exception that waits
abbrev pub dispatch_fits : Routine → TemporaryId → BlockId → Bool
dispatch_fits routine t block = has_next routine t && has_ways routine block

abbrev pub part_fits : Core → Mir → RoutineId → Bool
part_fits core mir r = has_routine mir r && is_part (slice_get core.routines r.0)

abbrev pub temporary_fits : Mir → HeldTemporary → Bool
temporary_fits mir t = has_type mir t.of

-- in a routine with these variables
unfoldable pub is_valid_instruction : Core → Mir → Run → Routine → Instruction → Bool
is_valid_instruction core mir variables routine (Act action landing) = act_fits core mir variables routine action landing
is_valid_instruction core mir variables routine (Call r call) = call_fits core mir variables routine r call
is_valid_instruction core mir variables routine (Jump block) = has_block routine block
is_valid_instruction core mir variables routine (When t block) = branch_fits routine t block
is_valid_instruction core mir variables routine (Unless t block) = branch_fits routine t block
is_valid_instruction core mir variables routine (Switch t arms) = switch_fits routine t arms
is_valid_instruction core mir variables routine (Dispatch t block) = dispatch_fits routine t block
is_valid_instruction core mir variables routine (MakeDue r) = part_fits core mir r
is_valid_instruction core mir variables routine (OpenTemporaries ts) = list_all (temporary_fits mir) ts
is_valid_instruction core mir variables routine (EndTemporary t) = temporary_fits mir t
is_valid_instruction core mir variables routine (Stop t) = has routine t
is_valid_instruction core mir variables routine Return = true

-- ---- blocks and routines

-- the code never goes on behind it
unfoldable pub leaves : Instruction → Bool
leaves (Jump block) = true
leaves Return = true
leaves (Act action landing) = false
leaves (Call r call) = false
leaves (When t block) = false
leaves (Unless t block) = false
leaves (Switch t arms) = false
leaves (Dispatch t block) = false
leaves (MakeDue r) = false
leaves (OpenTemporaries ts) = false
leaves (EndTemporary t) = false
leaves (Stop t) = false

abbrev pub leaves_if : Option Instruction → Bool
leaves_if None = false
leaves_if (Some i) = leaves i

unfoldable pub is_valid_block : Core → Mir → Run → Routine → Block → Bool
is_valid_block core mir variables routine block =
    leaves_if (slice_get block.code (length block.code - 1)) && list_all (is_valid_instruction core mir variables routine) block.code

-- it has the variables of its row, and a block to begin with
unfoldable pub is_valid_routine : Core → Mir → Run → Routine → Bool
is_valid_routine core mir variables routine =
    nat_eq routine.locals variables.count && nat_lt 0 (length routine.blocks) && list_all (is_valid_block core mir variables routine) routine.blocks

-- The charge is at least the need. A need above the greatest number of 64 bits counts as that number, as a charge does.
abbrev pub is_charged : Core → ℕ → Routine → Bool
is_charged core r routine = nat_le (min (frame_need core r routine) (2 ^ 64 - 1)) routine.charge

-- those from the number r on
abbrev pub are_valid_from : Core → Mir → ℕ → List Routine → Bool
are_valid_from core mir r [] = true
are_valid_from core mir r (x ∷ xs) = is_valid_routine core mir (variables_of core r) x && is_charged core r x && are_valid_from core mir (r + 1) xs

-- ---- programs

-- the tables beside it are those that it counts
abbrev pub has_tables : Core → Mir → Bool
has_tables core mir = nat_eq mir.counts.types (length core.types) && nat_eq mir.counts.variables (length core.variables) && nat_eq (length mir.routines) (length core.routines)

-- the values of all global variables take together no more bytes than a program may have
abbrev pub most_globals : ℕ
most_globals = 8388608

abbrev pub globals_have_room : Core → Bool
globals_have_room core = nat_le (bytes_of core (globals_of core)) most_globals

-- The program itself is charged nothing: it stands below all activations.
unfoldable pub is_valid : Core → Mir → Bool
is_valid core mir =
    has_tables core mir && globals_have_room core && is_valid_routine core mir (variables_of core (length core.routines)) mir.program && are_valid_from core mir 0 mir.routines
