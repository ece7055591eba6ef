-- Managed code as its machine sees it: the numbers of the types in `src/` are the machine's numbers, and literals and first values stand
-- where they are used.
use Rattle.std.specs.Prelude.{ℕ, ◌+◌, List, [], Option, Some, None, slice_get, map, length, nat_eq, if◌then◌else◌}
use Rattle.op_core.specs.Initial.{FirstValue, parts as first_parts, no_values}
use Rattle.op_core.specs.declared.program.Core.{Core}
use Rattle.op_meaning.specs.Actions.{Action as MeantAction, constant, load, store, copy, look, begin_with, pick, arithmetic, compare, negate, complement, invert, absolute, odd, upper, low_bits, check, neighbour, single, span, combine, contains, check_set, primitive}
use Rattle.op_meaning.specs.Frames.{program_of}
use Rattle.op_meaning.specs.Items.{Given as MeantGiven, by_value, by_place, by_copy, Receiver as MeantReceiver, nowhere, to_temp, to_place, none}
use Rattle.op_meaning.specs.Paths.{Path as MeantPath, Root as MeantRoot, in_global, in_local, through, in_temporary, Step as MeantStep, field, element}
use Rattle.op_meaning.specs.Primitives.{Destination as MeantDestination, Operand as MeantOperand, from_temp, in_new, in_temp, into_place, literal_text, over_place, text_at, unused}
use Rattle.op_meaning.specs.Shapes.{type_of_local, variables_of}
use Rattle.op_meaning.specs.World.{Temporary as MeantTemporary}
use Rattle.op_mir.specs.Code.{Instr, do_act, do_call, jump, when, unless, switch, dispatch, make_due, open_temporaries, end_temporary, stop, ret, Arm as MeantArm, blocks_of}
use Rattle.op_mir.specs.Machine.{Code}
use Rattle.op_mir.specs.declared.action.Action.{Action}
use Rattle.op_mir.specs.declared.action.Action.TheVariants.{Constant, Load, Store, Copy, Look, BeginWith, Pick, Compute, Do}
use Rattle.op_mir.specs.declared.action.Computation.{Computation}
use Rattle.op_mir.specs.declared.action.Computation.TheVariants.{Arithmetic, Compare, Negate, Complement, Invert, Absolute, Odd, Upper, LowBits, Check, Neighbour, Single, Span, Combine, Contains, CheckSet}
use Rattle.op_mir.specs.declared.action.Destination.{Destination}
use Rattle.op_mir.specs.declared.action.Destination.TheVariants.{Unused, InTemporary, InNew, IntoPlace, OverPlace}
use Rattle.op_mir.specs.declared.action.Operand.{Operand}
use Rattle.op_mir.specs.declared.action.Operand.TheVariants.{Number, Text, Literal}
use Rattle.op_mir.specs.declared.code.Block.{Block}
use Rattle.op_mir.specs.declared.code.Mir.{Mir}
use Rattle.op_mir.specs.declared.code.Routine.{Routine}
use Rattle.op_mir.specs.declared.ids.BlockId.{BlockId}
use Rattle.op_mir.specs.declared.instruction.Arm.{Arm}
use Rattle.op_mir.specs.declared.instruction.Given.{Given}
use Rattle.op_mir.specs.declared.instruction.Given.TheVariants.{ByValue, ByPlace, ByCopy}
use Rattle.op_mir.specs.declared.instruction.Instruction.{Instruction}
use Rattle.op_mir.specs.declared.instruction.Instruction.TheVariants.{Act, Call, Jump, When, Unless, Switch, Dispatch, MakeDue, OpenTemporaries, EndTemporary, Stop, Return}
use Rattle.op_mir.specs.declared.instruction.Receiver.{Receiver}
use Rattle.op_mir.specs.declared.instruction.Receiver.TheVariants.{Nowhere, Temporary as ToTemporary, Place}
use Rattle.op_mir.specs.declared.path.Path.{Path}
use Rattle.op_mir.specs.declared.path.Root.{Root}
use Rattle.op_mir.specs.declared.path.Root.TheVariants.{Global, Local, Through, Temporary}
use Rattle.op_mir.specs.declared.path.Step.{Step}
use Rattle.op_mir.specs.declared.path.Step.TheVariants.{Field, Element}
use Rattle.op_mir.specs.declared.temporary.Temporary.{Temporary as HeldTemporary}

-- ---- places

abbrev pub view_root : Root → MeantRoot
view_root (Global v) = in_global v.0
view_root (Local v) = in_local v.0
view_root (Through v) = through v.0
view_root (Temporary of n) = in_temporary of n

abbrev pub view_step : Step → MeantStep
view_step (Field of n) = field of n
view_step (Element of low high index) = element of low high index.0

abbrev pub view_path : Path → MeantPath
view_path path = record { root = view_root path.root; steps = map view_step path.steps }

-- ---- actions

abbrev first_or : Option FirstValue → FirstValue
first_or None = first_parts no_values
first_or (Some value) = value

-- what a variable of a routine begins with
abbrev pub first_at : Core → ℕ → ℕ → FirstValue
first_at core r v = first_or ((program_of core 0).first ((variables_of core r).first + v))

abbrev pub view_computation : Computation → MeantAction
view_computation (Arithmetic o checked to a b) = arithmetic o checked to.0 a.0 b.0
view_computation (Compare o to a b) = compare o to.0 a.0 b.0
view_computation (Negate checked to a) = negate checked to.0 a.0
view_computation (Complement to a) = complement to.0 a.0
view_computation (Invert to a) = invert to.0 a.0
view_computation (Absolute checked to a) = absolute checked to.0 a.0
view_computation (Odd to a) = odd to.0 a.0
view_computation (Upper to a) = upper to.0 a.0
view_computation (LowBits kind to a) = low_bits kind to.0 a.0
view_computation (Check low high to a) = check low high to.0 a.0
view_computation (Neighbour distance low high to a) = neighbour distance low high to.0 a.0
view_computation (Single to a) = single to.0 a.0
view_computation (Span to a b) = span to.0 a.0 b.0
view_computation (Combine o to a b) = combine o to.0 a.0 b.0
view_computation (Contains to a b) = contains to.0 a.0 b.0
view_computation (CheckSet all to a) = check_set all to.0 a.0

abbrev pub view_operand : Operand → MeantOperand
view_operand (Number t) = from_temp t.0
view_operand (Text path) = text_at (view_path path)
view_operand (Literal text) = literal_text text

abbrev pub view_destination : Destination → MeantDestination
view_destination Unused = unused
view_destination (InTemporary t) = in_temp t.0
view_destination (InNew of n) = in_new of n
view_destination (IntoPlace of to old) = into_place of (view_path to) old
view_destination (OverPlace to) = over_place (view_path to)

-- in a routine of the number
abbrev pub view_action : Core → ℕ → Action → MeantAction
view_action core r (Constant to n) = constant to.0 n
view_action core r (Load to kind from) = load to.0 kind (view_path from)
view_action core r (Store to kind from) = store (view_path to) kind from.0
view_action core r (Copy of to from) = copy of (view_path to) (view_path from)
view_action core r (Look at) = look (view_path at)
view_action core r (BeginWith v) = begin_with v.0 (type_of_local core r v.0) (first_at core r v.0)
view_action core r (Pick to text index) = pick to.0 text index.0
view_action core r (Compute computation) = view_computation computation
view_action core r (Do p operands to) = primitive p (map view_operand operands) (view_destination to)

-- ---- instructions

abbrev pub view_landing : Option BlockId → Option ℕ
view_landing None = None
view_landing (Some block) = Some block.0

abbrev pub view_given : Given → MeantGiven
view_given (ByValue kind t) = by_value kind t.0
view_given (ByPlace path) = by_place (view_path path)
view_given (ByCopy of path) = by_copy of (view_path path)

abbrev pub view_receiver : Receiver → MeantReceiver
view_receiver Nowhere = nowhere
view_receiver (ToTemporary t) = to_temp t.0
view_receiver (Place of to) = to_place of (view_path to)

abbrev pub view_arm : Arm → MeantArm
view_arm arm = record { labels = arm.labels; block = arm.block.0 }

abbrev pub view_temporary : HeldTemporary → MeantTemporary
view_temporary t = record { of = t.of; n = t.number }

abbrev pub view_instruction : Core → ℕ → Instruction → Instr
view_instruction core r (Act action landing) = do_act (view_action core r action) (view_landing landing)
view_instruction core r (Call id call) = do_call id.0 (map view_given call.given) (view_receiver call.receiver) (view_landing call.landing)
view_instruction core r (Jump block) = jump block.0
view_instruction core r (When t block) = when t.0 block.0
view_instruction core r (Unless t block) = unless t.0 block.0
view_instruction core r (Switch t arms) = switch t.0 (map view_arm arms)
view_instruction core r (Dispatch t block) = dispatch t.0 block.0
view_instruction core r (MakeDue f) = make_due f
view_instruction core r (OpenTemporaries ts) = open_temporaries (map view_temporary ts)
view_instruction core r (EndTemporary t) = end_temporary (view_temporary t)
view_instruction core r (Stop t) = stop t.0
view_instruction core r Return = ret

abbrev pub view_block : Core → ℕ → Block → List Instr
view_block core r block = map (view_instruction core r) block.code

-- ---- programs

-- a routine that does not exist does nothing
abbrev pub view_routine : Core → ℕ → Option Routine → List (List Instr)
view_routine core r None = blocks_of none
view_routine core r (Some routine) = map (view_block core r) routine.blocks

abbrev charge_or : Option Routine → ℕ
charge_or None = 0
charge_or (Some routine) = routine.charge

-- the number behind those of all routines is that of the program itself
abbrev pub routine_at : Mir → ℕ → Option Routine
routine_at mir r = if nat_eq r (length mir.routines) then Some mir.program else slice_get mir.routines r

-- beside the tables of the program, with so many bytes of stack
abbrev pub view_of : Core → ℕ → Mir → Code
view_of core stack mir = record {
  core = core;
  charge = λ r. charge_or (routine_at mir r);
  stack = stack;
  blocks = λ r. view_routine core r (routine_at mir r);
}
