-- Where a routine keeps its variables and its temporaries: numbers in registers, what has an address in its locals.
use Rattle.std.specs.Prelude.{ℕ, ◌+◌, ◌*◌, Bool, false, ◌&&◌, ◌||◌, List, [], ◌∷◌, ◌++◌, Option, Some, None, nat_eq, nat_lt, slice_get, if◌then◌else◌}
use Rattle.std.specs.Int.{div_ceil}
use Rattle.std.specs.List.{fold, list_any}
use Rattle.op_constants.specs.Offsets.{size_in}
use Rattle.op_constants.specs.Shapes.{is_composite}
use Rattle.op_core.specs.Types.{is_same}
use Rattle.op_core.specs.declared.program.Core.{Core}
use Rattle.op_core.specs.declared.routine.Variable.{Variable}
use Rattle.op_places.specs.declared.homes.Home.{Home}
use Rattle.op_places.specs.declared.homes.Home.TheVariants.{Held, Stored}
use Rattle.op_places.specs.declared.homes.Keeping.{Keeping}
use Rattle.op_places.specs.declared.homes.Keeping.TheVariants.{AsGiven, InRegister, InMemory}
use Rattle.op_places.specs.declared.homes.Room.{Room}
use Rattle.op_meaning.specs.Shapes.{is_reference, shape_of}
use Rattle.op_mir.specs.declared.action.Action.{Action}
use Rattle.op_mir.specs.declared.action.Action.TheVariants.{Constant, Load, Store, Copy, Look, BeginWith, Pick, Compute, Do}
use Rattle.op_mir.specs.declared.code.Block.{Block}
use Rattle.op_mir.specs.declared.code.Routine.{Routine}
use Rattle.op_mir.specs.declared.ids.LocalId.{LocalId}
use Rattle.op_mir.specs.declared.instruction.Call.{Call as Operands}
use Rattle.op_mir.specs.declared.instruction.Given.{Given}
use Rattle.op_mir.specs.declared.instruction.Given.TheVariants.{ByValue, ByPlace, ByCopy}
use Rattle.op_mir.specs.declared.instruction.Instruction.{Instruction}
use Rattle.op_mir.specs.declared.instruction.Instruction.TheVariants.{Act, Call, Jump, When, Unless, Switch, Dispatch, MakeDue, OpenTemporaries, EndTemporary, Stop, Return}
use Rattle.op_mir.specs.declared.instruction.Receiver.{Receiver}
use Rattle.op_mir.specs.declared.instruction.Receiver.TheVariants.{Nowhere, Temporary as ToTemporary, Place}
use Rattle.op_mir.specs.declared.path.Root.{Root}
use Rattle.op_mir.specs.declared.path.Root.TheVariants.{Global, Local, Through, Temporary}
use Rattle.op_rt_text.specs.Names.{register}
-- ---- the roots that code needs an address of, each once, in the order in which it names them: variables that are given by place, and
-- ---- temporaries of record and array types

pub use Rattle.op_mir.specs.FrameNeed.{is_one_root, rounded, size_of_root}

abbrev pub with_root : List Root → Root → List Root
with_root roots root = if list_any (is_one_root root) roots then roots else roots ++ root ∷ []

abbrev pub with_temporary : List Root → Root → List Root
with_temporary roots (Global v) = roots
with_temporary roots (Local v) = roots
with_temporary roots (Through v) = roots
with_temporary roots (Temporary of n) = with_root roots (Temporary of n)

abbrev pub with_place : List Root → Root → List Root
with_place roots (Global v) = with_temporary roots (Global v)
with_place roots (Local v) = with_root roots (Local v)
with_place roots (Through v) = with_temporary roots (Through v)
with_place roots (Temporary of n) = with_temporary roots (Temporary of n)

abbrev pub with_given : List Root → Given → List Root
with_given roots (ByValue kind t) = roots
with_given roots (ByPlace path) = with_place roots path.root
with_given roots (ByCopy of path) = with_temporary roots path.root

abbrev pub with_receiver : List Root → Receiver → List Root
with_receiver roots Nowhere = roots
with_receiver roots (ToTemporary t) = roots
with_receiver roots (Place of to) = with_temporary roots to.root

abbrev pub with_call : List Root → Operands → List Root
with_call roots call = with_receiver (fold with_given roots call.given) call.receiver

abbrev pub with_action : List Root → Action → List Root
with_action roots (Constant to n) = roots
with_action roots (Load to kind from) = with_temporary roots from.root
with_action roots (Store to kind from) = with_temporary roots to.root
with_action roots (Copy of to from) = with_temporary (with_temporary roots from.root) to.root
with_action roots (Look at) = with_temporary roots at.root
with_action roots (BeginWith v) = roots
with_action roots (Pick to text index) = roots
with_action roots (Compute c) = roots
with_action roots (Do p operands to) = roots

abbrev pub with_instruction : List Root → Instruction → List Root
with_instruction roots (Act action landing) = with_action roots action
with_instruction roots (Call id call) = with_call roots call
with_instruction roots (Jump block) = roots
with_instruction roots (When t block) = roots
with_instruction roots (Unless t block) = roots
with_instruction roots (Switch t arms) = roots
with_instruction roots (Dispatch t block) = roots
with_instruction roots (MakeDue f) = roots
with_instruction roots (OpenTemporaries ts) = roots
with_instruction roots (EndTemporary t) = roots
with_instruction roots (Stop t) = roots
with_instruction roots Return = roots

abbrev pub with_block : List Root → Block → List Root
with_block roots block = fold with_instruction roots block.code

abbrev pub roots_of : Routine → List Root
roots_of routine = fold with_block [] routine.blocks

-- ---- the homes of variables

-- the variable with this number, of a routine with so many parameters
abbrev pub keeping_of : Core → ℕ → List Root → ℕ → Variable → Keeping
keeping_of core parameters roots k v =
    if is_reference v.role then AsGiven
    else if is_composite (shape_of core v.of) || list_any (is_one_root (Local (record { 0 = k }))) roots then InMemory
    else if nat_lt k parameters then AsGiven
    else InRegister

-- parameters come in the registers from 2 on
abbrev pub parameter : ℕ → ℕ
parameter k = 2 + k

abbrev pub home_by : Keeping → ℕ → Room → Home
home_by AsGiven k room = Held (register (parameter k))
home_by InRegister k room = Held (register room.register)
home_by InMemory k room = Stored room.offset

-- the room that is left behind a variable of so many bytes
abbrev pub room_by : Keeping → ℕ → Room → Room
room_by AsGiven size room = room
room_by InRegister size room = record room { register = room.register + 1 }
room_by InMemory size room = record room { offset = room.offset + rounded size }

-- those of the variables from number k on
abbrev pub homes_from : Core → ℕ → List Root → ℕ → Room → List Variable → List Home
homes_from core parameters roots k room [] = []
homes_from core parameters roots k room (v ∷ vs) =
    let keeping = keeping_of core parameters roots k v in
    home_by keeping k room ∷ homes_from core parameters roots (k + 1) (room_by keeping (size_in core v.of) room) vs

abbrev pub room_behind : Core → ℕ → List Root → ℕ → Room → List Variable → Room
room_behind core parameters roots k room [] = room
room_behind core parameters roots k room (v ∷ vs) =
    room_behind core parameters roots (k + 1) (room_by (keeping_of core parameters roots k v) (size_in core v.of) room) vs

abbrev home_or : Option Home → Home
home_or None = Stored 0
home_or (Some home) = home

abbrev pub home_at : List Home → LocalId → Home
home_at homes v = home_or (slice_get homes v.0)

-- ---- temporaries of record and array types, one behind the other

-- where the temporary begins, if the first root begins at an offset
abbrev pub offset_of : Core → Root → ℕ → List Root → ℕ
offset_of core root offset [] = offset
offset_of core root offset (r ∷ rs) = if is_one_root root r then offset else offset_of core root (offset + size_of_root core r) rs

abbrev pub end_of : Core → ℕ → List Root → ℕ
end_of core offset [] = offset
end_of core offset (r ∷ rs) = end_of core (offset + size_of_root core r) rs
