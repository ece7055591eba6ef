-- The low code of actions.
use Rattle.std.specs.Prelude.{ℕ, zero, ◌+◌, ℤ, pos, negsuc, List, [], ◌∷◌, ◌++◌, length, Option, nat_eq, slice_get, if◌then◌else◌}
use Rattle.op_compute.specs.Bank.{error_block_of, register_of, scratch_of}
use Rattle.op_compute.specs.Computing.{computation_code, constant_code}
use Rattle.op_compute.specs.declared.bank.RuntimeError.TheVariants.{RangeCheck}
use Rattle.op_constants.specs.FirstBytes.{are_zeros, first_bytes, first_number}
use Rattle.op_constants.specs.Literals.{first_of_row}
use Rattle.op_constants.specs.Offsets.{size_in}
use Rattle.op_constants.specs.Shapes.{is_composite}
use Rattle.op_constants.specs.Texts.{number_of}
use Rattle.op_core.specs.declared.ids.TypeId.{TypeId}
use Rattle.op_core.specs.declared.program.Core.{Core}
use Rattle.op_core.specs.declared.routine.Variable.{Variable}
use Rattle.op_core.specs.declared.types.IntegerKind.{IntegerKind}
use Rattle.op_places.specs.Homes.{rounded}
use Rattle.op_places.specs.Moves.{near, load_code, store_code, copy_code, taken_code}
use Rattle.op_places.specs.Places.{place_code, place_of}
use Rattle.op_primitives.specs.Primitives.{primitive_code}
use Rattle.op_places.specs.declared.frame.Frame.{Frame}
use Rattle.op_low.specs.declared.ids.VirtualRegister.{VirtualRegister}
use Rattle.op_low.specs.declared.instruction.Instruction.{Instruction}
use Rattle.op_low.specs.declared.instruction.Instruction.TheVariants.{Const, Address, Alu, AluImm, Branch, Load as LoadWord}
use Rattle.op_meaning.specs.Shapes.{shape_of, type_of_row}
use Rattle.op_meaning.specs.Statements.{kind_of}
use Rattle.op_mir.specs.declared.action.Action.{Action}
use Rattle.op_mir.specs.declared.action.Action.TheVariants.{Constant, Load, Store, Copy, Look, BeginWith, Pick, Compute, Do}
use Rattle.op_mir.specs.declared.ids.LocalId.{LocalId}
use Rattle.op_mir.specs.declared.path.Root.TheVariants.{Local}
use Rattle.op_rt_text.specs.Names.{call, clear_number, literal}
use Rattle.op_rv.specs.Operation.{word_from}
use Rattle.op_rv.specs.declared.instruction.AluOp.TheVariants.{Add}
use Rattle.op_rv.specs.declared.instruction.BranchOp.TheVariants.{Bgeu}
use Rattle.op_rv.specs.declared.instruction.ImmOp.TheVariants.{Addi}
use Rattle.op_rv.specs.declared.instruction.LoadOp.TheVariants.{Lbu}

-- ---- first values of variables

unfoldable pub number_begun : Core → Frame → IntegerKind → ℤ → LocalId → List Instruction
number_begun core frame kind n v =
    Const (scratch_of frame.bank 0) (word_from n) ∷ store_code core frame kind (scratch_of frame.bank 0) (Local v) [] (scratch_of frame.bank 1)

-- from a literal
abbrev pub parts_begun : Core → Frame → (size id : ℕ) → LocalId → List Instruction
parts_begun core frame size id v = Address frame.spare (literal id) ∷ taken_code core frame frame.spare size v

-- zeros in all words of a variable that begins as zero. A run-time routine puts them, and needs two registers too.
unfoldable pub zeros_begun : Core → Frame → (size : ℕ) → LocalId → List Instruction
zeros_begun core frame size v =
    let place = place_of core frame 0 (Local v) [] (scratch_of frame.bank 0) in
    if nat_eq size 0 then Const frame.spare 0 ∷ []
    else
    place_code core frame 0 (Local v) [] (scratch_of frame.bank 0)
    ++ Const frame.spare (rounded size)
    ∷ call clear_number (place.base ∷ frame.spare ∷ []) frame.spare
    ∷ []

abbrev pub composite_begun : Core → Frame → (texts : List (List ℕ)) → (size : ℕ) → (bytes : List ℕ) → LocalId → List Instruction
composite_begun core frame texts size bytes v = if are_zeros bytes then zeros_begun core frame size v else parts_begun core frame size (number_of texts bytes) v

-- a variable of the type, whose row tells what it begins with
unfoldable pub begun_by : Core → Frame → (texts : List (List ℕ)) → LocalId → TypeId → Option Variable → List Instruction
begun_by core frame texts v of row =
    if is_composite (shape_of core of) then composite_begun core frame texts (size_in core of) (first_bytes core of (first_of_row row)) v
    else number_begun core frame (kind_of core of) (first_number (first_of_row row)) v

abbrev pub row_of : Core → Frame → LocalId → Option Variable
row_of core frame v = slice_get core.variables (frame.first + v.0)

abbrev pub begun_code : Core → Frame → (texts : List (List ℕ)) → LocalId → List Instruction
begun_code core frame texts v = begun_by core frame texts v (type_of_row (row_of core frame v)) (row_of core frame v)

-- ---- literals

-- error 201 where the index is not from 1 to the length
abbrev pub pick_code : Frame → (id : ℕ) → (to : VirtualRegister) → (size : ℕ) → (index : VirtualRegister) → List Instruction
pick_code frame id to size index =
    let place = scratch_of frame.bank 0 in
    let via = scratch_of frame.bank 1 in
    AluImm Addi place index (negsuc 0)
    ∷ Const via size
    ∷ Branch Bgeu place via (error_block_of frame.bank RangeCheck)
    ∷ Address via (literal id)
    ∷ Alu Add place via place
    ∷ LoadWord Lbu to place (pos 0)
    ∷ []

-- ---- actions, where these texts are the literals

abbrev pub action_code : Core → Frame → (texts : List (List ℕ)) → Action → List Instruction
action_code core frame texts (Constant to n) = constant_code (register_of frame.bank to) n
action_code core frame texts (Load to kind from) = load_code core frame kind (register_of frame.bank to) from.root from.steps (scratch_of frame.bank 0)
action_code core frame texts (Store to kind from) = store_code core frame kind (register_of frame.bank from) to.root to.steps (scratch_of frame.bank 0)
action_code core frame texts (Copy of to from) = copy_code core frame of to from
action_code core frame texts (Look at) = place_code core frame near at.root at.steps (scratch_of frame.bank 0) ++ Const (scratch_of frame.bank 0) 0 ∷ []
action_code core frame texts (BeginWith v) = begun_code core frame texts v
action_code core frame texts (Pick to text index) = pick_code frame (number_of texts text) (register_of frame.bank to) (length text) (register_of frame.bank index)
action_code core frame texts (Compute c) = computation_code frame.bank c
action_code core frame texts (Do p operands to) = primitive_code frame texts p operands to
