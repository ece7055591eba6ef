-- Calls, returns, and where a program ends. (Free Pascal Reference Guide, "Using functions and procedures", "Function results",
-- "Parameter lists" and "Units".)
use Rattle.std.specs.Prelude.{◌+◌, ◌-◌, ◌^◌, ℕ, pos, Bool, true, false, min, List, [], ◌∷◌, ◌++◌, length, Option, Some, None, slice_get, if◌then◌else◌}
use Rattle.std.specs.List.{list_any}
use Rattle.std.specs.Option.{option_to_list}
use Rattle.op_compute.specs.Bank.{error_block_of, register_of, scratch_of}
use Rattle.op_compute.specs.Conversions.{low_bits_code}
use Rattle.op_compute.specs.declared.bank.RuntimeError.TheVariants.{StackOverflow}
use Rattle.op_constants.specs.Offsets.{size_in}
use Rattle.op_constants.specs.Shapes.{is_composite}
use Rattle.op_core.specs.declared.ids.RoutineId.{RoutineId}
use Rattle.op_core.specs.declared.ids.TypeId.{TypeId}
use Rattle.op_core.specs.declared.program.Core.{Core}
use Rattle.op_core.specs.declared.program.Unit.{Unit as UnitRow}
use Rattle.op_core.specs.declared.types.IntegerKind.{IntegerKind}
use Rattle.op_core.specs.declared.types.IntegerKind.TheVariants.{Signed32}
use Rattle.op_places.specs.Homes.{parameter}
use Rattle.op_places.specs.Moves.{by_words, bytes_code, held, limit_of, load_code}
use Rattle.op_places.specs.Places.{at_register, at_scratch, place_code, place_of}
use Rattle.op_places.specs.declared.frame.Frame.{Frame}
use Rattle.op_places.specs.declared.frame.Returning.{Returning}
use Rattle.op_places.specs.declared.frame.Returning.TheVariants.{Ending, Nothing, Result}
use Rattle.op_places.specs.declared.spot.Spot.{Spot}
use Rattle.op_low.specs.declared.ids.VirtualRegister.{VirtualRegister}
use Rattle.op_low.specs.declared.instruction.Instruction.{Instruction}
use Rattle.op_low.specs.declared.instruction.Instruction.TheVariants.{Address, AluImm, Const, Alu, Branch, Exit, Load, Move, Return, Store}
use Rattle.op_meaning.specs.Shapes.{shape_of}
use Rattle.op_meaning.specs.Statements.{kind_of}
use Rattle.op_mir.specs.declared.code.Mir.{Mir}
use Rattle.op_mir.specs.declared.code.Routine.{Routine}
use Rattle.op_mir.specs.declared.ids.LocalId.{LocalId}
use Rattle.op_mir.specs.declared.instruction.Call.{Call}
use Rattle.op_mir.specs.declared.instruction.Given.{Given}
use Rattle.op_mir.specs.declared.instruction.Given.TheVariants.{ByValue, ByPlace, ByCopy}
use Rattle.op_mir.specs.declared.instruction.Receiver.{Receiver}
use Rattle.op_mir.specs.declared.instruction.Receiver.TheVariants.{Nowhere, Temporary, Place}
use Rattle.op_mir.specs.declared.path.Root.TheVariants.{Local}
use Rattle.op_rt_text.specs.Names.{call, register}
use Rattle.op_rv.specs.declared.instruction.AluOp.TheVariants.{Sub}
use Rattle.op_rv.specs.declared.instruction.BranchOp.TheVariants.{Bltu}
use Rattle.op_rv.specs.declared.instruction.ImmOp.TheVariants.{Addi}
use Rattle.op_rv.specs.declared.instruction.LoadOp.TheVariants.{Lw}
use Rattle.op_rv.specs.declared.instruction.StoreOp.TheVariants.{Sw}
use Rattle.op_rv.specs.declared.symbol.Symbol.{Symbol}
use Rattle.op_rv.specs.declared.symbol.Symbol.TheVariants.{Global}

-- the bytes of stack that are left
abbrev pub left : VirtualRegister
left = register 0

-- the address where a result of a record or array type goes
abbrev pub result_address : VirtualRegister
result_address = register 1

-- how many run-time routines stand in front of the program's
abbrev pub runtime : ℕ
runtime = 9

-- ---- arguments: the code of each, and the register that has it

abbrev pub value_code : IntegerKind → (from free : VirtualRegister) → List Instruction
value_code Signed32 from free = []
value_code kind from free = low_bits_code free kind from

abbrev pub value_spot : IntegerKind → (from free : VirtualRegister) → Spot
value_spot Signed32 from free = at_register from free
value_spot kind from free = at_scratch free

abbrev pub given_code : Core → Frame → Given → VirtualRegister → List Instruction
given_code core frame (ByValue kind t) free = value_code kind (register_of frame.bank t) free
given_code core frame (ByPlace path) free = place_code core frame 0 path.root path.steps free
given_code core frame (ByCopy of path) free = place_code core frame 0 path.root path.steps free

abbrev pub given_spot : Core → Frame → Given → VirtualRegister → Spot
given_spot core frame (ByValue kind t) free = value_spot kind (register_of frame.bank t) free
given_spot core frame (ByPlace path) free = place_of core frame 0 path.root path.steps free
given_spot core frame (ByCopy of path) free = place_of core frame 0 path.root path.steps free

abbrev pub givens_code : Core → Frame → List Given → VirtualRegister → List Instruction
givens_code core frame [] free = []
givens_code core frame (g ∷ gs) free = given_code core frame g free ++ givens_code core frame gs (given_spot core frame g free).free

abbrev pub givens_in : Core → Frame → List Given → VirtualRegister → List VirtualRegister
givens_in core frame [] free = []
givens_in core frame (g ∷ gs) free = (given_spot core frame g free).base ∷ givens_in core frame gs (given_spot core frame g free).free

-- ---- results

abbrev pub receiver_code : Core → Frame → Receiver → VirtualRegister → List Instruction
receiver_code core frame Nowhere free = []
receiver_code core frame (Temporary t) free = []
receiver_code core frame (Place of to) free = place_code core frame 0 to.root to.steps free

-- what has no address is passed the bytes that are left, which nobody reads there
abbrev pub receiver_spot : Core → Frame → Receiver → VirtualRegister → Spot
receiver_spot core frame Nowhere free = at_register left free
receiver_spot core frame (Temporary t) free = at_register left free
receiver_spot core frame (Place of to) free = place_of core frame 0 to.root to.steps free

abbrev pub receiver_of : Frame → Receiver → VirtualRegister → VirtualRegister
receiver_of frame Nowhere free = free
receiver_of frame (Temporary t) free = register_of frame.bank t
receiver_of frame (Place of to) free = free

-- ---- calls

-- as far as a word has it: no stack has more
abbrev charge_by : Option Routine → ℕ
charge_by None = 0
charge_by (Some routine) = min routine.charge (2 ^ 32 - 1)

abbrev pub charge_of : Mir → ℕ → ℕ
charge_of mir r = charge_by (slice_get mir.routines r)

-- the stack is charged behind the arguments: error 202 where there is less left
abbrev pub charging_code : Frame → (to : VirtualRegister) → ℕ → List Instruction
charging_code frame to charge =
    Const to charge ∷ Branch Bltu left to (error_block_of frame.bank StackOverflow) ∷ Alu Sub to left to ∷ []

abbrev pub call_code : Core → Mir → Frame → (r : ℕ) → Call → List Instruction
call_code core mir frame r operands =
    let given = scratch_of frame.bank 0 in
    let result = receiver_spot core frame operands.receiver (scratch_of frame.bank 1) in
    receiver_code core frame operands.receiver (scratch_of frame.bank 1)
    ++ givens_code core frame operands.given result.free
    ++ charging_code frame given (charge_of mir r)
    ++ call (runtime + r) (given ∷ result.base ∷ givens_in core frame operands.given result.free) (receiver_of frame operands.receiver given) ∷ []

-- ---- where a program ends

-- the finalization parts, in the order in which they become due
abbrev pub finalizations_of : List UnitRow → List RoutineId
finalizations_of [] = []
finalizations_of (u ∷ us) = option_to_list u.finalization ++ finalizations_of us

abbrev pub finalizations : Core → List RoutineId
finalizations core = finalizations_of core.units

abbrev pub is_there : {A : Type 0} → Option A → Bool
is_there None = false
is_there (Some a) = true

-- whether a program has some
abbrev pub has_closing : Core → Bool
has_closing core = list_any (λ u. is_there u.finalization) core.units

-- Those that are due are counted by the word that tells the bytes of stack: it is so much more than these, which the program reads once, at its
-- beginning.
abbrev pub due_word : Core → Symbol
due_word core = Global (record { 0 = length core.variables })

-- one more is due
abbrev pub due_code : Core → Frame → List Instruction
due_code core frame =
    Address (scratch_of frame.bank 0) (due_word core)
    ∷ Load Lw (scratch_of frame.bank 1) (scratch_of frame.bank 0) (pos 0)
    ∷ AluImm Addi (scratch_of frame.bank 1) (scratch_of frame.bank 1) (pos 1)
    ∷ Store Sw (scratch_of frame.bank 1) (scratch_of frame.bank 0) (pos 0)
    ∷ []

-- The closing is a routine behind all others. It takes the bytes of stack that are left and the status, and never returns.
abbrev pub closing_number : Core → ℕ
closing_number core = runtime + length core.routines + 1

abbrev pub closing_call : Core → VirtualRegister → Instruction
closing_call core status = call (closing_number core) (left ∷ status ∷ []) left

-- the program ends with the status in a register, once its finalization parts are done
abbrev pub stop_code : Core → VirtualRegister → List Instruction
stop_code core status = if has_closing core then closing_call core status ∷ [] else Move left status ∷ Exit left ∷ []

-- and with 0 where it returns; code always leaves its block, so there is an end behind the call
abbrev pub ending_code : Core → Frame → List Instruction
ending_code core frame =
    if has_closing core then Const (scratch_of frame.bank 0) 0 ∷ closing_call core (scratch_of frame.bank 0) ∷ Exit left ∷ []
    else Const left 0 ∷ Exit left ∷ []

-- ---- returns; they take registers in which nothing stands any more

abbrev number_by : Core → Frame → IntegerKind → LocalId → Option VirtualRegister → List Instruction
number_by core frame kind v (Some r) = Return r ∷ []
number_by core frame kind v None = load_code core frame kind left (Local v) [] left ++ Return left ∷ []

abbrev pub number_code : Core → Frame → IntegerKind → LocalId → List Instruction
number_code core frame kind v = number_by core frame kind v (held core frame (Local v) [])

unfoldable pub parts_code : Core → Frame → TypeId → LocalId → List Instruction
parts_code core frame of v =
    let limit = limit_of (by_words core of) (size_in core of) in
    place_code core frame limit (Local v) [] left
    ++ bytes_code (by_words core of) (size_in core of) (place_of core frame limit (Local v) [] left) (at_register result_address (register (parameter 0)))
    ++ Return left ∷ []

abbrev pub result_code : Core → Frame → TypeId → LocalId → List Instruction
result_code core frame of v = if is_composite (shape_of core of) then parts_code core frame of v else number_code core frame (kind_of core of) v

abbrev pub return_code : Core → Frame → Returning → List Instruction
return_code core frame Ending = ending_code core frame
return_code core frame Nothing = Return left ∷ []
return_code core frame (Result of v) = result_code core frame of v
