-- Routines of managed code as routines of low code.
use Rattle.std.specs.Prelude.{ℕ, ◌+◌, ◌^◌, pos, List, [], ◌∷◌, ◌++◌, length, nat_eq, nat_lt, take, if◌then◌else◌}
use Rattle.op_compute.specs.Bank.{register_of, scratch_of, work_of}
use Rattle.op_compute.specs.Branches.{block_of, dispatch_code, false_code, switch_code, true_code}
use Rattle.op_constants.specs.Offsets.{size_in}
use Rattle.op_constants.specs.Shapes.{is_composite}
use Rattle.op_core.specs.Rows.{rows}
use Rattle.op_core.specs.declared.ids.TypeId.{TypeId}
use Rattle.op_core.specs.declared.program.Core.{Core}
use Rattle.op_core.specs.declared.routine.Variable.{Variable}
use Rattle.op_expand.specs.Calls.{call_code, due_code, left, result_address, return_code, stop_code}
use Rattle.op_places.specs.Frames.{frame_of, parameters_of}
use Rattle.op_places.specs.Homes.{home_at, parameter}
use Rattle.op_expand.specs.Actions.{action_code}
use Rattle.op_places.specs.Moves.{store_code, taken_code}
use Rattle.op_expand.specs.Registers.{registers_in}
use Rattle.op_places.specs.declared.frame.Frame.{Frame}
use Rattle.op_places.specs.declared.frame.Returning.{Returning}
use Rattle.op_places.specs.declared.frame.Returning.TheVariants.{Ending}
use Rattle.op_places.specs.declared.homes.Home.{Home}
use Rattle.op_places.specs.declared.homes.Home.TheVariants.{Stored}
use Rattle.op_low.specs.declared.code.Block.{Block as LowBlock}
use Rattle.op_low.specs.declared.code.Routine.{Routine as LowRoutine}
use Rattle.op_low.specs.declared.instruction.Instruction.{Instruction as LowInstruction}
use Rattle.op_low.specs.declared.instruction.Instruction.TheVariants.{Address, Const, Exit, Jump as LowJump, Load, Write}
use Rattle.op_low.specs.declared.instruction.Output.TheVariants.{Errors}
use Rattle.op_meaning.specs.Shapes.{shape_of, variables_of}
use Rattle.op_meaning.specs.Statements.{kind_of}
use Rattle.op_mir.specs.declared.code.Block.{Block}
use Rattle.op_mir.specs.declared.code.Mir.{Mir}
use Rattle.op_mir.specs.declared.code.Routine.{Routine}
use Rattle.op_mir.specs.declared.instruction.Instruction.{Instruction}
use Rattle.op_mir.specs.declared.instruction.Instruction.TheVariants.{Act, Call, Jump, When, Unless, Switch, Dispatch, MakeDue, OpenTemporaries, EndTemporary, Stop, Return}
use Rattle.op_mir.specs.declared.path.Root.TheVariants.{Local}
use Rattle.op_rt_text.specs.Names.{literal, register}
use Rattle.op_rv.specs.declared.instruction.LoadOp.TheVariants.{Lw}
use Rattle.op_rv.specs.declared.symbol.Symbol.TheVariants.{Global}

-- ---- instructions, where these texts are the literals; temporaries that end have no low code yet

abbrev pub instruction_code : Core → Mir → Frame → (texts : List (List ℕ)) → Instruction → List LowInstruction
instruction_code core mir frame texts (Act action landing) = action_code core frame texts action
instruction_code core mir frame texts (Call r operands) = call_code core mir frame r.0 operands
instruction_code core mir frame texts (Jump block) = LowJump (block_of block) ∷ []
instruction_code core mir frame texts (When t block) = true_code (work_of frame.bank) (register_of frame.bank t) block
instruction_code core mir frame texts (Unless t block) = false_code (work_of frame.bank) (register_of frame.bank t) block
instruction_code core mir frame texts (Switch t arms) = switch_code (work_of frame.bank) (register_of frame.bank t) arms
instruction_code core mir frame texts (Dispatch t block) = dispatch_code (work_of frame.bank) (register_of frame.bank t) block
instruction_code core mir frame texts (MakeDue f) = due_code core frame
instruction_code core mir frame texts (OpenTemporaries ts) = []
instruction_code core mir frame texts (EndTemporary t) = []
instruction_code core mir frame texts (Stop t) = stop_code core (register_of frame.bank t)
instruction_code core mir frame texts Return = return_code core frame frame.returning

abbrev pub code_of : Core → Mir → Frame → (texts : List (List ℕ)) → List Instruction → List LowInstruction
code_of core mir frame texts [] = []
code_of core mir frame texts (i ∷ is) = instruction_code core mir frame texts i ++ code_of core mir frame texts is

-- ---- the beginning of a routine

-- a parameter by value that has an address: it came as a number, or as the address of what is copied
abbrev pub received_number : Core → Frame → (k : ℕ) → TypeId → List LowInstruction
received_number core frame k of =
    store_code core frame (kind_of core of) (register (parameter k)) (Local (record { 0 = k })) [] (scratch_of frame.bank 0)

abbrev received_by : Core → Frame → (k : ℕ) → TypeId → Home → List LowInstruction
received_by core frame k of (Stored offset) = if is_composite (shape_of core of) then taken_code core frame (register (parameter k)) (size_in core of) (record { 0 = k }) else received_number core frame k of
received_by core frame k of _ = []

abbrev pub received : Core → Frame → (k : ℕ) → Variable → List LowInstruction
received core frame k v = received_by core frame k v.of (home_at frame.homes (record { 0 = k }))

-- the parameters from number k on
abbrev pub all_received : Core → Frame → (k : ℕ) → List Variable → List LowInstruction
all_received core frame k [] = []
all_received core frame k (v ∷ vs) = received core frame k v ++ all_received core frame (k + 1) vs

-- the program itself begins with all of the stack, which a global variable behind the others tells
abbrev pub begun_with_stack : Core → List LowInstruction
begun_with_stack core = Address left (Global (record { 0 = length core.variables })) ∷ Load Lw left left (pos 0) ∷ []

abbrev beginning_by : Core → Frame → (r : ℕ) → Returning → List LowInstruction
beginning_by core frame r Ending = begun_with_stack core
beginning_by core frame r _ = all_received core frame 0 (take (parameters_of core r) (rows core.variables (variables_of core r)))

abbrev pub beginning : Core → Frame → (r : ℕ) → List LowInstruction
beginning core frame r = beginning_by core frame r frame.returning

-- ---- blocks

-- the error with this number and a literal of 18 bytes ends the program; its code needs no registers of the routine
abbrev pub error_code : (error id : ℕ) → List LowInstruction
error_code error id =
    Address left (literal id)
    ∷ Const result_address 18
    ∷ Write Errors left result_address
    ∷ Const left error
    ∷ Exit left
    ∷ []

abbrev pub error_block : (error id : ℕ) → LowBlock
error_block error id = record { code = error_code error id }

abbrev pub error_blocks : List LowBlock
error_blocks = error_block 200 3 ∷ error_block 201 4 ∷ error_block 202 5 ∷ error_block 215 6 ∷ []

-- so much stands in front of the first block
abbrev pub blocks_of : Core → Mir → Frame → (texts : List (List ℕ)) → List LowInstruction → List Block → List LowBlock
blocks_of core mir frame texts front [] = []
blocks_of core mir frame texts front (b ∷ bs) = record { code = front ++ code_of core mir frame texts b.code } ∷ blocks_of core mir frame texts [] bs

-- ---- routines

-- no stack has room for more
abbrev pub most_charge : ℕ
most_charge = 2 ^ 26

abbrev pub all_blocks : Core → Mir → (texts : List (List ℕ)) → (r : ℕ) → Routine → List LowBlock
all_blocks core mir texts r routine =
    let frame = frame_of core r routine in
    blocks_of core mir frame texts (beginning core frame r) routine.blocks ++ error_blocks

-- the program itself takes nothing
abbrev pub low_parameters : Core → (r : ℕ) → ℕ
low_parameters core r = if nat_eq r (length core.routines) then 0 else parameter (parameters_of core r)

abbrev pub routine_with : (parameters locals : ℕ) → List LowBlock → LowRoutine
routine_with parameters locals blocks = record {
  parameters = parameters;
  registers = registers_in parameters blocks;
  locals = locals;
  blocks = blocks;
}

-- what is charged more than any stack has ends with error 202 at once
abbrev pub low_routine : Core → Mir → (texts : List (List ℕ)) → (r : ℕ) → Routine → LowRoutine
low_routine core mir texts r routine =
    if nat_lt most_charge routine.charge then routine_with (low_parameters core r) 0 (error_block 202 5 ∷ [])
    else routine_with (low_parameters core r) (frame_of core r routine).locals (all_blocks core mir texts r routine)
