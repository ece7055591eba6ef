-- The items of low code: a list for each instruction.
use Rattle.std.specs.Prelude.{ℕ, ◌-◌, ◌^◌, Option, Some, None, List, [], ◌∷◌, ◌++◌, length, map, min}
use Rattle.std.specs.List.{flat_map}
use Rattle.op_low.specs.declared.code.Block.{Block}
use Rattle.op_low.specs.declared.code.Low.{Low}
use Rattle.op_low.specs.declared.code.Routine.{Routine}
use Rattle.op_low.specs.declared.ids.VirtualRegister.{VirtualRegister}
use Rattle.op_low.specs.declared.instruction.Instruction.{Instruction}
use Rattle.op_low.specs.declared.instruction.Instruction.TheVariants.{Const, Address, Local, Move, Alu, AluImm, Shift, Load, Store, Call, CallAt, Branch, Jump, Return, Raise, Read, Write, Exit}
use Rattle.op_low.specs.declared.instruction.Output.{Output}
use Rattle.op_low.specs.declared.instruction.Output.TheVariants.{Console, Errors}
use Rattle.op_rv.specs.declared.instruction.BranchOp.TheVariants.{Bne}
use Rattle.op_rv.specs.declared.instruction.Instr.{Instr}
use Rattle.op_rv.specs.declared.instruction.Instr.TheVariants.{Ecall, Alu as AluInstr, Imm as ImmInstr, Load as LoadInstr, Shift as ShiftInstr, Store as StoreInstr}
use Rattle.op_rv.specs.declared.objects.Item.{Item}
use Rattle.op_rv.specs.declared.objects.Item.TheVariants.{Plain, Address as AddressItem, Branch as BranchItem, Call as CallItem, CallAt as CallAtItem, Jump as JumpItem}
use Rattle.op_rv.specs.declared.objects.ObjectBlock.{ObjectBlock}
use Rattle.op_rv.specs.declared.objects.ObjectRoutine.{ObjectRoutine}
use Rattle.op_rv.specs.declared.objects.Objects.{Objects}
use Rattle.op_rv.specs.declared.symbol.BlockId.{BlockId}
use Rattle.op_select.specs.Frames.{bring, fetch, keep, operand, passed, put, head_of, epilogue}
use Rattle.op_select.specs.Sequences.{x0, ra, s0, a0, a1, a2, a7, below, constant, small, sum}

-- ---- calls

-- the block behind the others, which raises
unfoldable pub raise_block : Routine → BlockId
raise_block routine = record { 0 = min (length routine.blocks) (2 ^ 32 - 1) }

-- where a call goes on that raises; with no landing the caller raises in its turn
unfoldable pub landing_of : Routine → Option BlockId → BlockId
landing_of routine None = raise_block routine
landing_of routine (Some block) = block

-- behind a call: a1 says whether it raised
unfoldable pub answered : Routine → (to : VirtualRegister) → (landing : Option BlockId) → List Item
answered routine to landing = BranchItem Bne a1 x0 (landing_of routine landing) ∷ keep routine to a0

-- ---- environment calls

abbrev pub descriptor_of : Output → ℕ
descriptor_of Console = 1
descriptor_of Errors = 2

-- on the bytes in a1 and a2
abbrev pub transfer : Routine → (buffer size : VirtualRegister) → (descriptor number : ℕ) → List Item
transfer routine buffer size descriptor number =
    fetch routine a1 buffer ++ fetch routine a2 size ++ small a0 descriptor ++ small a7 number ++ Plain Ecall ∷ []

-- ---- instructions

-- the register that a result is written to
abbrev pub target : Routine → VirtualRegister → ℕ
target routine to = operand routine a0 to

-- what an instruction makes of one operand
abbrev pub computed : Routine → (from : VirtualRegister) → Instr → (to : VirtualRegister) → List Item
computed routine from instr to = bring routine a0 from ++ Plain instr ∷ put routine to

unfoldable pub items_of : Routine → Instruction → List Item
items_of routine (Const to n) = constant (target routine to) n ++ put routine to
items_of routine (Address to symbol) = AddressItem (target routine to) symbol ∷ put routine to
items_of routine (Local to offset) =
    sum (target routine to) s0 (target routine to) (below (routine.locals - offset)) ++ put routine to
items_of routine (Move to from) = fetch routine (target routine to) from ++ put routine to
items_of routine (Alu op to left right) =
    bring routine a0 left
    ++ bring routine a1 right
    ++ Plain (AluInstr op (target routine to) (operand routine a0 left) (operand routine a1 right))
    ∷ put routine to
items_of routine (AluImm op to left imm) =
    computed routine left (ImmInstr op (target routine to) (operand routine a0 left) imm) to
items_of routine (Shift op to left amount) =
    computed routine left (ShiftInstr op (target routine to) (operand routine a0 left) amount) to
items_of routine (Load op to base offset) =
    computed routine base (LoadInstr op (target routine to) (operand routine a0 base) offset) to
items_of routine (Store op value base offset) =
    bring routine a0 base
    ++ bring routine a1 value
    ++ Plain (StoreInstr op (operand routine a0 base) (operand routine a1 value) offset)
    ∷ []
items_of routine (Call id call) = passed routine 0 call.arguments ++ CallItem id call.landing ∷ answered routine call.to call.landing
items_of routine (CallAt address call) =
    passed routine 0 call.arguments ++ fetch routine ra address ++ CallAtItem call.landing ∷ answered routine call.to call.landing
items_of routine (Branch op left right block) =
    bring routine a0 left
    ++ bring routine a1 right
    ++ BranchItem op (operand routine a0 left) (operand routine a1 right) block
    ∷ []
items_of routine (Jump block) = JumpItem block ∷ []
items_of routine (Return value) = fetch routine a0 value ++ small a1 0 ++ epilogue routine
items_of routine Raise = small a1 1 ++ epilogue routine
items_of routine (Read to buffer size) = transfer routine buffer size 0 63 ++ keep routine to a0
items_of routine (Write output buffer size) = transfer routine buffer size (descriptor_of output) 64
items_of routine (Exit status) = fetch routine a0 status ++ small a7 93 ++ Plain Ecall ∷ []

-- ---- blocks, routines and programs

unfoldable pub code_items : Routine → List Instruction → List Item
code_items routine code = flat_map (items_of routine) code

unfoldable pub object_block_of : Routine → Block → ObjectBlock
object_block_of routine block = record { items = code_items routine block.code }

-- the blocks, and one that raises for the calls with no landing
unfoldable pub object_routine_of : Routine → ObjectRoutine
object_routine_of routine =
    record {
      head = head_of routine;
      blocks = map (object_block_of routine) routine.blocks ++ record { items = items_of routine Raise } ∷ [];
    }

unfoldable pub select_of : Low → Objects
select_of low =
    record { routines = map object_routine_of low.routines; entry = low.entry; globals = low.globals }
