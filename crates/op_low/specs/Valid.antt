-- Low code that names only what exists, and has its operands in range.
use Rattle.std.specs.Prelude.{ℕ, ℤ, ◌-◌, ◌%◌, ◌^◌, Bool, true, false, ◌&&◌, Option, Some, None, List, length, slice_get, nat_eq, nat_lt, nat_le}
use Rattle.std.specs.List.{list_all}
use Rattle.op_rv.specs.Encoding.{is_imm}
use Rattle.op_low.specs.declared.code.Block.{Block}
use Rattle.op_low.specs.declared.code.Low.{Low}
use Rattle.op_low.specs.declared.code.Routine.{Routine}
use Rattle.op_rv.specs.declared.symbol.BlockId.{BlockId}
use Rattle.op_rv.specs.declared.symbol.RoutineId.{RoutineId}
use Rattle.op_rv.specs.declared.symbol.Symbol.{Symbol}
use Rattle.op_rv.specs.declared.symbol.Symbol.TheVariants.{Literal, Table, Descriptor, Global, Routine as RoutineSymbol}
use Rattle.op_low.specs.declared.ids.VirtualRegister.{VirtualRegister}
use Rattle.op_low.specs.declared.instruction.Call.{Call as Operands}
use Rattle.op_low.specs.declared.instruction.Instruction.{Instruction}
use Rattle.op_low.specs.declared.instruction.Instruction.TheVariants.{Const, Address, Local, Move, Alu, AluImm, Shift, Load, Store, Call, CallAt, Branch, Jump, Return, Raise, Read, Write, Exit}

-- ---- what is named exists

abbrev pub has : Routine → VirtualRegister → Bool
has routine r = nat_lt r.0 routine.registers

abbrev pub has_two : Routine → VirtualRegister → VirtualRegister → Bool
has_two routine a b = has routine a && has routine b

abbrev pub has_three : Routine → VirtualRegister → VirtualRegister → VirtualRegister → Bool
has_three routine a b c = has routine a && has routine b && has routine c

unfoldable pub has_all : Routine → List VirtualRegister → Bool
has_all routine rs = list_all (has routine) rs

abbrev pub has_block : Routine → BlockId → Bool
has_block routine block = nat_lt block.0 (length routine.blocks)

-- a call with no landing names no block
abbrev pub has_landing : Routine → Option BlockId → Bool
has_landing routine None = true
has_landing routine (Some block) = has_block routine block

unfoldable pub has_symbol : Low → Symbol → Bool
has_symbol low (Literal id) = nat_lt id.0 low.counts.literals
has_symbol low (Table id) = nat_lt id.0 low.counts.tables
has_symbol low (Descriptor id) = nat_lt id.0 low.counts.descriptors
has_symbol low (Global id) = nat_lt id.0 (length low.globals)
has_symbol low (RoutineSymbol id) = nat_lt id.0 (length low.routines)

-- there is such a routine, with so many parameters
abbrev pub takes : Option Routine → ℕ → Bool
takes None arguments = false
takes (Some routine) arguments = nat_eq routine.parameters arguments

-- ---- instructions

-- the number is a word
unfoldable pub const_fits : Routine → VirtualRegister → ℕ → Bool
const_fits routine to n = has routine to && nat_lt n (2 ^ 32)

unfoldable pub address_fits : Low → Routine → VirtualRegister → Symbol → Bool
address_fits low routine to symbol = has routine to && has_symbol low symbol

-- the byte is one of the locals
unfoldable pub local_fits : Routine → VirtualRegister → ℕ → Bool
local_fits routine to offset = has routine to && nat_lt offset routine.locals

unfoldable pub imm_fits : Routine → VirtualRegister → VirtualRegister → ℤ → Bool
imm_fits routine a b imm = has_two routine a b && is_imm imm

unfoldable pub shift_fits : Routine → VirtualRegister → VirtualRegister → ℕ → Bool
shift_fits routine to left amount = has_two routine to left && nat_lt amount 32

unfoldable pub branch_fits : Routine → VirtualRegister → VirtualRegister → BlockId → Bool
branch_fits routine left right block = has_two routine left right && has_block routine block

unfoldable pub operands_fit : Routine → Operands → Bool
operands_fit routine operands =
    has_all routine operands.arguments && has routine operands.to && has_landing routine operands.landing

unfoldable pub call_fits : Low → Routine → RoutineId → Operands → Bool
call_fits low routine id operands =
    takes (slice_get low.routines id.0) (length operands.arguments) && operands_fit routine operands

unfoldable pub call_at_fits : Routine → VirtualRegister → Operands → Bool
call_at_fits routine address operands = has routine address && operands_fit routine operands

unfoldable pub is_valid_instruction : Low → Routine → Instruction → Bool
is_valid_instruction low routine (Const to n) = const_fits routine to n
is_valid_instruction low routine (Address to symbol) = address_fits low routine to symbol
is_valid_instruction low routine (Local to offset) = local_fits routine to offset
is_valid_instruction low routine (Move to from) = has_two routine to from
is_valid_instruction low routine (Alu op to left right) = has_three routine to left right
is_valid_instruction low routine (AluImm op to left imm) = imm_fits routine to left imm
is_valid_instruction low routine (Shift op to left amount) = shift_fits routine to left amount
is_valid_instruction low routine (Load op to base offset) = imm_fits routine to base offset
is_valid_instruction low routine (Store op v base offset) = imm_fits routine v base offset
is_valid_instruction low routine (Call id operands) = call_fits low routine id operands
is_valid_instruction low routine (CallAt address operands) = call_at_fits routine address operands
is_valid_instruction low routine (Branch op left right block) = branch_fits routine left right block
is_valid_instruction low routine (Jump block) = has_block routine block
is_valid_instruction low routine (Return v) = has routine v
is_valid_instruction low routine Raise = true
is_valid_instruction low routine (Read to buffer size) = has_three routine to buffer size
is_valid_instruction low routine (Write output buffer size) = has_two routine buffer size
is_valid_instruction low routine (Exit status) = has routine status

-- ---- blocks, routines and programs

-- the code never goes on behind it
unfoldable pub leaves : Instruction → Bool
leaves (Const to n) = false
leaves (Address to symbol) = false
leaves (Local to offset) = false
leaves (Move to from) = false
leaves (Alu op to left right) = false
leaves (AluImm op to left imm) = false
leaves (Shift op to left amount) = false
leaves (Load op to base offset) = false
leaves (Store op v base offset) = false
leaves (Call id call) = false
leaves (CallAt address call) = false
leaves (Branch op left right block) = false
leaves (Jump block) = true
leaves (Return v) = true
leaves Raise = true
leaves (Read to buffer size) = false
leaves (Write output buffer size) = false
leaves (Exit status) = true

abbrev pub leaves_if : Option Instruction → Bool
leaves_if None = false
leaves_if (Some i) = leaves i

unfoldable pub is_valid_block : Low → Routine → Block → Bool
is_valid_block low routine block =
    leaves_if (slice_get block.code (length block.code - 1)) && list_all (is_valid_instruction low routine) block.code

-- registers, and bytes of locals: either alone fills the largest stack
abbrev pub most_registers : ℕ
most_registers = 2 ^ 24

abbrev pub most_locals : ℕ
most_locals = 2 ^ 26

-- its sizes are in range
unfoldable pub is_sized : Routine → Bool
is_sized routine =
    nat_le routine.parameters routine.registers
    && nat_le routine.registers most_registers
    && nat_le routine.locals most_locals
    && nat_eq (routine.locals % 4) 0
    && nat_lt 0 (length routine.blocks)

unfoldable pub is_valid_routine : Low → Routine → Bool
is_valid_routine low routine = is_sized routine && list_all (is_valid_block low routine) routine.blocks

unfoldable pub is_valid : Low → Bool
is_valid low = takes (slice_get low.routines low.entry.0) 0 && list_all (is_valid_routine low) low.routines
