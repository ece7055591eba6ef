-- How many registers low code names.
use Rattle.std.specs.Prelude.{ℕ, ◌+◌, max, List}
use Rattle.std.specs.List.{fold}
use Rattle.op_low.specs.declared.code.Block.{Block}
use Rattle.op_low.specs.declared.ids.VirtualRegister.{VirtualRegister}
use Rattle.op_low.specs.declared.instruction.Call.{Call as Operands}
use Rattle.op_low.specs.declared.instruction.Instruction.{Instruction}
use Rattle.op_low.specs.declared.instruction.Instruction.TheVariants.{Const, Address, Local, Move, Alu, AluImm, Shift, Load, Store, Call, CallAt, Branch, Jump, Return, Raise, Read, Write, Exit}

-- the greatest of the numbers of registers
abbrev pub greatest : (a b c : VirtualRegister) → ℕ
greatest a b c = max a.0 (max b.0 c.0)

abbrev pub with_register : ℕ → VirtualRegister → ℕ
with_register n r = max n r.0

abbrev pub greatest_in_call : VirtualRegister → Operands → ℕ
greatest_in_call address operands = fold with_register (max address.0 operands.to.0) operands.arguments

abbrev pub greatest_in : Instruction → ℕ
greatest_in (Const to n) = greatest to to to
greatest_in (Address to symbol) = greatest to to to
greatest_in (Local to offset) = greatest to to to
greatest_in (Move to from) = greatest to from from
greatest_in (Alu op to left right) = greatest to left right
greatest_in (AluImm op to left imm) = greatest to left left
greatest_in (Shift op to left amount) = greatest to left left
greatest_in (Load op to base offset) = greatest to base base
greatest_in (Store op value base offset) = greatest value base base
greatest_in (Call id operands) = greatest_in_call operands.to operands
greatest_in (CallAt address operands) = greatest_in_call address operands
greatest_in (Branch op left right block) = greatest left right right
greatest_in (Jump block) = 0
greatest_in (Return value) = greatest value value value
greatest_in Raise = 0
greatest_in (Read to buffer size) = greatest to buffer size
greatest_in (Write output buffer size) = greatest buffer size size
greatest_in (Exit status) = greatest status status status

abbrev pub with_instruction : ℕ → Instruction → ℕ
with_instruction n i = max n (greatest_in i)

abbrev pub with_block : ℕ → Block → ℕ
with_block n block = fold with_instruction n block.code

-- one more than the greatest that the code names, and no fewer than the parameters
abbrev pub registers_in : (parameters : ℕ) → List Block → ℕ
registers_in parameters blocks = max parameters (fold with_block 0 blocks + 1)
