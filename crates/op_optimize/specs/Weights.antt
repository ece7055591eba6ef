-- What low code counts for.
use Rattle.std.specs.Prelude.{ℕ, ◌+◌, List, [], ◌∷◌, length}
use Rattle.op_low.specs.declared.code.Block.{Block}
use Rattle.op_low.specs.declared.instruction.Instruction.{Instruction}
use Rattle.op_low.specs.declared.instruction.Instruction.TheVariants.{Const, Address, Local, Move, Alu, AluImm, Shift, Load, Store, Call, CallAt, Branch, Jump, Return, Raise, Read, Write, Exit}

-- An instruction counts for one, and a call for one more with each argument. A return gives back what the routine keeps and counts for
-- three, and a read for two.
abbrev pub low_weight : Instruction → ℕ
low_weight (Const to n) = 1
low_weight (Address to symbol) = 1
low_weight (Local to offset) = 1
low_weight (Move to from) = 1
low_weight (Alu op to left right) = 1
low_weight (AluImm op to left imm) = 1
low_weight (Shift op to left amount) = 1
low_weight (Load op to base offset) = 1
low_weight (Store op v base offset) = 1
low_weight (Call id operands) = 1 + length operands.arguments
low_weight (CallAt address operands) = 1 + length operands.arguments
low_weight (Branch op left right block) = 1
low_weight (Jump block) = 1
low_weight (Return value) = 3
low_weight Raise = 3
low_weight (Read to buffer size) = 2
low_weight (Write output buffer size) = 1
low_weight (Exit status) = 1

abbrev pub code_weight : List Instruction → ℕ
code_weight [] = 0
code_weight (i ∷ is) = low_weight i + code_weight is

abbrev pub blocks_weight : List Block → ℕ
blocks_weight [] = 0
blocks_weight (b ∷ bs) = code_weight b.code + blocks_weight bs
