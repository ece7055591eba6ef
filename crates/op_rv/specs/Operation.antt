-- What the operators compute on words, which are numbers below 2 ^ 32 (RISC-V Unprivileged ISA manual, "Integer Computational
-- Instructions", "Conditional Branches", "Load and Store Instructions" and "M Extension for Integer Multiplication and Division").
use Rattle.std.specs.Prelude.{ℕ, ℤ, pos, ◌+◌, ◌-◌, ◌*◌, ◌/◌, ◌%◌, ◌^◌, ◌*ℤ◌, Bool, not, nat_eq, nat_lt, int_lt, int_div, int_rem, bit_and, bit_or, bit_xor, if◌then◌else◌}
use Rattle.std.specs.Int.{w8, w16, w32, w64, cast_signed, cast_unsigned, from_bool, int_shr}
use Rattle.op_rv.specs.declared.instruction.BranchOp.{BranchOp}
use Rattle.op_rv.specs.declared.instruction.BranchOp.TheVariants.{Beq, Bne, Blt, Bge, Bltu, Bgeu}
use Rattle.op_rv.specs.declared.instruction.ImmOp.{ImmOp}
use Rattle.op_rv.specs.declared.instruction.ImmOp.TheVariants.{Addi, Slti, Sltiu, Xori, Ori, Andi}
use Rattle.op_rv.specs.declared.instruction.ShiftOp.{ShiftOp}
use Rattle.op_rv.specs.declared.instruction.ShiftOp.TheVariants.{Slli, Srli, Srai}
use Rattle.op_rv.specs.declared.instruction.AluOp.{AluOp}
use Rattle.op_rv.specs.declared.instruction.AluOp.TheVariants.{Add, Sub, Sll, Slt, Sltu, Xor, Srl, Sra, Or, And, Mul, Mulh, Mulhsu, Mulhu, Div, Divu, Rem, Remu}

-- a word as a number with a sign, and such a number, below 2 ^ 32, as a word
abbrev pub signed : ℕ → ℤ
signed a = cast_signed w32 a

abbrev pub word_from : ℤ → ℕ
word_from z = cast_unsigned w32 z

-- the upper word of a product of 64 bits
abbrev pub upper_word : ℤ → ℕ
upper_word z = cast_unsigned w64 z / 2 ^ 32

-- a shift by 0 to 31 places
abbrev pub shift_value : ShiftOp → ℕ → ℕ → ℕ
shift_value Slli a amount = a * 2 ^ amount % 2 ^ 32
shift_value Srli a amount = a / 2 ^ amount
shift_value Srai a amount = word_from (int_shr (signed a) amount)

-- an operation on two registers
abbrev pub alu_value : AluOp → ℕ → ℕ → ℕ
alu_value Add a b = (a + b) % 2 ^ 32
alu_value Sub a b = (a + (2 ^ 32 - b)) % 2 ^ 32
alu_value Sll a b = shift_value Slli a (b % 32)
alu_value Slt a b = from_bool (int_lt (signed a) (signed b))
alu_value Sltu a b = from_bool (nat_lt a b)
alu_value Xor a b = bit_xor a b
alu_value Srl a b = shift_value Srli a (b % 32)
alu_value Sra a b = shift_value Srai a (b % 32)
alu_value Or a b = bit_or a b
alu_value And a b = bit_and a b
alu_value Mul a b = a * b % 2 ^ 32
alu_value Mulh a b = upper_word (signed a *ℤ signed b)
alu_value Mulhsu a b = upper_word (signed a *ℤ pos b)
alu_value Mulhu a b = a * b / 2 ^ 32
-- the quotient of -2 ^ 31 and -1 is 2 ^ 31, which as a word is -2 ^ 31 again
alu_value Div a b = if nat_eq b 0 then 2 ^ 32 - 1 else word_from (int_div (signed a) (signed b))
alu_value Divu a b = if nat_eq b 0 then 2 ^ 32 - 1 else a / b
alu_value Rem a b = if nat_eq b 0 then a else word_from (int_rem (signed a) (signed b))
alu_value Remu a b = if nat_eq b 0 then a else a % b

-- an operation on a register and a sign-extended immediate, as words
abbrev pub imm_value : ImmOp → ℕ → ℕ → ℕ
imm_value Addi a b = (a + b) % 2 ^ 32
imm_value Slti a b = from_bool (int_lt (signed a) (signed b))
imm_value Sltiu a b = from_bool (nat_lt a b)
imm_value Xori a b = bit_xor a b
imm_value Ori a b = bit_or a b
imm_value Andi a b = bit_and a b

-- whether a branch is taken
abbrev pub branch_taken : BranchOp → ℕ → ℕ → Bool
branch_taken Beq a b = nat_eq a b
branch_taken Bne a b = not (nat_eq a b)
branch_taken Blt a b = int_lt (signed a) (signed b)
branch_taken Bge a b = not (int_lt (signed a) (signed b))
branch_taken Bltu a b = nat_lt a b
branch_taken Bgeu a b = not (nat_lt a b)

-- a byte and two bytes, sign-extended to a word
abbrev pub extended_byte : ℕ → ℕ
extended_byte n = word_from (cast_signed w8 n)

abbrev pub extended_half : ℕ → ℕ
extended_half n = word_from (cast_signed w16 n)
