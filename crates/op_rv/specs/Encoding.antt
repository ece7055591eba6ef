-- The table of instructions as formats: the word of each (RISC-V Unprivileged ISA manual, "RV32/64G Instruction Set Listings").
use Rattle.std.specs.Prelude.{ℕ, ℤ, pos, negsuc, ◌+◌, ◌-◌, ◌*◌, ◌/◌, ◌%◌, ◌^◌, Bool, true, ◌&&◌, nat_eq, nat_lt}
use Rattle.std.specs.Int.{w32, cast_unsigned}
use Rattle.op_rv.specs.declared.instruction.Instr.{Instr}
use Rattle.op_rv.specs.declared.instruction.Instr.TheVariants.{Lui, Auipc, Jal, Jalr, Branch, Load, Store, Imm, Shift, Alu, Fence, Ecall, Ebreak}
use Rattle.op_rv.specs.declared.instruction.BranchOp.{BranchOp}
use Rattle.op_rv.specs.declared.instruction.BranchOp.TheVariants.{Beq, Bne, Blt, Bge, Bltu, Bgeu}
use Rattle.op_rv.specs.declared.instruction.LoadOp.{LoadOp}
use Rattle.op_rv.specs.declared.instruction.LoadOp.TheVariants.{Lb, Lh, Lw, Lbu, Lhu}
use Rattle.op_rv.specs.declared.instruction.StoreOp.{StoreOp}
use Rattle.op_rv.specs.declared.instruction.StoreOp.TheVariants.{Sb, Sh, Sw}
use Rattle.op_rv.specs.declared.instruction.ImmOp.{ImmOp}
use Rattle.op_rv.specs.declared.instruction.ImmOp.TheVariants.{Addi, Slti, Sltiu, Xori, Ori, Andi}
use Rattle.op_rv.specs.declared.instruction.ShiftOp.{ShiftOp}
use Rattle.op_rv.specs.declared.instruction.ShiftOp.TheVariants.{Slli, Srli, Srai}
use Rattle.op_rv.specs.declared.instruction.AluOp.{AluOp}
use Rattle.op_rv.specs.declared.instruction.AluOp.TheVariants.{Add, Sub, Sll, Slt, Sltu, Xor, Srl, Sra, Or, And, Mul, Mulh, Mulhsu, Mulhu, Div, Divu, Rem, Remu}

-- bits high to low of a word, as the manual's word[high:low]
abbrev pub bits_of : ℕ → ℕ → ℕ → ℕ
bits_of word high low = word / 2 ^ low % 2 ^ (high - low + 1)

-- bits high to low of an immediate, as the manual's imm[high:low]
abbrev pub imm_bits : ℤ → ℕ → ℕ → ℕ
imm_bits imm high low = bits_of (cast_unsigned w32 imm) high low

-- ---- formats

-- R: f7 rs2 rs1 f3 rd op
abbrev pub r_format : ℕ → ℕ → ℕ → ℕ → ℕ → ℕ → ℕ
r_format f7 rs2 rs1 f3 rd op = f7 * 2 ^ 25 + rs2 * 2 ^ 20 + rs1 * 2 ^ 15 + f3 * 2 ^ 12 + rd * 2 ^ 7 + op

-- I: imm[11:0] rs1 f3 rd op
abbrev pub i_format : ℕ → ℕ → ℕ → ℕ → ℕ → ℕ
i_format imm rs1 f3 rd op = imm * 2 ^ 20 + rs1 * 2 ^ 15 + f3 * 2 ^ 12 + rd * 2 ^ 7 + op

-- U: imm[31:12] rd op
abbrev pub u_format : ℕ → ℕ → ℕ → ℕ
u_format imm rd op = imm * 2 ^ 12 + rd * 2 ^ 7 + op

-- the low twelve bits of an immediate
abbrev pub imm_field_of : ℤ → ℕ
imm_field_of imm = imm_bits imm 11 0

-- S: imm[11:5] rs2 rs1 f3 imm[4:0] op
abbrev pub s_format : ℤ → ℕ → ℕ → ℕ → ℕ → ℕ
s_format imm rs2 rs1 f3 op = r_format (imm_bits imm 11 5) rs2 rs1 f3 (imm_bits imm 4 0) op

-- B: imm[12|10:5] rs2 rs1 f3 imm[4:1|11] op
abbrev pub b_format : ℤ → ℕ → ℕ → ℕ → ℕ → ℕ
b_format imm rs2 rs1 f3 op =
    r_format (imm_bits imm 12 12 * 2 ^ 6 + imm_bits imm 10 5) rs2 rs1 f3 (imm_bits imm 4 1 * 2 + imm_bits imm 11 11) op

-- imm[20|10:1|11|19:12]
abbrev pub jump_field_of : ℤ → ℕ
jump_field_of imm = imm_bits imm 20 20 * 2 ^ 19 + imm_bits imm 10 1 * 2 ^ 9 + imm_bits imm 11 11 * 2 ^ 8 + imm_bits imm 19 12

-- J: imm[20|10:1|11|19:12] rd op
abbrev pub j_format : ℤ → ℕ → ℕ → ℕ
j_format imm rd op = u_format (jump_field_of imm) rd op

-- ---- the f3 and f7 of each operator

abbrev pub branch_funct3_of : BranchOp → ℕ
branch_funct3_of Beq = 0b000
branch_funct3_of Bne = 0b001
branch_funct3_of Blt = 0b100
branch_funct3_of Bge = 0b101
branch_funct3_of Bltu = 0b110
branch_funct3_of Bgeu = 0b111

abbrev pub load_funct3_of : LoadOp → ℕ
load_funct3_of Lb = 0b000
load_funct3_of Lh = 0b001
load_funct3_of Lw = 0b010
load_funct3_of Lbu = 0b100
load_funct3_of Lhu = 0b101

abbrev pub store_funct3_of : StoreOp → ℕ
store_funct3_of Sb = 0b000
store_funct3_of Sh = 0b001
store_funct3_of Sw = 0b010

abbrev pub imm_funct3_of : ImmOp → ℕ
imm_funct3_of Addi = 0b000
imm_funct3_of Slti = 0b010
imm_funct3_of Sltiu = 0b011
imm_funct3_of Xori = 0b100
imm_funct3_of Ori = 0b110
imm_funct3_of Andi = 0b111

abbrev pub shift_funct3_of : ShiftOp → ℕ
shift_funct3_of Slli = 0b001
shift_funct3_of Srli = 0b101
shift_funct3_of Srai = 0b101

abbrev pub shift_funct7_of : ShiftOp → ℕ
shift_funct7_of Slli = 0b0000000
shift_funct7_of Srli = 0b0000000
shift_funct7_of Srai = 0b0100000

abbrev pub alu_funct3_of : AluOp → ℕ
alu_funct3_of Add = 0b000
alu_funct3_of Sub = 0b000
alu_funct3_of Sll = 0b001
alu_funct3_of Slt = 0b010
alu_funct3_of Sltu = 0b011
alu_funct3_of Xor = 0b100
alu_funct3_of Srl = 0b101
alu_funct3_of Sra = 0b101
alu_funct3_of Or = 0b110
alu_funct3_of And = 0b111
alu_funct3_of Mul = 0b000
alu_funct3_of Mulh = 0b001
alu_funct3_of Mulhsu = 0b010
alu_funct3_of Mulhu = 0b011
alu_funct3_of Div = 0b100
alu_funct3_of Divu = 0b101
alu_funct3_of Rem = 0b110
alu_funct3_of Remu = 0b111

abbrev pub alu_funct7_of : AluOp → ℕ
alu_funct7_of Add = 0b0000000
alu_funct7_of Sub = 0b0100000
alu_funct7_of Sll = 0b0000000
alu_funct7_of Slt = 0b0000000
alu_funct7_of Sltu = 0b0000000
alu_funct7_of Xor = 0b0000000
alu_funct7_of Srl = 0b0000000
alu_funct7_of Sra = 0b0100000
alu_funct7_of Or = 0b0000000
alu_funct7_of And = 0b0000000
alu_funct7_of Mul = 0b0000001
alu_funct7_of Mulh = 0b0000001
alu_funct7_of Mulhsu = 0b0000001
alu_funct7_of Mulhu = 0b0000001
alu_funct7_of Div = 0b0000001
alu_funct7_of Divu = 0b0000001
alu_funct7_of Rem = 0b0000001
alu_funct7_of Remu = 0b0000001

-- ---- the table

-- the word of an instruction whose fields fit
abbrev pub word_of : Instr → ℕ
word_of (Lui rd upper) = u_format upper rd 0b0110111
word_of (Auipc rd upper) = u_format upper rd 0b0010111
word_of (Jal rd offset) = j_format offset rd 0b1101111
word_of (Jalr rd rs1 offset) = i_format (imm_field_of offset) rs1 0b000 rd 0b1100111
word_of (Branch op rs1 rs2 offset) = b_format offset rs2 rs1 (branch_funct3_of op) 0b1100011
word_of (Load op rd rs1 offset) = i_format (imm_field_of offset) rs1 (load_funct3_of op) rd 0b0000011
word_of (Store op rs1 rs2 offset) = s_format offset rs2 rs1 (store_funct3_of op) 0b0100011
word_of (Imm op rd rs1 imm) = i_format (imm_field_of imm) rs1 (imm_funct3_of op) rd 0b0010011
word_of (Shift op rd rs1 amount) = r_format (shift_funct7_of op) amount rs1 (shift_funct3_of op) rd 0b0010011
word_of (Alu op rd rs1 rs2) = r_format (alu_funct7_of op) rs2 rs1 (alu_funct3_of op) rd 0b0110011
word_of (Fence rd rs1 bits) = i_format bits rs1 0b000 rd 0b0001111
word_of Ecall = 0x00000073
word_of Ebreak = 0x00100073

abbrev pub is_register : ℕ → Bool
is_register r = nat_lt r 32

-- -2 ^ k to 2 ^ k - 1
abbrev pub is_signed : ℕ → ℤ → Bool
is_signed k (pos n) = nat_lt n (2 ^ k)
is_signed k (negsuc n) = nat_lt n (2 ^ k)

-- -2,048 to 2,047
abbrev pub is_imm : ℤ → Bool
is_imm imm = is_signed 11 imm

abbrev pub is_even : ℤ → Bool
is_even (pos n) = nat_eq (n % 2) 0
is_even (negsuc n) = nat_eq (n % 2) 1

-- the registers and immediates fit their fields, and the offsets of branches and jumps are even
abbrev pub fits : Instr → Bool
fits (Lui rd upper) = is_register rd && nat_lt upper (2 ^ 20)
fits (Auipc rd upper) = is_register rd && nat_lt upper (2 ^ 20)
fits (Jal rd offset) = is_register rd && is_signed 20 offset && is_even offset
fits (Jalr rd rs1 offset) = is_register rd && is_register rs1 && is_imm offset
fits (Branch op rs1 rs2 offset) = is_register rs1 && is_register rs2 && is_signed 12 offset && is_even offset
fits (Load op rd rs1 offset) = is_register rd && is_register rs1 && is_imm offset
fits (Store op rs1 rs2 offset) = is_register rs1 && is_register rs2 && is_imm offset
fits (Imm op rd rs1 imm) = is_register rd && is_register rs1 && is_imm imm
fits (Shift op rd rs1 amount) = is_register rd && is_register rs1 && nat_lt amount 32
fits (Alu op rd rs1 rs2) = is_register rd && is_register rs1 && is_register rs2
fits (Fence rd rs1 bits) = is_register rd && is_register rs1 && nat_lt bits (2 ^ 12)
fits Ecall = true
fits Ebreak = true
