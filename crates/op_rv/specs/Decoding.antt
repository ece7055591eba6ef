-- The table of instructions by opcode, f3 and f7: the instruction of each word.
use Rattle.std.specs.Prelude.{ℕ, ℤ, pos, negsuc, ◌+◌, ◌-◌, ◌*◌, ◌%◌, ◌^◌, Option, Some, None, nat_eq, nat_lt, if◌then◌else◌}
use Rattle.std.specs.Option.{option_map}
use Rattle.op_rv.specs.Encoding.{bits_of}
use Rattle.op_rv.specs.declared.instruction.Instr.{Instr}
use Rattle.op_rv.specs.declared.instruction.Instr.TheVariants.{Lui, Auipc, Jal, Jalr, Branch, Load, Store, Imm, Shift, Alu, Fence, Ecall, Ebreak}
use Rattle.op_rv.specs.declared.instruction.BranchOp.{BranchOp}
use Rattle.op_rv.specs.declared.instruction.BranchOp.TheVariants.{Beq, Bne, Blt, Bge, Bltu, Bgeu}
use Rattle.op_rv.specs.declared.instruction.LoadOp.{LoadOp}
use Rattle.op_rv.specs.declared.instruction.LoadOp.TheVariants.{Lb, Lh, Lw, Lbu, Lhu}
use Rattle.op_rv.specs.declared.instruction.StoreOp.{StoreOp}
use Rattle.op_rv.specs.declared.instruction.StoreOp.TheVariants.{Sb, Sh, Sw}
use Rattle.op_rv.specs.declared.instruction.ImmOp.{ImmOp}
use Rattle.op_rv.specs.declared.instruction.ImmOp.TheVariants.{Addi, Slti, Sltiu, Xori, Ori, Andi}
use Rattle.op_rv.specs.declared.instruction.ShiftOp.{ShiftOp}
use Rattle.op_rv.specs.declared.instruction.ShiftOp.TheVariants.{Slli, Srli, Srai}
use Rattle.op_rv.specs.declared.instruction.AluOp.{AluOp}
use Rattle.op_rv.specs.declared.instruction.AluOp.TheVariants.{Add, Sub, Sll, Slt, Sltu, Xor, Srl, Sra, Or, And, Mul, Mulh, Mulhsu, Mulhu, Div, Divu, Rem, Remu}

-- ---- fields of a word

abbrev pub opcode_of : ℕ → ℕ
opcode_of word = bits_of word 6 0

abbrev pub rd_of : ℕ → ℕ
rd_of word = bits_of word 11 7

abbrev pub funct3_of : ℕ → ℕ
funct3_of word = bits_of word 14 12

abbrev pub rs1_of : ℕ → ℕ
rs1_of word = bits_of word 19 15

abbrev pub rs2_of : ℕ → ℕ
rs2_of word = bits_of word 24 20

abbrev pub funct7_of : ℕ → ℕ
funct7_of word = bits_of word 31 25

-- a field whose top bit, of value 2 ^ k, is its sign
abbrev pub signed_of : ℕ → ℕ → ℤ
signed_of k n = if nat_lt n (2 ^ k) then pos n else negsuc (2 ^ (k + 1) - 1 - n)

-- the immediates of the formats U, I, S, B and J
abbrev pub upper_of : ℕ → ℕ
upper_of word = bits_of word 31 12

abbrev pub imm_of : ℕ → ℤ
imm_of word = signed_of 11 (bits_of word 31 20)

abbrev pub store_offset_of : ℕ → ℤ
store_offset_of word = signed_of 11 (bits_of word 31 25 * 2 ^ 5 + bits_of word 11 7)

abbrev pub branch_offset_of : ℕ → ℤ
branch_offset_of word =
    signed_of 12 (bits_of word 31 31 * 2 ^ 12 + bits_of word 7 7 * 2 ^ 11 + bits_of word 30 25 * 2 ^ 5 + bits_of word 11 8 * 2)

abbrev pub jump_offset_of : ℕ → ℤ
jump_offset_of word =
    signed_of 20 (bits_of word 31 31 * 2 ^ 20 + bits_of word 19 12 * 2 ^ 12 + bits_of word 20 20 * 2 ^ 11 + bits_of word 30 21 * 2)

-- ---- the operators of f3 and f7

unfoldable pub branch_op_at : ℕ → Option BranchOp
branch_op_at f3 =
    if nat_eq f3 0b000 then Some Beq
    else (if nat_eq f3 0b001 then Some Bne
    else (if nat_eq f3 0b100 then Some Blt
    else (if nat_eq f3 0b101 then Some Bge
    else (if nat_eq f3 0b110 then Some Bltu
    else (if nat_eq f3 0b111 then Some Bgeu
    else None)))))

unfoldable pub load_op_at : ℕ → Option LoadOp
load_op_at f3 =
    if nat_eq f3 0b000 then Some Lb
    else (if nat_eq f3 0b001 then Some Lh
    else (if nat_eq f3 0b010 then Some Lw
    else (if nat_eq f3 0b100 then Some Lbu
    else (if nat_eq f3 0b101 then Some Lhu
    else None))))

unfoldable pub store_op_at : ℕ → Option StoreOp
store_op_at f3 =
    if nat_eq f3 0b000 then Some Sb
    else (if nat_eq f3 0b001 then Some Sh
    else (if nat_eq f3 0b010 then Some Sw
    else None))

unfoldable pub imm_op_at : ℕ → Option ImmOp
imm_op_at f3 =
    if nat_eq f3 0b000 then Some Addi
    else (if nat_eq f3 0b010 then Some Slti
    else (if nat_eq f3 0b011 then Some Sltiu
    else (if nat_eq f3 0b100 then Some Xori
    else (if nat_eq f3 0b110 then Some Ori
    else (if nat_eq f3 0b111 then Some Andi
    else None)))))

unfoldable pub shift_op_at : ℕ → ℕ → Option ShiftOp
shift_op_at f7 f3 =
    if nat_eq f7 0b0000000
    then (if nat_eq f3 0b001 then Some Slli else (if nat_eq f3 0b101 then Some Srli else None))
    else (if nat_eq f7 0b0100000 then (if nat_eq f3 0b101 then Some Srai else None) else None)

unfoldable pub base_op_at : ℕ → Option AluOp
base_op_at f3 =
    if nat_eq f3 0b000 then Some Add
    else (if nat_eq f3 0b001 then Some Sll
    else (if nat_eq f3 0b010 then Some Slt
    else (if nat_eq f3 0b011 then Some Sltu
    else (if nat_eq f3 0b100 then Some Xor
    else (if nat_eq f3 0b101 then Some Srl
    else (if nat_eq f3 0b110 then Some Or
    else (if nat_eq f3 0b111 then Some And
    else None)))))))

unfoldable pub multiply_op_at : ℕ → Option AluOp
multiply_op_at f3 =
    if nat_eq f3 0b000 then Some Mul
    else (if nat_eq f3 0b001 then Some Mulh
    else (if nat_eq f3 0b010 then Some Mulhsu
    else (if nat_eq f3 0b011 then Some Mulhu
    else (if nat_eq f3 0b100 then Some Div
    else (if nat_eq f3 0b101 then Some Divu
    else (if nat_eq f3 0b110 then Some Rem
    else (if nat_eq f3 0b111 then Some Remu
    else None)))))))

unfoldable pub alu_op_at : ℕ → ℕ → Option AluOp
alu_op_at f7 f3 =
    if nat_eq f7 0b0000000 then base_op_at f3
    else (if nat_eq f7 0b0000001 then multiply_op_at f3
    else (if nat_eq f7 0b0100000
    then (if nat_eq f3 0b000 then Some Sub else (if nat_eq f3 0b101 then Some Sra else None))
    else None))

-- ---- the rows of an opcode

unfoldable pub jalr_row : ℕ → Option Instr
jalr_row word = if nat_eq (funct3_of word) 0b000 then Some (Jalr (rd_of word) (rs1_of word) (imm_of word)) else None

unfoldable pub branch_row : ℕ → Option Instr
branch_row word =
    option_map (λ op. Branch op (rs1_of word) (rs2_of word) (branch_offset_of word)) (branch_op_at (funct3_of word))

unfoldable pub load_row : ℕ → Option Instr
load_row word = option_map (λ op. Load op (rd_of word) (rs1_of word) (imm_of word)) (load_op_at (funct3_of word))

unfoldable pub store_row : ℕ → Option Instr
store_row word =
    option_map (λ op. Store op (rs1_of word) (rs2_of word) (store_offset_of word)) (store_op_at (funct3_of word))

unfoldable pub shift_row : ℕ → Option Instr
shift_row word =
    option_map (λ op. Shift op (rd_of word) (rs1_of word) (rs2_of word)) (shift_op_at (funct7_of word) (funct3_of word))

-- f3 001 and 101 are shifts
unfoldable pub imm_row : ℕ → Option Instr
imm_row word =
    if nat_eq (funct3_of word % 4) 0b01
    then shift_row word
    else option_map (λ op. Imm op (rd_of word) (rs1_of word) (imm_of word)) (imm_op_at (funct3_of word))

unfoldable pub alu_row : ℕ → Option Instr
alu_row word =
    option_map (λ op. Alu op (rd_of word) (rs1_of word) (rs2_of word)) (alu_op_at (funct7_of word) (funct3_of word))

-- FENCE alone: FENCE.I has f3 001
unfoldable pub fence_row : ℕ → Option Instr
fence_row word =
    if nat_eq (funct3_of word) 0b000 then Some (Fence (rd_of word) (rs1_of word) (bits_of word 31 20)) else None

-- two words alone
unfoldable pub system_row : ℕ → Option Instr
system_row word = if nat_eq word 0x00000073 then Some Ecall else (if nat_eq word 0x00100073 then Some Ebreak else None)

-- ---- the table

unfoldable pub row_of : ℕ → ℕ → Option Instr
row_of opcode word =
    if nat_eq opcode 0b0110111 then Some (Lui (rd_of word) (upper_of word))
    else (if nat_eq opcode 0b0010111 then Some (Auipc (rd_of word) (upper_of word))
    else (if nat_eq opcode 0b1101111 then Some (Jal (rd_of word) (jump_offset_of word))
    else (if nat_eq opcode 0b1100111 then jalr_row word
    else (if nat_eq opcode 0b1100011 then branch_row word
    else (if nat_eq opcode 0b0000011 then load_row word
    else (if nat_eq opcode 0b0100011 then store_row word
    else (if nat_eq opcode 0b0010011 then imm_row word
    else (if nat_eq opcode 0b0110011 then alu_row word
    else (if nat_eq opcode 0b0001111 then fence_row word
    else (if nat_eq opcode 0b1110011 then system_row word
    else None))))))))))

-- the instruction of a word, if the table has a row for it
unfoldable pub instr_at : ℕ → Option Instr
instr_at word = row_of (opcode_of word) word
