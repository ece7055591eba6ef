-- The text of an instruction, as an assembler has it: a mnemonic, and the operands in the order of the manual's assembly.
use Rattle.std.specs.Prelude.{ℕ, pos, List, [], ◌∷◌, ◌++◌, codes, decimal, drop}
use Rattle.std.specs.Fmt.{signed_decimal}
use Rattle.std.specs.List.{join_by}
use Rattle.op_rv.specs.Step.{offset_from}
use Rattle.op_rv.specs.declared.instruction.Instr.{Instr}
use Rattle.op_rv.specs.declared.instruction.Instr.TheVariants.{Lui, Auipc, Jal, Jalr, Branch, Load, Store, Imm, Shift, Alu, Fence, Ecall, Ebreak}
use Rattle.op_listing.specs.Digits.{eight_digits}
use Rattle.op_listing.specs.Names.{alu_name, branch_name, imm_name, load_name, shift_name, store_name}
use Rattle.op_listing.specs.declared.operand.Operand.{Operand}
use Rattle.op_listing.specs.declared.operand.Operand.TheVariants.{Register, Number, Offset, Upper, Address}

-- `x5`; `-5`; `8(x2)`; `0x12345`, five digits of a field of 20 bits; `00010040`
abbrev pub operand_text : Operand → List ℕ
operand_text (Register r) = codes "x" ++ decimal r
operand_text (Number n) = signed_decimal n
operand_text (Offset offset base) = signed_decimal offset ++ codes "(x" ++ decimal base ++ codes ")"
operand_text (Upper field) = codes "0x" ++ drop 3 (eight_digits field)
operand_text (Address a) = eight_digits a

-- a blank behind the mnemonic, and a comma and a blank between two operands
abbrev pub assembly : List ℕ → List Operand → List ℕ
assembly name operands = name ++ codes " " ++ join_by operand_text (codes ", ") operands

-- the instruction at an address, one line a format. A branch and a jump have the address of their target. What the bits of a
-- fence say is left out, since they do nothing here
abbrev pub text_of : ℕ → Instr → List ℕ
text_of at (Lui rd upper) = assembly (codes "lui") (Register rd ∷ Upper upper ∷ [])
text_of at (Auipc rd upper) = assembly (codes "auipc") (Register rd ∷ Upper upper ∷ [])
text_of at (Jal rd offset) = assembly (codes "jal") (Register rd ∷ Address (offset_from at offset) ∷ [])
text_of at (Jalr rd rs1 offset) = assembly (codes "jalr") (Register rd ∷ Offset offset rs1 ∷ [])
text_of at (Branch op rs1 rs2 offset) =
    assembly (branch_name op) (Register rs1 ∷ Register rs2 ∷ Address (offset_from at offset) ∷ [])
text_of at (Load op rd rs1 offset) = assembly (load_name op) (Register rd ∷ Offset offset rs1 ∷ [])
text_of at (Store op rs1 rs2 offset) = assembly (store_name op) (Register rs2 ∷ Offset offset rs1 ∷ [])
text_of at (Imm op rd rs1 imm) = assembly (imm_name op) (Register rd ∷ Register rs1 ∷ Number imm ∷ [])
text_of at (Shift op rd rs1 amount) = assembly (shift_name op) (Register rd ∷ Register rs1 ∷ Number (pos amount) ∷ [])
text_of at (Alu op rd rs1 rs2) = assembly (alu_name op) (Register rd ∷ Register rs1 ∷ Register rs2 ∷ [])
text_of at (Fence rd rs1 bits) = codes "fence"
text_of at Ecall = codes "ecall"
text_of at Ebreak = codes "ebreak"
