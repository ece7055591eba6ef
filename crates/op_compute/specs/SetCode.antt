-- The low code of sets, which are words with a bit for each of 32 elements. (Free Pascal Reference Guide, "Set types" and "Set operators".)
use Rattle.std.specs.Prelude.{ℤ, pos, negsuc, List, [], ◌∷◌, ◌++◌}
use Rattle.std.specs.Int.{w32, cast_unsigned, int_bit_not}
use Rattle.op_compute.specs.Comparisons.{compare_code}
use Rattle.op_compute.specs.Moves.{move_code}
use Rattle.op_compute.specs.declared.bank.Operands.{Operands}
use Rattle.op_compute.specs.declared.bank.Work.{Work}
use Rattle.op_low.specs.declared.ids.VirtualRegister.{VirtualRegister}
use Rattle.op_low.specs.declared.instruction.Instruction.{Instruction}
use Rattle.op_low.specs.declared.instruction.Instruction.TheVariants.{Const, Alu, AluImm, Shift, Branch}
use Rattle.op_rv.specs.declared.instruction.AluOp.TheVariants.{Sll, Srl, Or, And}
use Rattle.op_rv.specs.declared.instruction.BranchOp.TheVariants.{Bne}
use Rattle.op_rv.specs.declared.instruction.ImmOp.TheVariants.{Addi, Sltiu, Xori}
use Rattle.op_rv.specs.declared.instruction.ShiftOp.TheVariants.{Slli, Srai}
use Rattle.op_tree.specs.declared.operator.Operator.{Operator}
use Rattle.op_tree.specs.declared.operator.Operator.TheVariants.{Equal, NotEqual, LessEqual, GreaterEqual, Add, Subtract, Multiply}

-- ---- operators

-- the elements of the first that the second lacks
unfoldable pub without_code : Work → (to left right : VirtualRegister) → List Instruction
without_code w to a b = AluImm Xori w.first b (negsuc 0) ∷ Alu And to a w.first ∷ []

-- whether there are none
unfoldable pub inclusion_code : Work → (to left right : VirtualRegister) → List Instruction
inclusion_code w to a b = without_code w to a b ++ AluImm Sltiu to to (pos 1) ∷ []

unfoldable pub combine_code : Work → Operands → Operator → List Instruction
combine_code w o Add = Alu Or o.to o.left o.right ∷ []
combine_code w o Subtract = without_code w o.to o.left o.right
combine_code w o Multiply = Alu And o.to o.left o.right ∷ []
combine_code w o LessEqual = inclusion_code w o.to o.left o.right
combine_code w o GreaterEqual = inclusion_code w o.to o.right o.left
combine_code w o Equal = compare_code o Equal
combine_code w o NotEqual = compare_code o NotEqual
combine_code w o _ = Const o.to 0 ∷ []

-- ---- sets of values

-- a bit at the number's place, and none if it has no place
unfoldable pub single_code : (to via from : VirtualRegister) → List Instruction
single_code to via from = AluImm Sltiu via from (pos 32) ∷ Alu Sll to via from ∷ []

-- the bits from the place on that a number which is not negative says; from 32 on there are none
unfoldable pub bits_from_code : (to from : VirtualRegister) → List Instruction
bits_from_code to from = AluImm Addi to from (negsuc 31) ∷ Shift Srai to to 31 ∷ Alu Sll to to from ∷ []

-- all bits where another number is negative
unfoldable pub all_if_negative_code : (to via from : VirtualRegister) → List Instruction
all_if_negative_code to via from = Shift Srai via from 31 ∷ Alu Or to to via ∷ []

-- the bits from the first number on, but for those behind the last one
unfoldable pub span_code : Work → Operands → List Instruction
span_code w o =
    bits_from_code w.first o.left
    ++ all_if_negative_code w.first w.second o.left
    ++ bits_from_code w.second o.right
    ++ Shift Slli w.second w.second 1
    ∷ all_if_negative_code w.second w.third o.right
    ++ AluImm Xori w.second w.second (negsuc 0)
    ∷ Alu And o.to w.first w.second
    ∷ []

-- ---- tests

-- the bit at the element's place, if it has one
unfoldable pub contains_code : Work → Operands → List Instruction
contains_code w o = AluImm Sltiu w.first o.left (pos 32) ∷ Alu Srl w.second o.right o.left ∷ Alu And o.to w.first w.second ∷ []

-- error 201 where there is an element but those of a set
unfoldable pub check_set_code : Work → Operands → (all : ℤ) → List Instruction
check_set_code w o all =
    (Const w.first (cast_unsigned w32 (int_bit_not w32 all))
    ∷ Alu And w.first w.first o.left
    ∷ Const w.second 0
    ∷ Branch Bne w.first w.second w.range
    ∷ [])
    ++ move_code o.to o.left
