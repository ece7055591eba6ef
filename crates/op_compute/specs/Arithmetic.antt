-- The low code of arithmetic. The registers are those of the operands and of the result; what fails branches to the block of its error.
-- (Free Pascal Reference Guide, "Arithmetic operators"; Programmer's Guide, "$Q : Overflow checking".)
use Rattle.std.specs.Prelude.{pos, ◌^◌, Bool, true, false, List, [], ◌∷◌, ◌++◌}
use Rattle.op_compute.specs.Moves.{move_code}
use Rattle.op_compute.specs.declared.bank.Operands.{Operands}
use Rattle.op_compute.specs.declared.bank.Work.{Work}
use Rattle.op_low.specs.declared.instruction.Instruction.{Instruction}
use Rattle.op_low.specs.declared.instruction.Instruction.TheVariants.{Const, Alu, AluImm, Shift, Branch}
use Rattle.op_rv.specs.declared.instruction.AluOp.TheVariants.{Add, Sub, Sll, Slt, Xor, Srl, Or, And, Mul, Mulh, Div, Rem}
use Rattle.op_rv.specs.declared.instruction.BranchOp.TheVariants.{Beq, Bne, Blt}
use Rattle.op_rv.specs.declared.instruction.ImmOp.TheVariants.{Slti}
use Rattle.op_rv.specs.declared.instruction.ShiftOp.TheVariants.{Srai}
use Rattle.op_tree.specs.declared.operator.Operator.{Operator}
use Rattle.op_tree.specs.declared.operator.Operator.TheVariants.{Add as Plus, Subtract, Multiply, Div as Quotient, Mod_, And as Both, Or as Either, Xor as Differ, Shl, Shr}

-- a sum does not overflow where it is below the first operand exactly if the second one is negative
unfoldable pub sum_code : Work → Operands → (checked : Bool) → List Instruction
sum_code w o false = Alu Add o.to o.left o.right ∷ []
sum_code w o true =
    (Alu Add w.first o.left o.right
    ∷ Alu Slt w.second w.first o.left
    ∷ AluImm Slti w.third o.right (pos 0)
    ∷ Branch Bne w.second w.third w.overflow
    ∷ [])
    ++ move_code o.to w.first

-- and a difference, where it is above
unfoldable pub difference_code : Work → Operands → (checked : Bool) → List Instruction
difference_code w o false = Alu Sub o.to o.left o.right ∷ []
difference_code w o true =
    (Alu Sub w.first o.left o.right
    ∷ Alu Slt w.second o.left w.first
    ∷ AluImm Slti w.third o.right (pos 0)
    ∷ Branch Bne w.second w.third w.overflow
    ∷ [])
    ++ move_code o.to w.first

-- a product does not overflow where its upper word is the sign of the lower one
unfoldable pub product_code : Work → Operands → (checked : Bool) → List Instruction
product_code w o false = Alu Mul o.to o.left o.right ∷ []
product_code w o true =
    (Alu Mul w.first o.left o.right
    ∷ Alu Mulh w.second o.left o.right
    ∷ Shift Srai w.third w.first 31
    ∷ Branch Bne w.second w.third w.overflow
    ∷ [])
    ++ move_code o.to w.first

-- error 200 where the divisor is zero
unfoldable pub divisor_test : Work → Operands → List Instruction
divisor_test w o = Const w.first 0 ∷ Branch Beq o.right w.first w.division ∷ []

-- a quotient overflows where it is negative and both operands are
unfoldable pub quotient_code : Work → Operands → (checked : Bool) → List Instruction
quotient_code w o false = divisor_test w o ++ Alu Div o.to o.left o.right ∷ []
quotient_code w o true =
    divisor_test w o
    ++ (Alu Div w.second o.left o.right
    ∷ Alu And w.third o.left o.right
    ∷ Alu And w.third w.third w.second
    ∷ Branch Blt w.third w.first w.overflow
    ∷ [])
    ++ move_code o.to w.second

unfoldable pub remainder_code : Work → Operands → List Instruction
remainder_code w o = divisor_test w o ++ Alu Rem o.to o.left o.right ∷ []

unfoldable pub arithmetic_code : Work → Operands → Operator → (checked : Bool) → List Instruction
arithmetic_code w o Plus checked = sum_code w o checked
arithmetic_code w o Subtract checked = difference_code w o checked
arithmetic_code w o Multiply checked = product_code w o checked
arithmetic_code w o Quotient checked = quotient_code w o checked
arithmetic_code w o Mod_ checked = remainder_code w o
arithmetic_code w o Both checked = Alu And o.to o.left o.right ∷ []
arithmetic_code w o Either checked = Alu Or o.to o.left o.right ∷ []
arithmetic_code w o Differ checked = Alu Xor o.to o.left o.right ∷ []
arithmetic_code w o Shl checked = Alu Sll o.to o.left o.right ∷ []
arithmetic_code w o Shr checked = Alu Srl o.to o.left o.right ∷ []
arithmetic_code w o _ checked = Const o.to 0 ∷ []

-- error 215 where the number is the least one, which has no opposite
unfoldable pub least_test : Work → Operands → (checked : Bool) → List Instruction
least_test w o false = []
least_test w o true = Const w.first (2 ^ 31) ∷ Branch Beq o.left w.first w.overflow ∷ []

unfoldable pub negate_code : Work → Operands → (checked : Bool) → List Instruction
negate_code w o checked = least_test w o checked ++ Const w.first 0 ∷ Alu Sub o.to w.first o.left ∷ []

-- a negative number is the complement of one less than its opposite
unfoldable pub absolute_code : Work → Operands → (checked : Bool) → List Instruction
absolute_code w o checked =
    least_test w o checked
    ++ Shift Srai w.first o.left 31
    ∷ Alu Xor w.second o.left w.first
    ∷ Alu Sub o.to w.second w.first
    ∷ []
