-- The low code of comparisons, which come to 1 or 0. (Free Pascal Reference Guide, "Relational operators".)
use Rattle.std.specs.Prelude.{pos, List, [], ◌∷◌, ◌++◌}
use Rattle.op_compute.specs.declared.bank.Operands.{Operands}
use Rattle.op_low.specs.declared.ids.VirtualRegister.{VirtualRegister}
use Rattle.op_low.specs.declared.instruction.Instruction.{Instruction}
use Rattle.op_low.specs.declared.instruction.Instruction.TheVariants.{Const, Alu, AluImm}
use Rattle.op_rv.specs.declared.instruction.AluOp.TheVariants.{Slt, Xor}
use Rattle.op_rv.specs.declared.instruction.ImmOp.TheVariants.{Sltiu, Xori}
use Rattle.op_tree.specs.declared.operator.Operator.{Operator}
use Rattle.op_tree.specs.declared.operator.Operator.TheVariants.{Equal, NotEqual, Less, Greater, LessEqual, GreaterEqual}

-- equal words differ in no bit
unfoldable pub equal_code : (to left right : VirtualRegister) → List Instruction
equal_code to a b = Alu Xor to a b ∷ AluImm Sltiu to to (pos 1) ∷ []

unfoldable pub compare_code : Operands → Operator → List Instruction
compare_code o Equal = equal_code o.to o.left o.right
compare_code o NotEqual = equal_code o.to o.left o.right ++ AluImm Xori o.to o.to (pos 1) ∷ []
compare_code o Less = Alu Slt o.to o.left o.right ∷ []
compare_code o Greater = Alu Slt o.to o.right o.left ∷ []
compare_code o LessEqual = Alu Slt o.to o.right o.left ∷ AluImm Xori o.to o.to (pos 1) ∷ []
compare_code o GreaterEqual = Alu Slt o.to o.left o.right ∷ AluImm Xori o.to o.to (pos 1) ∷ []
compare_code o _ = Const o.to 0 ∷ []
