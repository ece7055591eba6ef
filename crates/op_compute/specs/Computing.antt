-- The low code of each computation, by the bank.
use Rattle.std.specs.Prelude.{ℤ, pos, negsuc, List, [], ◌∷◌}
use Rattle.std.specs.Int.{w32, cast_unsigned}
use Rattle.op_compute.specs.Arithmetic.{arithmetic_code, negate_code, absolute_code}
use Rattle.op_compute.specs.Bank.{operands_of, work_of}
use Rattle.op_compute.specs.Comparisons.{compare_code}
use Rattle.op_compute.specs.Conversions.{upper_code, low_bits_code, check_code, neighbour_code}
use Rattle.op_compute.specs.SetCode.{single_code, span_code, combine_code, contains_code, check_set_code}
use Rattle.op_compute.specs.declared.bank.Bank.{Bank}
use Rattle.op_compute.specs.declared.bank.Operands.{Operands}
use Rattle.op_compute.specs.declared.bank.Work.{Work}
use Rattle.op_low.specs.declared.ids.VirtualRegister.{VirtualRegister}
use Rattle.op_low.specs.declared.instruction.Instruction.{Instruction}
use Rattle.op_low.specs.declared.instruction.Instruction.TheVariants.{Const, AluImm}
use Rattle.op_mir.specs.declared.action.Computation.{Computation}
use Rattle.op_mir.specs.declared.action.Computation.TheVariants.{Arithmetic, Compare, Negate, Complement, Invert, Absolute, Odd, Upper, LowBits, Check, Neighbour, Single, Span, Combine, Contains, CheckSet}
use Rattle.op_rv.specs.declared.instruction.ImmOp.TheVariants.{Sltiu, Xori, Andi}

-- a number is its word
unfoldable pub constant_code : (to : VirtualRegister) → ℤ → List Instruction
constant_code to n = Const to (cast_unsigned w32 n) ∷ []

unfoldable pub registers_of : Bank → Computation → Operands
registers_of bank (Arithmetic o checked to a b) = operands_of bank to a b
registers_of bank (Compare o to a b) = operands_of bank to a b
registers_of bank (Negate checked to a) = operands_of bank to a a
registers_of bank (Complement to a) = operands_of bank to a a
registers_of bank (Invert to a) = operands_of bank to a a
registers_of bank (Absolute checked to a) = operands_of bank to a a
registers_of bank (Odd to a) = operands_of bank to a a
registers_of bank (Upper to a) = operands_of bank to a a
registers_of bank (LowBits kind to a) = operands_of bank to a a
registers_of bank (Check low high to a) = operands_of bank to a a
registers_of bank (Neighbour distance low high to a) = operands_of bank to a a
registers_of bank (Single to a) = operands_of bank to a a
registers_of bank (Span to a b) = operands_of bank to a b
registers_of bank (Combine o to a b) = operands_of bank to a b
registers_of bank (Contains to a b) = operands_of bank to a b
registers_of bank (CheckSet all to a) = operands_of bank to a a

unfoldable pub code_of : Work → Operands → Computation → List Instruction
code_of w o (Arithmetic operator checked to a b) = arithmetic_code w o operator checked
code_of w o (Compare operator to a b) = compare_code o operator
code_of w o (Negate checked to a) = negate_code w o checked
code_of w o (Complement to a) = AluImm Xori o.to o.left (negsuc 0) ∷ []
code_of w o (Invert to a) = AluImm Sltiu o.to o.left (pos 1) ∷ []
code_of w o (Absolute checked to a) = absolute_code w o checked
code_of w o (Odd to a) = AluImm Andi o.to o.left (pos 1) ∷ []
code_of w o (Upper to a) = upper_code w o
code_of w o (LowBits kind to a) = low_bits_code o.to kind o.left
code_of w o (Check low high to a) = check_code w o low high
code_of w o (Neighbour distance low high to a) = neighbour_code w o distance low high
code_of w o (Single to a) = single_code o.to w.first o.left
code_of w o (Span to a b) = span_code w o
code_of w o (Combine operator to a b) = combine_code w o operator
code_of w o (Contains to a b) = contains_code w o
code_of w o (CheckSet all to a) = check_set_code w o all

unfoldable pub computation_code : Bank → Computation → List Instruction
computation_code bank c = code_of (work_of bank) (registers_of bank c) c
