-- Fixed code, which stands once, in the constants that are pushed: what low code it is.
use Rattle.std.specs.Prelude.{List, map}
use Rattle.op_low.specs.declared.instruction.Instruction.{Instruction}
use Rattle.op_low.specs.declared.instruction.Instruction.TheVariants.{Address, Alu, AluImm, Branch, Const, Exit, Jump, Load, Move, Return, Shift, Store, Write}
use Rattle.op_rt_heap.specs.declared.parts.Fixed.{Fixed}
use Rattle.op_rt_heap.specs.declared.parts.Fixed.TheVariants as fixed

abbrev pub instruction_of : Fixed → Instruction
instruction_of (fixed.Const to value) = Const to value
instruction_of (fixed.Address to symbol) = Address to symbol
instruction_of (fixed.Move to from) = Move to from
instruction_of (fixed.Alu op to left right) = Alu op to left right
instruction_of (fixed.AluImm op to left imm) = AluImm op to left imm
instruction_of (fixed.Shift op to left amount) = Shift op to left amount
instruction_of (fixed.Load op to base offset) = Load op to base offset
instruction_of (fixed.Store op value base offset) = Store op value base offset
instruction_of (fixed.Branch op left right block) = Branch op left right block
instruction_of (fixed.Jump block) = Jump block
instruction_of (fixed.Return value) = Return value
instruction_of (fixed.Write output buffer length) = Write output buffer length
instruction_of (fixed.Exit status) = Exit status

abbrev pub code : List Fixed → List Instruction
code is = map instruction_of is
