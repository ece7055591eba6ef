-- Fixed code, which stands once, in the constants that are pushed: what low code it is.
use Rattle.std.specs.Prelude.{None, List, [], ◌∷◌, map}
use Rattle.op_low.specs.declared.ids.VirtualRegister.{VirtualRegister}
use Rattle.op_low.specs.declared.instruction.Instruction.{Instruction}
use Rattle.op_low.specs.declared.instruction.Instruction.TheVariants.{Address, Alu, AluImm, Branch, Call, Const, Jump, Load, Local, Move, Return, Store, Write}
use Rattle.op_rt_text.specs.declared.parts.Arguments.{Arguments}
use Rattle.op_rt_text.specs.declared.parts.Arguments.TheVariants as arguments
use Rattle.op_rt_text.specs.declared.parts.Fixed.{Fixed}
use Rattle.op_rt_text.specs.declared.parts.Fixed.TheVariants as fixed

abbrev pub listed : Arguments → List VirtualRegister
listed (arguments.One first) = first ∷ []
listed (arguments.Two first second) = first ∷ second ∷ []
listed (arguments.Three first second third) = first ∷ second ∷ third ∷ []

-- none of the routines raises, so no call of one has a landing
abbrev pub instruction_of : Fixed → Instruction
instruction_of (fixed.Const to value) = Const to value
instruction_of (fixed.Address to symbol) = Address to symbol
instruction_of (fixed.Local to offset) = Local to offset
instruction_of (fixed.Move to from) = Move to from
instruction_of (fixed.Alu op to left right) = Alu op to left right
instruction_of (fixed.AluImm op to left imm) = AluImm op to left imm
instruction_of (fixed.Load op to base offset) = Load op to base offset
instruction_of (fixed.Store op value base offset) = Store op value base offset
instruction_of (fixed.Call routine passed to) = Call routine (record { arguments = listed passed; to = to; landing = None })
instruction_of (fixed.Branch op left right block) = Branch op left right block
instruction_of (fixed.Jump block) = Jump block
instruction_of (fixed.Return value) = Return value
instruction_of (fixed.Write output buffer length) = Write output buffer length

abbrev pub code : List Fixed → List Instruction
code is = map instruction_of is
