-- The low code of conversions. (Free Pascal Reference Guide, "Value typecasts"; reference of the unit System, "Succ", "Pred" and "UpCase".)
use Rattle.std.specs.Prelude.{ℤ, pos, negsuc, ◌-ℤ◌, List, [], ◌∷◌, ◌++◌, if◌then◌else◌}
use Rattle.op_compute.specs.Moves.{move_code}
use Rattle.op_compute.specs.Ranges.{has_every_number, range_code, sum_with}
use Rattle.op_compute.specs.declared.bank.Operands.{Operands}
use Rattle.op_compute.specs.declared.bank.Work.{Work}
use Rattle.op_core.specs.declared.types.IntegerKind.{IntegerKind}
use Rattle.op_core.specs.declared.types.IntegerKind.TheVariants.{Signed8, Unsigned8, Signed16, Unsigned16, Signed32}
use Rattle.op_low.specs.declared.ids.VirtualRegister.{VirtualRegister}
use Rattle.op_low.specs.declared.instruction.Instruction.{Instruction}
use Rattle.op_low.specs.declared.instruction.Instruction.TheVariants.{Move, Alu, AluImm, Shift}
use Rattle.op_rv.specs.declared.instruction.AluOp.TheVariants.{Sub}
use Rattle.op_rv.specs.declared.instruction.ImmOp.TheVariants.{Addi, Sltiu, Andi}
use Rattle.op_rv.specs.declared.instruction.ShiftOp.TheVariants.{Slli, Srli, Srai}

-- what a smaller integer type keeps of a number
unfoldable pub low_bits_code : (to : VirtualRegister) → IntegerKind → (from : VirtualRegister) → List Instruction
low_bits_code to Signed8 from = Shift Slli to from 24 ∷ Shift Srai to to 24 ∷ []
low_bits_code to Unsigned8 from = AluImm Andi to from (pos 255) ∷ []
low_bits_code to Signed16 from = Shift Slli to from 16 ∷ Shift Srai to to 16 ∷ []
low_bits_code to Unsigned16 from = Shift Slli to from 16 ∷ Shift Srli to to 16 ∷ []
low_bits_code to Signed32 from = Move to from ∷ []

-- 32 less, if the number is one of the 26 from 97 on
unfoldable pub upper_code : Work → Operands → List Instruction
upper_code w o =
    AluImm Addi w.first o.left (negsuc 96)
    ∷ AluImm Sltiu w.first w.first (pos 26)
    ∷ Shift Slli w.first w.first 5
    ∷ Alu Sub o.to o.left w.first
    ∷ []

-- nothing is tested where each number is in the range
unfoldable pub check_code : Work → Operands → (low high : ℤ) → List Instruction
check_code w o low high =
    if has_every_number low high then Move o.to o.left ∷ [] else range_code w o.left low high ++ move_code o.to o.left

-- the value that stands so far behind a number is in a range, if the number is in the range that stands so far in front
unfoldable pub neighbour_test : Work → (from : VirtualRegister) → (distance low high : ℤ) → List Instruction
neighbour_test w from distance low high = range_code w from (low -ℤ distance) (high -ℤ distance)

unfoldable pub neighbour_code : Work → Operands → (distance low high : ℤ) → List Instruction
neighbour_code w o distance low high = neighbour_test w o.left distance low high ++ sum_with w.first o.to o.left distance
