-- A move of a register.
use Rattle.std.specs.Prelude.{List, [], ◌∷◌, nat_eq, if◌then◌else◌}
use Rattle.op_low.specs.declared.ids.VirtualRegister.{VirtualRegister}
use Rattle.op_low.specs.declared.instruction.Instruction.{Instruction}
use Rattle.op_low.specs.declared.instruction.Instruction.TheVariants.{Move}

-- a register that is the same has the value already
unfoldable pub move_code : (to from : VirtualRegister) → List Instruction
move_code to from = if nat_eq to.0 from.0 then [] else Move to from ∷ []
