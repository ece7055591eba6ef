-- The routine that writes a character, the low eight bits of its number.
use Rattle.std.specs.Prelude.{List, [], ◌∷◌}
use Rattle.op_low.specs.declared.code.Routine.{Routine}
use Rattle.op_low.specs.declared.instruction.Instruction.{Instruction}
use Rattle.op_rt_text.specs.Names.{block}
use Rattle.op_rt_text.specs.Parts.{code}
use Rattle.op_rt_text.specs.declared.character.TheConstants.{WRITES_BYTE}

abbrev pub writes_byte : List Instruction
writes_byte = code WRITES_BYTE

abbrev pub write_char : Routine
write_char =
    record { parameters = 2; registers = 4; locals = 4; blocks = block writes_byte ∷ [] }
