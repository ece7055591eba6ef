-- The routine that writes a number in decimal, with a minus where it is negative.
--
-- Its text is made in the locals from the last digit on. It has 11 bytes at most, and the byte behind it is not used.
use Rattle.std.specs.Prelude.{List, [], ◌∷◌}
use Rattle.op_low.specs.declared.code.Routine.{Routine}
use Rattle.op_low.specs.declared.instruction.Instruction.{Instruction}
use Rattle.op_rt_text.specs.Names.{block}
use Rattle.op_rt_text.specs.Parts.{code}
use Rattle.op_rt_text.specs.declared.number.TheConstants.{BEGINS, PUTS_DIGIT, PUTS_SIGN, WRITES_TEXT}

abbrev pub begins : List Instruction
begins = code BEGINS

abbrev pub puts_digit : List Instruction
puts_digit = code PUTS_DIGIT

abbrev pub puts_sign : List Instruction
puts_sign = code PUTS_SIGN

abbrev pub writes_text : List Instruction
writes_text = code WRITES_TEXT

abbrev pub write_number : Routine
write_number =
    record {
      parameters = 2;
      registers = 8;
      locals = 12;
      blocks = block begins ∷ block puts_digit ∷ block puts_sign ∷ block writes_text ∷ [];
    }
