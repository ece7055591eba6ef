-- The routine that writes bytes of memory, with blanks in front up to a width.
use Rattle.std.specs.Prelude.{List, [], ◌∷◌}
use Rattle.op_low.specs.declared.code.Routine.{Routine}
use Rattle.op_low.specs.declared.instruction.Instruction.{Instruction}
use Rattle.op_rt_text.specs.Names.{block}
use Rattle.op_rt_text.specs.Parts.{code}
use Rattle.op_rt_text.specs.declared.bytes.TheConstants.{BEGINS, WRITES_TEXT}

abbrev pub begins : List Instruction
begins = code BEGINS

abbrev pub writes_text : List Instruction
writes_text = code WRITES_TEXT

abbrev pub write_bytes : Routine
write_bytes =
    record { parameters = 3; registers = 4; locals = 0; blocks = block begins ∷ block writes_text ∷ [] }
