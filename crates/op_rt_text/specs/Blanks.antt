-- The routine that writes so many blanks, none where the count is 0 or less.
use Rattle.std.specs.Prelude.{List, [], ◌∷◌}
use Rattle.op_low.specs.declared.code.Routine.{Routine}
use Rattle.op_low.specs.declared.instruction.Instruction.{Instruction}
use Rattle.op_rt_text.specs.Names.{block}
use Rattle.op_rt_text.specs.Parts.{code}
use Rattle.op_rt_text.specs.declared.blanks.TheConstants.{BEGINS, ENDS, WRITES_PIECE, WRITES_REST}

abbrev pub begins : List Instruction
begins = code BEGINS

-- as often as more than 64 are left
abbrev pub writes_piece : List Instruction
writes_piece = code WRITES_PIECE

abbrev pub writes_rest : List Instruction
writes_rest = code WRITES_REST

abbrev pub ends : List Instruction
ends = code ENDS

abbrev pub write_blanks : Routine
write_blanks =
    record {
      parameters = 1;
      registers = 4;
      locals = 0;
      blocks = block begins ∷ block writes_piece ∷ block writes_rest ∷ block ends ∷ [];
    }
