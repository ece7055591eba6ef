-- The routine that writes a truth: `FALSE` for 0, and else `TRUE`.
use Rattle.std.specs.Prelude.{List, [], ◌∷◌}
use Rattle.op_low.specs.declared.code.Routine.{Routine}
use Rattle.op_low.specs.declared.instruction.Instruction.{Instruction}
use Rattle.op_rt_text.specs.Names.{block}
use Rattle.op_rt_text.specs.Parts.{code}
use Rattle.op_rt_text.specs.declared.truth.TheConstants.{CHOOSES, WRITES_FALSE, WRITES_TRUE}

abbrev pub chooses : List Instruction
chooses = code CHOOSES

abbrev pub writes_false : List Instruction
writes_false = code WRITES_FALSE

abbrev pub writes_true : List Instruction
writes_true = code WRITES_TRUE

abbrev pub write_truth : Routine
write_truth =
    record {
      parameters = 2;
      registers = 5;
      locals = 0;
      blocks = block chooses ∷ block writes_false ∷ block writes_true ∷ [];
    }
