-- The routine that puts a value in place of its address: it takes the address of so many bytes from where they are to go, which is a
-- multiple of 4, and copies them there.
use Rattle.std.specs.Prelude.{List, [], ◌∷◌}
use Rattle.op_low.specs.declared.code.Routine.{Routine}
use Rattle.op_low.specs.declared.instruction.Instruction.{Instruction}
use Rattle.op_rt_text.specs.Names.{block}
use Rattle.op_rt_text.specs.Parts.{code}
use Rattle.op_rt_text.specs.declared.taking.TheConstants.{BEGINS, COPIES_BYTES, COPIES_WORDS}

abbrev pub begins : List Instruction
begins = code BEGINS

abbrev pub copies_words : List Instruction
copies_words = code COPIES_WORDS

abbrev pub copies_bytes : List Instruction
copies_bytes = code COPIES_BYTES

abbrev pub take : Routine
take =
    record {
      parameters = 2;
      registers = 5;
      locals = 0;
      blocks = block begins ∷ block copies_words ∷ block copies_bytes ∷ [];
    }
