-- The routines that copy bytes of memory from the first one on: by words, where both addresses and the count are multiples of 4,
-- and by single bytes. Both copy eight words at a turn for as long as eight words are left, the second one where both addresses are
-- multiples of 4; what is left then is copied word by word, or byte by byte.
use Rattle.std.specs.Prelude.{List, [], ◌∷◌}
use Rattle.op_low.specs.declared.code.Routine.{Routine}
use Rattle.op_low.specs.declared.instruction.Instruction.{Instruction}
use Rattle.op_rt_text.specs.Names.{block}
use Rattle.op_rt_text.specs.Parts.{code}
use Rattle.op_rt_text.specs.declared.copying.TheConstants.{BEGINS_BYTES, BEGINS_WORDS, COPIES_BYTE, COPIES_TURN, COPIES_WORD, ENDS, GOES_ON}

abbrev pub begins_words : List Instruction
begins_words = code BEGINS_WORDS

abbrev pub begins_bytes : List Instruction
begins_bytes = code BEGINS_BYTES

abbrev pub copies_turn : List Instruction
copies_turn = code COPIES_TURN

abbrev pub goes_on : List Instruction
goes_on = code GOES_ON

abbrev pub copies_word : List Instruction
copies_word = code COPIES_WORD

abbrev pub copies_byte : List Instruction
copies_byte = code COPIES_BYTE

abbrev pub ends : List Instruction
ends = code ENDS

abbrev pub copy_words : Routine
copy_words =
    record {
      parameters = 3;
      registers = 6;
      locals = 0;
      blocks = block begins_words ∷ block copies_turn ∷ block goes_on ∷ block copies_word ∷ block ends ∷ [];
    }

abbrev pub copy_bytes : Routine
copy_bytes =
    record {
      parameters = 3;
      registers = 7;
      locals = 0;
      blocks = block begins_bytes ∷ block copies_turn ∷ block goes_on ∷ block copies_byte ∷ block ends ∷ [];
    }
