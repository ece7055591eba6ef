-- The routine that puts zeros in memory from the first word on: eight words at a turn for as long as eight words are left, and then word
-- by word. The address and the count are multiples of 4, and there is a word at least.
use Rattle.std.specs.Prelude.{List, [], ◌∷◌}
use Rattle.op_low.specs.declared.code.Routine.{Routine}
use Rattle.op_low.specs.declared.instruction.Instruction.{Instruction}
use Rattle.op_rt_text.specs.Names.{block}
use Rattle.op_rt_text.specs.Parts.{code}
use Rattle.op_rt_text.specs.declared.clearing.TheConstants.{BEGINS, CLEARS_TURN, CLEARS_WORD, ENDS, GOES_ON}

abbrev pub begins : List Instruction
begins = code BEGINS

abbrev pub clears_turn : List Instruction
clears_turn = code CLEARS_TURN

abbrev pub goes_on : List Instruction
goes_on = code GOES_ON

abbrev pub clears_word : List Instruction
clears_word = code CLEARS_WORD

abbrev pub ends : List Instruction
ends = code ENDS

abbrev pub clear : Routine
clear =
    record {
      parameters = 2;
      registers = 5;
      locals = 0;
      blocks = block begins ∷ block clears_turn ∷ block goes_on ∷ block clears_word ∷ block ends ∷ [];
    }
