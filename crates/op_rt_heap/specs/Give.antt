-- The routine that gives a block back: of its address. The block becomes a hole, at its place among the others, and is merged with the hole behind it
-- and with the one in front of it where they meet.
use Rattle.std.specs.Prelude.{List, [], ◌∷◌}
use Rattle.op_low.specs.declared.code.Routine.{Routine}
use Rattle.op_low.specs.declared.instruction.Instruction.{Instruction}
use Rattle.op_rt_heap.specs.Names.{block}
use Rattle.op_rt_heap.specs.Parts.{code}
use Rattle.op_rt_heap.specs.declared.giving.TheConstants.{BEGINS, FOLLOWS, MEETS, SEEKS, STAYS}

abbrev pub begins : List Instruction
begins = code BEGINS

abbrev pub seeks : List Instruction
seeks = code SEEKS

abbrev pub meets : List Instruction
meets = code MEETS

abbrev pub follows : List Instruction
follows = code FOLLOWS

abbrev pub stays : List Instruction
stays = code STAYS

abbrev pub give_block : Routine
give_block =
    record {
      parameters = 1;
      registers = 8;
      locals = 0;
      blocks = block begins ∷ block seeks ∷ block meets ∷ block follows ∷ block stays ∷ [];
    }
