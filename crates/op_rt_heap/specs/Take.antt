-- The routine that takes a block from the first hole that is large enough: of the size, a multiple of 16, and the kind in one word, which becomes the
-- first one of the block. It gives the address of the block, and where no hole serves it ends the program with run-time error 203.
use Rattle.std.specs.Prelude.{List, [], ◌∷◌}
use Rattle.op_low.specs.declared.code.Routine.{Routine}
use Rattle.op_low.specs.declared.instruction.Instruction.{Instruction}
use Rattle.op_rt_heap.specs.Fail.{fails}
use Rattle.op_rt_heap.specs.Names.{block}
use Rattle.op_rt_heap.specs.Parts.{code}
use Rattle.op_rt_heap.specs.declared.taking.TheConstants.{BEGINS, FITS, SEARCHES, TAKES}

abbrev pub begins : List Instruction
begins = code BEGINS

abbrev pub searches : List Instruction
searches = code SEARCHES

abbrev pub fits : List Instruction
fits = code FITS

abbrev pub takes : List Instruction
takes = code TAKES

abbrev pub take_block : Routine
take_block =
    record {
      parameters = 1;
      registers = 8;
      locals = 0;
      blocks = block begins ∷ block searches ∷ block fits ∷ block takes ∷ block fails ∷ [];
    }
