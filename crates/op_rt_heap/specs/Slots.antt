-- The routines of slots.
use Rattle.std.specs.Prelude.{List, [], ◌∷◌}
use Rattle.op_low.specs.declared.code.Routine.{Routine}
use Rattle.op_low.specs.declared.instruction.Instruction.{Instruction}
use Rattle.op_rt_heap.specs.Fail.{fails}
use Rattle.op_rt_heap.specs.Names.{block}
use Rattle.op_rt_heap.specs.Parts.{code}
use Rattle.op_rt_heap.specs.declared.slots.TheConstants.{BEGINS_SLOT, ENDS_ROW, FINDS, FREES, ISSUES, LOOKS, WRITES_ROW}

abbrev pub looks : List Instruction
looks = code LOOKS

abbrev pub finds : List Instruction
finds = code FINDS

abbrev pub issues : List Instruction
issues = code ISSUES

abbrev pub begins_slot : List Instruction
begins_slot = code BEGINS_SLOT

abbrev pub writes_row : List Instruction
writes_row = code WRITES_ROW

abbrev pub frees : List Instruction
frees = code FREES

abbrev pub ends_row : List Instruction
ends_row = code ENDS_ROW

-- Of nothing: it ends the program with run-time error 203 where no slot can be issued. It is called before the block of an instance is taken.
abbrev pub test_slot : Routine
test_slot =
    record {
      parameters = 0;
      registers = 8;
      locals = 0;
      blocks = block looks ∷ block finds ∷ block fails ∷ [];
    }

-- Of the address of the block of an instance: it issues the next slot, which leads to the block, and gives the word of the instance.
abbrev pub issue_slot : Routine
issue_slot =
    record {
      parameters = 1;
      registers = 8;
      locals = 0;
      blocks = block issues ∷ block begins_slot ∷ block writes_row ∷ [];
    }

-- Of a slot: it is the next one that is issued, or it is retired.
abbrev pub free_slot : Routine
free_slot =
    record {
      parameters = 1;
      registers = 8;
      locals = 0;
      blocks = block frees ∷ block ends_row ∷ [];
    }
