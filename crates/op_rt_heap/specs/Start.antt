-- The routine with which a program begins: of the bytes of the heap and of the stack. All of the heap becomes one hole, and no slot has been issued.
use Rattle.std.specs.Prelude.{List, [], ◌∷◌}
use Rattle.op_low.specs.declared.code.Routine.{Routine}
use Rattle.op_low.specs.declared.instruction.Instruction.{Instruction}
use Rattle.op_rt_heap.specs.Names.{block}
use Rattle.op_rt_heap.specs.Parts.{code}
use Rattle.op_rt_heap.specs.declared.starting.TheConstants.{STARTS}

abbrev pub starts : List Instruction
starts = code STARTS

abbrev pub start_heap : Routine
start_heap =
    record {
      parameters = 2;
      registers = 6;
      locals = 0;
      blocks = block starts ∷ [];
    }
