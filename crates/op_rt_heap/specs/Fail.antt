-- The end of a program with run-time error 203: its line is written to the error stream. (Free Pascal User's Guide, "Run-time errors")
use Rattle.std.specs.Prelude.{List}
use Rattle.op_low.specs.declared.instruction.Instruction.{Instruction}
use Rattle.op_rt_heap.specs.Parts.{code}
use Rattle.op_rt_heap.specs.declared.failing.TheConstants.{FAILS}

abbrev pub fails : List Instruction
fails = code FAILS
