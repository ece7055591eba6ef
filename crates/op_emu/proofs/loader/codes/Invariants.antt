use Rattle.op_emu.specs.Rows.{AllDecoded}
use Rattle.op_emu.specs.Segments.{regions_of}
use Rattle.op_emu.proofs.loader.codes.Given as goal

abbrev pub invariant-loop-k : goal.invariant-loop-k
invariant-loop-k l = AllDecoded (regions_of l.segments) l.codes.items
