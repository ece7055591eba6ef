use Rattle.std.proofs.Common.{◌∙◌, sym}
use Rattle.op_emu.specs.Segments.{region_of}
use Rattle.op_emu.proofs.Regions.{byte_in-found, byte_in-none}
use Rattle.op_emu.proofs.memory.Memory.byte.Goals as goal

pub returns-in-None : goal.returns-in-None
returns-in-None c = sym (byte_in-none _ c.args.at c.in-None.ensures)

pub returns-in-Some : goal.returns-in-Some
returns-in-Some c =
    c.byte.ensures ∙ sym (byte_in-found _ c.args.at (region_of c.in-Some.segment.now) c.in-Some.ensures.found)
