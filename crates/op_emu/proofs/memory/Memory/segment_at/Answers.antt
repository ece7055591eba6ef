use Rattle.std.proofs.Common.{◌∙◌, ap, find}
use Rattle.op_emu.specs.Region.{covers, range_of}
use Rattle.op_emu.specs.Segments.{region_of}
use Rattle.op_emu.proofs.Regions.{found_from_find}
use Rattle.op_emu.proofs.memory.Memory.segment_at.Goals as goal

pub returns : goal.returns
returns c =
    found_from_find c.args.self.now.segments.items c.args.at c.find_segment.result
    (c.find_segment.ensures ∙ ap (find (λ s. covers (range_of (region_of s)) c.args.at)) c.deref.ensures.value)
