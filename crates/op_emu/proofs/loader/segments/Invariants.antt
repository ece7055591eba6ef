use Rattle.std.proofs.Common.{◌≡◌, map, take}
use Rattle.op_link.specs.Image.{segments, region_in}
use Rattle.op_emu.specs.Segments.{regions_of}
use Rattle.op_emu.proofs.loader.segments.Given as goal

abbrev pub invariant-loop-k : goal.invariant-loop-k
invariant-loop-k l =
    regions_of l.segments.items ≡ map (region_in l.image) (take l.k (segments l.image))
