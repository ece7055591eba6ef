use Rattle.std.proofs.Common.{◌≡◌, ap, ◌∙◌, arith}
use Rattle.op_emu.specs.Segments.{regions_of}
use Rattle.op_emu.proofs.ImageLemmas.{one_more_region, all_regions}
use Rattle.op_emu.proofs.loader.segments.Goals as goal

pub loop-k-init : goal.loop-k-init
loop-k-init c = ap regions_of c.in_ok-segments.ensures.items

pub loop-k-preserved : goal.loop-k-preserved
loop-k-preserved c =
    let image = c.args.image.now in
    ap regions_of c.in_ok-push.ensures.items
    ∙ one_more_region image c.loop-k.segments.items c.loop-k.k c.segment.result c.in_ok-loaded.field-0 c.loop-k.invariant c.segment.ensures.is c.in_ok-loaded.ensures

pub returns : goal.returns
returns c =
    let image = c.args.image.now in
    let all : c.loop-k.k ≡ c.args.header.now.number = omega arith in
    c.loop-k.invariant ∙ all_regions image c.loop-k.k (all ∙ c.requires.number)
