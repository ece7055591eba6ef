use Rattle.std.proofs.Common.{◌∙◌, ◌+◌, ◌%◌, ◌≤◌, length, ap, sym, arith}
use Rattle.op_rv.specs.Step.{load_size_of}
use Rattle.op_emu.specs.Segments.{region_of, regions_of, IsFoundAt}
use Rattle.op_emu.proofs.Decoded.{load_found, readable_found}
use Rattle.op_emu.proofs.Writing.{found_there}
use Rattle.op_emu.proofs.access.load_within.Goals as goal

pub returns-then-has : goal.returns-then-has
returns-then-has c =
    let ss = c.args.segments.now in
    let rs = regions_of ss in
    let s = region_of c.index-segments-k.result in
    let found : IsFoundAt rs c.args.at s =
    found_there ss c.args.at c.in-Some.k c.index-segments-k.result c.in-Some.ensures c.index-segments-k.is c.requires.apart
    in
    let size = c.load_size-size.ensures.result in
    let whole : c.args.at + load_size_of c.args.op ≤ s.base + length s.bytes = omega (arith, size, c.has.ensures.0 c.if-has.true) in (
      readable_found rs s c.requires.apart c.args.at found (load_size_of c.args.op) (ap (λ n. c.args.at % n) (sym size) ∙ c.if-at-size-ne0.false) c.if-segment.true whole,
      c.load.ensures ∙ load_found rs s c.requires.apart c.args.at found c.args.op whole,
    )
