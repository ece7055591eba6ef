use Rattle.std.proofs.Common.{◌≡◌, take, arith, ◌∙◌, sym, ap}
use Rattle.std.proofs.Math.ListN.{length-set}
use Rattle.op_link.specs.Image.{number_in, header_at, headers}
use Rattle.op_link.proofs.Headers.{has_table, take-headers, take-all_headers}
use Rattle.op_link.proofs.table.program_headers.Goals as goal

pub half-number-requires : goal.half-number-requires
half-number-requires c =
    let table = has_table c.args.image.now c.requires in omega (arith, table.within)

pub header_at-table-requires : goal.header_at-table-requires
header_at-table-requires c =
    let table = has_table c.args.image.now c.requires in omega (arith, table.within, table.some)

pub bounds-table-k : goal.bounds-table-k
bounds-table-k c =
    let table = has_table c.args.image.now c.requires in omega (arith, table.few, c.loop-k.invariant.all)

pub header_at-requires : goal.header_at-requires
header_at-requires c =
    let table = has_table c.args.image.now c.requires in
    omega (arith, table.within, c.loop-k.invariant.all)

pub loop-k-preserved : goal.loop-k-preserved
loop-k-preserved c =
    let image = c.args.image.now in
    let table = has_table image c.requires in
    let now = c.loop-k.invariant in
    record {
      room = length-set c.loop-k.table c.loop-k.k c.header_at.result ∙ now.room;
      all = now.all;
      same = take-headers image c.loop-k.table c.loop-k.k c.header_at.result (omega arith) (omega (arith, table.few, now.room)) now.same (c.header_at.ensures ∙ ap (header_at image) (omega arith));
    }

pub returns : goal.returns
returns c =
    let image = c.args.image.now in
    let now = c.loop-k.invariant in
    let all : c.loop-k.k ≡ number_in image = omega arith in
    ap (λ n. take n c.loop-k.table) (sym all) ∙ now.same ∙ ap (λ n. take n (headers image)) all ∙ take-all_headers image
