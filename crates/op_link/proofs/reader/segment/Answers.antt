use Rattle.std.proofs.Common.{◌∙◌, ap, sym, arith, Some}
use Rattle.op_link.specs.Image.{has_file_bytes}
use Rattle.op_link.proofs.Whole.{whole, has_file_bytes-at}
use Rattle.op_link.proofs.Headers.{has_table, nth_segment}
use Rattle.op_link.proofs.reader.segment.Goals as goal

pub segment_at-requires : goal.segment_at-requires
segment_at-requires c =
    let header = c.requires.header in
    let table = has_table c.args.bytes.now (whole c.args.bytes.now header.meets).table in
    omega (arith, table.within, header.number, c.requires.within)

pub returns-clause-is : goal.returns-clause-is
returns-clause-is c =
    nth_segment c.args.bytes.now c.args.k (omega (arith, c.requires.header.number, c.requires.within)) ∙ ap Some (sym c.segment_at.ensures)

pub returns-clause-whole : goal.returns-clause-whole
returns-clause-whole c =
    ap (has_file_bytes c.args.bytes.now) c.segment_at.ensures
    ∙ has_file_bytes-at c.args.bytes.now c.args.k c.requires.header.meets (omega (arith, c.requires.header.number, c.requires.within))
