use Rattle.std.proofs.Common.{sym, arith}
use Rattle.op_link.specs.Image.{first_failing}
use Rattle.op_link.proofs.Headers.{has_room, has_table}
use Rattle.op_link.proofs.reader.read_header.Goals as goal

pub returns-then-not-has_image_size-clause-condition : goal.returns-then-not-has_image_size-clause-condition
unfolding first_failing
returns-then-not-has_image_size-clause-condition c = simp (sym c.if-not-has_image_size.ensures)

pub has_magic-requires : goal.has_magic-requires
has_magic-requires c = has_room c.args.bytes.now c.if-not-has_image_size.ensures

pub returns-then-not-has_magic-clause-condition : goal.returns-then-not-has_magic-clause-condition
unfolding first_failing
returns-then-not-has_magic-clause-condition c = simp (sym c.if-not-has_image_size.ensures, sym c.if-not-has_magic.ensures)

pub has_identity-requires : goal.has_identity-requires
has_identity-requires c = has_room c.args.bytes.now c.if-not-has_image_size.ensures

pub returns-then-not-has_identity-clause-condition : goal.returns-then-not-has_identity-clause-condition
unfolding first_failing
returns-then-not-has_identity-clause-condition c = simp (sym c.if-not-has_image_size.ensures, sym c.if-not-has_magic.ensures, sym c.if-not-has_identity.ensures)

pub is_executable_file-requires : goal.is_executable_file-requires
is_executable_file-requires c = has_room c.args.bytes.now c.if-not-has_image_size.ensures

pub returns-then-not-is_executable_file-clause-condition : goal.returns-then-not-is_executable_file-clause-condition
unfolding first_failing
returns-then-not-is_executable_file-clause-condition c = simp (sym c.if-not-has_image_size.ensures, sym c.if-not-has_magic.ensures, sym c.if-not-has_identity.ensures, sym c.if-not-is_executable_file.ensures)

pub is_for_riscv-requires : goal.is_for_riscv-requires
is_for_riscv-requires c = has_room c.args.bytes.now c.if-not-has_image_size.ensures

pub returns-then-not-is_for_riscv-clause-condition : goal.returns-then-not-is_for_riscv-clause-condition
unfolding first_failing
returns-then-not-is_for_riscv-clause-condition c = simp (sym c.if-not-has_image_size.ensures, sym c.if-not-has_magic.ensures, sym c.if-not-has_identity.ensures, sym c.if-not-is_executable_file.ensures, sym c.if-not-is_for_riscv.ensures)

pub has_header_table-requires : goal.has_header_table-requires
has_header_table-requires c = has_room c.args.bytes.now c.if-not-has_image_size.ensures

pub returns-then-not-has_header_table-clause-condition : goal.returns-then-not-has_header_table-clause-condition
unfolding first_failing
returns-then-not-has_header_table-clause-condition c = simp (sym c.if-not-has_image_size.ensures, sym c.if-not-has_magic.ensures, sym c.if-not-has_identity.ensures, sym c.if-not-is_executable_file.ensures, sym c.if-not-is_for_riscv.ensures, sym c.if-not-has_header_table.ensures)

pub half-number-requires : goal.half-number-requires
half-number-requires c =
    let room = has_room c.args.bytes.now c.if-not-has_image_size.ensures in omega arith

pub split_at-requires : goal.split_at-requires
split_at-requires c =
    let table = has_table c.args.bytes.now (sym c.if-not-has_header_table.ensures) in omega (arith, table.few)

pub returns-then-not-has_loadable_segments-clause-condition : goal.returns-then-not-has_loadable_segments-clause-condition
unfolding first_failing
returns-then-not-has_loadable_segments-clause-condition c = simp (sym c.if-not-has_image_size.ensures, sym c.if-not-has_magic.ensures, sym c.if-not-has_identity.ensures, sym c.if-not-is_executable_file.ensures, sym c.if-not-is_for_riscv.ensures, sym c.if-not-has_header_table.ensures, sym c.if-not-has_loadable_segments.ensures)

pub returns-then-not-has_segments_in_reach-clause-condition : goal.returns-then-not-has_segments_in_reach-clause-condition
unfolding first_failing
returns-then-not-has_segments_in_reach-clause-condition c = simp (sym c.if-not-has_image_size.ensures, sym c.if-not-has_magic.ensures, sym c.if-not-has_identity.ensures, sym c.if-not-is_executable_file.ensures, sym c.if-not-is_for_riscv.ensures, sym c.if-not-has_header_table.ensures, sym c.if-not-has_loadable_segments.ensures, sym c.if-not-has_segments_in_reach.ensures)

pub has_executable_entry-requires-clause-size : goal.has_executable_entry-requires-clause-size
has_executable_entry-requires-clause-size c = has_room c.args.bytes.now c.if-not-has_image_size.ensures

pub returns-then-not-has_executable_entry-clause-condition : goal.returns-then-not-has_executable_entry-clause-condition
unfolding first_failing
returns-then-not-has_executable_entry-clause-condition c = simp (sym c.if-not-has_image_size.ensures, sym c.if-not-has_magic.ensures, sym c.if-not-has_identity.ensures, sym c.if-not-is_executable_file.ensures, sym c.if-not-is_for_riscv.ensures, sym c.if-not-has_header_table.ensures, sym c.if-not-has_loadable_segments.ensures, sym c.if-not-has_segments_in_reach.ensures, sym c.if-not-has_executable_entry.ensures)

pub word-requires : goal.word-requires
word-requires c =
    let room = has_room c.args.bytes.now c.if-not-has_image_size.ensures in omega arith

pub returns-clause-header : goal.returns-clause-header
unfolding first_failing
returns-clause-header c =
    record {
      meets = simp (sym c.if-not-has_image_size.ensures, sym c.if-not-has_magic.ensures, sym c.if-not-has_identity.ensures, sym c.if-not-is_executable_file.ensures, sym c.if-not-is_for_riscv.ensures, sym c.if-not-has_header_table.ensures, sym c.if-not-has_loadable_segments.ensures, sym c.if-not-has_segments_in_reach.ensures, sym c.if-not-has_executable_entry.ensures);
      entry = c.word.ensures;
      number = c.half-number.ensures;
    }
