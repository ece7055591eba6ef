use Rattle.std.proofs.Common.{List, ◌++◌, ◌∙◌, ap}
use Rattle.op_link.specs.declared.table.Segment.{Segment}
use Rattle.op_link.specs.Linking.{front_bytes, program_headers}
use Rattle.op_link.proofs.Parts.{three_parts}
use Rattle.op_link.proofs.writer.push_front.Goals as goal

pub returns : goal.returns
unfolding front_bytes
returns c =
    let table = c.in_ok-push_program_headers.ensures ∙ ap (λ (segments : List Segment). c.push_file_header.new.image.items ++ program_headers segments) c.segments.ensures in
    three_parts _ _ _ _ _ _ _ c.in_ok-push_file_header.ensures table c.in_ok-push_zeros.ensures
