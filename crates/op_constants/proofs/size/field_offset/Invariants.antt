use Rattle.std.proofs.Common.{◌≡◌, drop}
use Rattle.op_constants.specs.Offsets.{field_offset, offset_behind}
use Rattle.op_constants.proofs.size.field_offset.Given as goal

-- the fields that are left tell where the field begins
abbrev pub invariant-loop-field : goal.invariant-loop-field
invariant-loop-field l = offset_behind l.core l.end (drop l.field-index l.field-items) l.before ≡ field_offset l.core l.fn.of l.number
