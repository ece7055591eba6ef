use Rattle.std.proofs.Common.{◌≡◌, ◌++◌, drop}
use Rattle.op_expand.specs.Closing.{part_blocks}
use Rattle.op_expand.proofs.closing.push_parts.Given as goal

-- the parts that are left give the rest
abbrev pub invariant-loop-part : goal.invariant-loop-part
invariant-loop-part l =
    l.blocks.items ++ part_blocks l.core l.mir l.stack l.count l.before (drop l.part-index l.parts)
    ≡ l.fn.blocks.items ++ part_blocks l.core l.mir l.stack l.count 0 l.parts
