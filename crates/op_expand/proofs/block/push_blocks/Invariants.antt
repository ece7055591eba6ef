use Rattle.std.proofs.Common.{◌≡◌, ◌++◌, drop}
use Rattle.op_expand.specs.Routines.{blocks_of}
use Rattle.op_expand.proofs.block.push_blocks.Given as goal

-- the blocks that are left give the rest
abbrev pub invariant-loop-block : goal.invariant-loop-block
invariant-loop-block l =
    l.low.items ++ blocks_of l.core l.mir l.frame l.literals l.code.items (drop l.block-index l.blocks)
    ≡ l.fn.low.items ++ blocks_of l.core l.mir l.frame l.literals l.fn.front.items l.blocks
