use Rattle.std.proofs.Common.{◌≡◌, drop}
use Rattle.op_link.specs.Placing.{items_in_blocks, left_of}
use Rattle.op_link.proofs.count.left_by_blocks.Given as goal

abbrev pub invariant-loop-block : goal.invariant-loop-block
invariant-loop-block l =
    left_of l.room (items_in_blocks (drop l.block-index l.blocks)) ≡ left_of l.fn.room (items_in_blocks l.blocks)
