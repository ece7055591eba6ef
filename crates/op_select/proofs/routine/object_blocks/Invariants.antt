use Rattle.std.proofs.Common.{◌≡◌, map, take}
use Rattle.op_select.specs.Selection.{object_block_of}
use Rattle.op_select.proofs.routine.object_blocks.Given as goal

abbrev pub invariant-loop-block : goal.invariant-loop-block
invariant-loop-block l = l.blocks.items ≡ map (object_block_of l.routine) (take l.block-index l.block-items)
