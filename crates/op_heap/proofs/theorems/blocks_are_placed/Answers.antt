use Rattle.op_heap.proofs.Laws.{block_placed}
use Rattle.op_heap.proofs.theorems.blocks_are_placed.Goals as goal

pub returns : goal.returns
returns c = record { placed = block_placed }
