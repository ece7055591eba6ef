use Rattle.op_heap.proofs.Laws.{blocks_read}
use Rattle.op_heap.proofs.theorems.blocks_are_read.Goals as goal

pub returns : goal.returns
returns c = record { read = blocks_read }
