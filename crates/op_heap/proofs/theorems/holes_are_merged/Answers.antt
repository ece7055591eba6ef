use Rattle.op_heap.proofs.Laws.{block_given_up}
use Rattle.op_heap.proofs.theorems.holes_are_merged.Goals as goal

pub returns : goal.returns
returns c = record { merged = block_given_up }
