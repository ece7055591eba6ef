use Rattle.op_heap.proofs.Laws.{sizes_least}
use Rattle.op_heap.proofs.theorems.sizes_are_least.Goals as goal

pub returns : goal.returns
returns c = record { least = sizes_least }
