use Rattle.op_rt_heap.proofs.StartRun.{starts_heap}
use Rattle.op_rt_heap.proofs.theorems.heap_begins.Goals as goal

pub returns : goal.returns
returns c = record { begins = starts_heap }
