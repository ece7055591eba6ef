use Rattle.op_rt_heap.proofs.SlotCalls.{issues_it}
use Rattle.op_rt_heap.proofs.theorems.slots_are_issued.Goals as goal

pub returns : goal.returns
returns c = record { issued = λ low p m r operands rest h s address control lies called fits next. issues_it low p m r operands rest h control lies s address called fits next }
