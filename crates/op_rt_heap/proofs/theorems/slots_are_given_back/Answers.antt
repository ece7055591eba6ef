use Rattle.op_rt_heap.proofs.SlotCalls.{frees_it}
use Rattle.op_rt_heap.proofs.theorems.slots_are_given_back.Goals as goal

pub returns : goal.returns
returns c = record { freed = λ low p m r operands rest h s control lies called some used lacks. frees_it low p m r operands rest h control lies s called some used lacks }
