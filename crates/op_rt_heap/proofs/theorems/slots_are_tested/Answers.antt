use Rattle.op_rt_heap.proofs.SlotCalls.{finds_it, refuses_it}
use Rattle.op_rt_heap.proofs.theorems.slots_are_tested.Goals as goal

pub returns : goal.returns
returns c =
    record {
      found = λ low p m r operands rest h s control lies called next. finds_it low p m r operands rest h control lies called s next;
      refused = λ low p m r operands rest h line control lies called stands next. refuses_it low p m r operands rest h control lies called line stands next;
    }
