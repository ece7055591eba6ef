use Rattle.op_heap.proofs.Stays.{heap_same, heap_stored, slots_within}
use Rattle.op_heap.proofs.theorems.heap_stays.Goals as goal

pub returns : goal.returns
returns c =
    record {
      stays = record {
        stored = λ memory after kinds h b changes found lies. heap_stored kinds memory after h b changes found lies;
        elsewhere = λ memory after kinds h link same lies. heap_same kinds memory after h link same lies;
        slots = slots_within;
      };
    }
