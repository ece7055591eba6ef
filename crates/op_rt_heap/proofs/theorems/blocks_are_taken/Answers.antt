use Rattle.op_rt_heap.proofs.BlockCalls.{block_refused, block_taken}
use Rattle.op_rt_heap.proofs.theorems.blocks_are_taken.Goals as goal

pub returns : goal.returns
returns c =
    record {
      taken = λ low p m r operands rest kinds h b opened lies called asked found. block_taken low p m r operands rest kinds h opened lies b called asked found;
      refused = λ low p m r operands rest kinds h size kind line opened lies called asked stands none. block_refused low p m r operands rest kinds h opened lies size kind line called asked stands none;
    }
