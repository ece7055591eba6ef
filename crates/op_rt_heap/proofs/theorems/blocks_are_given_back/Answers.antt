use Rattle.op_rt_heap.proofs.BlockCalls.{block_given}
use Rattle.op_rt_heap.proofs.theorems.blocks_are_given_back.Goals as goal

pub returns : goal.returns
returns c = record { given = λ low p m r operands rest kinds h b opened lies called found. block_given low p m r operands rest kinds h opened lies b called found }
