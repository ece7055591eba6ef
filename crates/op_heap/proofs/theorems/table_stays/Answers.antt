use Rattle.op_heap.proofs.Tables.{table_freed, table_issued, table_left, table_plain}
use Rattle.op_heap.proofs.theorems.table_stays.Goals as goal

pub returns : goal.returns
returns c = record { stays = record { plain = table_plain; instance = table_issued; left = table_left; freed = table_freed } }
