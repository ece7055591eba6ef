use Rattle.op_rt_heap.proofs.ValidRoutines.{valid_routines}
use Rattle.op_rt_heap.proofs.theorems.routines_are_valid.Goals as goal

pub returns : goal.returns
returns c = record { valid = valid_routines }
