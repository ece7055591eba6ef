use Rattle.op_rt_text.proofs.ValidRoutines.{valid_routines}
use Rattle.op_rt_text.proofs.theorems.routines_are_valid.Goals as goal

pub returns : goal.returns
returns c = valid_routines
