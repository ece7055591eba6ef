use Rattle.op_select.proofs.Loops.{sized_at}
use Rattle.op_select.proofs.routine.select.Goals as goal

pub object_routines-requires : goal.object_routines-requires
object_routines-requires c = λ k d within. sized_at c.args.low k d c.requires within
