use Rattle.op_check_stmt.proofs.Parts.{behind_same}
use Rattle.op_check_stmt.specs.Case.{distinct}
use Rattle.op_judgement.specs.Judgement.{Reports}
use Rattle.op_check_stmt.proofs.walk.head.Goals as goal

pub returns : goal.returns
returns c = behind_same (λ p. Reports (distinct p c.args.spots.items) c.args.sink.now c.distinct.new.sink c.put.new.out) c.args.done.0 c.args.done.1 _ _ c.in_ok-parts.ensures (rw c.put.ensures (rw c.as_slice.ensures.value at c.in_ok-made.ensures))
