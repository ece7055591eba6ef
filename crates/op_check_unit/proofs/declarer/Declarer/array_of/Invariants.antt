use Rattle.std.proofs.Common.{reverse, vec_len}
use Rattle.op_check_unit.proofs.Going.{Completes}
use Rattle.op_check_unit.specs.Steps.{here_of}
use Rattle.op_check_unit.proofs.declarer.Declarer.array_of.Given as goal
use Rattle.op_check_unit.specs.Types.{arrays}
use Rattle.op_judgement.specs.Steps.{done}

abbrev pub invariant-loop-index : goal.invariant-loop-index
invariant-loop-index l = Completes (done (arrays l.place l.fn.element (reverse l.fn.indices.items) (here_of l.fn.self))) (done (arrays l.place l.of (reverse l.indices.items) (here_of l.self))) l.fn.self l.self

abbrev pub decreases-loop-index : goal.decreases-loop-index
decreases-loop-index l = vec_len l.indices
