use Rattle.std.proofs.Common.{drop}
use Rattle.op_check_unit.proofs.Going.{Completes}
use Rattle.op_check_unit.specs.Steps.{here_of}
use Rattle.op_check_unit.proofs.declarer.Declarer.values.Given as goal
use Rattle.op_check_unit.specs.Types.{values}
use Rattle.op_judgement.specs.Steps.{done}

abbrev pub invariant-loop-k : goal.invariant-loop-k
invariant-loop-k l = Completes (done (values l.of 0 l.names (here_of l.fn.self))) (done (values l.of l.k (drop l.k l.names) (here_of l.self))) l.fn.self l.self
