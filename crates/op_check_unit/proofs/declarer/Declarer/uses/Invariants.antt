use Rattle.std.proofs.Common.{drop}
use Rattle.op_check_unit.proofs.Going.{Completes}
use Rattle.op_check_unit.specs.Steps.{here_of}
use Rattle.op_check_unit.proofs.declarer.Declarer.uses.Given as goal
use Rattle.op_check_unit.specs.Uses.{uses_mean}
use Rattle.op_judgement.specs.Steps.{done}

abbrev pub invariant-loop-name : goal.invariant-loop-name
invariant-loop-name l = Completes (done (uses_mean l.exports l.names (here_of l.fn.self))) (done (uses_mean l.exports (drop l.name-index l.names) (here_of l.self))) l.fn.self l.self
