use Rattle.std.proofs.Common.{◌+◌, drop}
use Rattle.op_check_unit.proofs.Going.{Completes}
use Rattle.op_check_unit.specs.Steps.{here_of}
use Rattle.op_check_unit.proofs.declarer.Declarer.variables_named.Given as goal
use Rattle.op_check_unit.specs.Declaring.{variables_named}
use Rattle.op_judgement.specs.Steps.{done}

abbrev pub invariant-loop-k : goal.invariant-loop-k
invariant-loop-k l = Completes (done (variables_named l.of l.first l.names (here_of l.fn.self))) (done (variables_named l.of (l.first + l.k) (drop l.k l.names) (here_of l.self))) l.fn.self l.self
