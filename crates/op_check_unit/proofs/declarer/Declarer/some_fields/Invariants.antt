use Rattle.std.proofs.Common.{drop}
use Rattle.op_check_unit.proofs.Going.{Completes}
use Rattle.op_check_unit.specs.Steps.{here_of}
use Rattle.op_check_unit.proofs.declarer.Declarer.some_fields.Given as goal
use Rattle.op_check_unit.specs.Records.{some_fields}
use Rattle.op_judgement.specs.Steps.{done}

abbrev pub invariant-loop-name : goal.invariant-loop-name
invariant-loop-name l = Completes (done (some_fields l.of l.names l.fn.rows (here_of l.fn.self))) (done (some_fields l.of (drop l.name-index l.names) l.rows (here_of l.self))) l.fn.self l.self
