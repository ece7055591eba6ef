use Rattle.std.proofs.Common.{drop}
use Rattle.std.specs.Option.{option_copied}
use Rattle.op_check_unit.proofs.Going.{Completes}
use Rattle.op_check_unit.specs.Steps.{here_of}
use Rattle.op_check_unit.proofs.declarer.Declarer.some_parameters.Given as goal
use Rattle.op_check_unit.specs.Headings.{one_parameter}
use Rattle.op_judgement.specs.Steps.{done, gather}

abbrev pub invariant-loop-name : goal.invariant-loop-name
invariant-loop-name l = Completes (done (gather (one_parameter (option_copied l.own) l.mode l.of) l.names l.fn.rows (here_of l.fn.self))) (done (gather (one_parameter (option_copied l.own) l.mode l.of) (drop l.name-index l.names) l.rows (here_of l.self))) l.fn.self l.self
