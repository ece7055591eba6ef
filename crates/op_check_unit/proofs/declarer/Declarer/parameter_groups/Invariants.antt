use Rattle.std.proofs.Common.{drop}
use Rattle.std.specs.Option.{option_copied}
use Rattle.op_check_unit.proofs.Going.{Completes}
use Rattle.op_check_unit.specs.Steps.{here_of}
use Rattle.op_check_unit.proofs.declarer.Declarer.parameter_groups.Given as goal
use Rattle.op_check_unit.specs.Headings.{parameter_group}
use Rattle.op_judgement.specs.Steps.{done, gather}

abbrev pub invariant-loop-group : goal.invariant-loop-group
invariant-loop-group l = Completes (done (gather (parameter_group (option_copied l.own)) l.groups l.fn.rows (here_of l.fn.self))) (done (gather (parameter_group (option_copied l.own)) (drop l.group-index l.groups) l.rows (here_of l.self))) l.fn.self l.self
