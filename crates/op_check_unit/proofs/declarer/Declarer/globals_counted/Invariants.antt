use Rattle.std.proofs.Common.{drop}
use Rattle.op_check_unit.proofs.Going.{Completes}
use Rattle.op_check_unit.specs.Steps.{here_of}
use Rattle.op_check_unit.proofs.declarer.Declarer.globals_counted.Given as goal
use Rattle.op_check_unit.specs.Programs.{globals_counted}
use Rattle.op_judgement.specs.Steps.{done}

abbrev pub invariant-loop-global : goal.invariant-loop-global
invariant-loop-global l = Completes (done (globals_counted l.globals (here_of l.fn.self))) (done (globals_counted (drop l.global-index l.globals) (here_of l.self))) l.fn.self l.self
