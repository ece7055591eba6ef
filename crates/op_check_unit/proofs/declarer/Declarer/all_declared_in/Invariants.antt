use Rattle.std.proofs.Common.{drop}
use Rattle.op_check_unit.proofs.Going.{Completes}
use Rattle.op_check_unit.specs.Steps.{here_of}
use Rattle.op_tree.specs.Declaration.{declarations_of}
use Rattle.op_check_unit.proofs.declarer.Declarer.all_declared_in.Given as goal
use Rattle.op_check_unit.specs.Programs.{declaration_means}
use Rattle.op_judgement.specs.Steps.{done, each_declaration}

abbrev pub invariant-loop-declaration : goal.invariant-loop-declaration
invariant-loop-declaration l = Completes (done (each_declaration declaration_means (declarations_of l.declarations) (here_of l.fn.self))) (done (each_declaration declaration_means (declarations_of (drop l.declaration-index l.declarations)) (here_of l.self))) l.fn.self l.self
