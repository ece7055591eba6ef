use Rattle.std.proofs.Common.{drop, map}
use Rattle.op_check_unit.proofs.Going.{Completes}
use Rattle.op_check_unit.specs.Steps.{here_of}
use Rattle.op_tree.specs.Declaration.{constant_of}
use Rattle.op_check_unit.proofs.declarer.Declarer.constants.Given as goal
use Rattle.op_check_unit.specs.Declaring.{constant_declared}
use Rattle.op_judgement.specs.Steps.{done, each}

abbrev pub invariant-loop-declaration : goal.invariant-loop-declaration
invariant-loop-declaration l = Completes (done (each constant_declared (map constant_of l.declarations) (here_of l.fn.self))) (done (each constant_declared (map constant_of (drop l.declaration-index l.declarations)) (here_of l.self))) l.fn.self l.self
