use Rattle.std.proofs.Common.{drop}
use Rattle.std.specs.Option.{option_copied, option_map}
use Rattle.op_check_unit.proofs.Going.{Completes}
use Rattle.op_check_unit.specs.Steps.{here_of}
use Rattle.op_core.specs.declared.routine.Role.TheVariants.{Plain}
use Rattle.op_tree.specs.Initial.{initial_of}
use Rattle.op_check_unit.proofs.declarer.Declarer.all_entered.Given as goal
use Rattle.op_check_unit.specs.Declaring.{row_entered}
use Rattle.op_judgement.specs.Steps.{done, each}

abbrev pub invariant-loop-name : goal.invariant-loop-name
invariant-loop-name l =
    let row = row_entered Plain l.of (option_map initial_of (option_copied l.value)) in
    Completes (done (each row l.names (here_of l.fn.self))) (done (each row (drop l.name-index l.names) (here_of l.self))) l.fn.self l.self
