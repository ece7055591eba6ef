use Rattle.std.proofs.Common.{arith}
use Rattle.std.specs.Option.{option_copied, option_map}
use Rattle.op_check_unit.proofs.Going.{all_done, all_more}
use Rattle.op_check_unit.specs.Steps.{here_of}
use Rattle.op_core.specs.declared.routine.Role.TheVariants.{Plain}
use Rattle.op_tree.specs.Initial.{initial_of}
use Rattle.op_check_unit.proofs.declarer.Declarer.all_entered.Goals as goal
use Rattle.op_check_unit.specs.Declaring.{row_entered}
use Rattle.op_judgement.specs.Steps.{done, each}

pub loop-name-preserved : goal.loop-name-preserved
loop-name-preserved c =
    let row = row_entered Plain c.args.of (option_map initial_of (option_copied c.args.value)) in
    all_more row c.args.names.now c.loop-name.name-index c.name-item.result (done (each row c.args.names.now (here_of c.args.self.now))) c.args.self.now c.loop-name.self c.row_entered.new.self c.loop-name-test.true c.name-item.is c.loop-name.invariant c.in_ok-row_entered.ensures

pub returns : goal.returns
returns c =
    let h = c.loop-name-test.false in
    let row = row_entered Plain c.args.of (option_map initial_of (option_copied c.args.value)) in
    all_done row c.args.names.now c.loop-name.name-index (done (each row c.args.names.now (here_of c.args.self.now))) c.args.self.now c.loop-name.self (omega (arith, h)) c.loop-name.invariant
