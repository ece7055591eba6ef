use Rattle.std.proofs.Common.{arith}
use Rattle.std.specs.Option.{option_copied}
use Rattle.op_check_unit.proofs.Going.{gather_done, gather_more}
use Rattle.op_check_unit.specs.Steps.{here_of}
use Rattle.op_check_unit.proofs.declarer.Declarer.some_parameters.Goals as goal
use Rattle.op_check_unit.specs.Headings.{one_parameter}
use Rattle.op_judgement.specs.Steps.{done, gather}

pub loop-name-preserved : goal.loop-name-preserved
loop-name-preserved c =
    let f = one_parameter (option_copied c.args.own) c.args.mode c.args.of in
    gather_more f c.args.names.now c.loop-name.name-index c.name-item.result c.loop-name.rows c.one_parameter.new.rows (done (gather f c.args.names.now c.args.rows.now (here_of c.args.self.now))) c.args.self.now c.loop-name.self c.one_parameter.new.self c.loop-name-test.true c.name-item.is c.loop-name.invariant c.in_ok-one_parameter.ensures

pub returns : goal.returns
returns c =
    let h = c.loop-name-test.false in
    let f = one_parameter (option_copied c.args.own) c.args.mode c.args.of in
    gather_done f c.args.names.now c.loop-name.name-index c.loop-name.rows (done (gather f c.args.names.now c.args.rows.now (here_of c.args.self.now))) c.args.self.now c.loop-name.self (omega (arith, h)) c.loop-name.invariant
