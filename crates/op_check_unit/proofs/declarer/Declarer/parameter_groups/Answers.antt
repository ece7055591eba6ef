use Rattle.std.proofs.Common.{arith}
use Rattle.std.specs.Option.{option_copied}
use Rattle.op_check_unit.proofs.Going.{gather_done, gather_more}
use Rattle.op_check_unit.specs.Steps.{here_of}
use Rattle.op_check_unit.proofs.declarer.Declarer.parameter_groups.Goals as goal
use Rattle.op_check_unit.specs.Headings.{parameter_group}
use Rattle.op_judgement.specs.Steps.{done, gather}

pub loop-group-preserved : goal.loop-group-preserved
loop-group-preserved c =
    let f = parameter_group (option_copied c.args.own) in
    gather_more f c.args.groups.now c.loop-group.group-index c.group-item.result c.loop-group.rows c.parameter_group.new.rows (done (gather f c.args.groups.now c.args.rows.now (here_of c.args.self.now))) c.args.self.now c.loop-group.self c.parameter_group.new.self c.loop-group-test.true c.group-item.is c.loop-group.invariant c.in_ok-parameter_group.ensures

pub returns : goal.returns
returns c =
    let h = c.loop-group-test.false in
    let f = parameter_group (option_copied c.args.own) in
    gather_done f c.args.groups.now c.loop-group.group-index c.loop-group.rows (done (gather f c.args.groups.now c.args.rows.now (here_of c.args.self.now))) c.args.self.now c.loop-group.self (omega (arith, h)) c.loop-group.invariant
