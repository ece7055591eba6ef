use Rattle.std.proofs.Common.{arith}
use Rattle.op_check_unit.proofs.Going.{fields_done, fields_more}
use Rattle.op_check_unit.specs.Steps.{here_of}
use Rattle.op_check_unit.proofs.declarer.Declarer.some_fields.Goals as goal
use Rattle.op_check_unit.specs.Records.{some_fields}
use Rattle.op_judgement.specs.Steps.{done}

pub loop-name-preserved : goal.loop-name-preserved
loop-name-preserved c =
    fields_more c.args.of c.args.names.now c.loop-name.name-index c.name-item.result c.loop-name.rows c.one_field.new.rows (done (some_fields c.args.of c.args.names.now c.args.rows.now (here_of c.args.self.now))) c.args.self.now c.loop-name.self c.one_field.new.self c.loop-name-test.true c.name-item.is c.loop-name.invariant c.in_ok-one_field.ensures

pub returns : goal.returns
returns c =
    let h = c.loop-name-test.false in
    fields_done c.args.of c.args.names.now c.loop-name.name-index c.loop-name.rows (done (some_fields c.args.of c.args.names.now c.args.rows.now (here_of c.args.self.now))) c.args.self.now c.loop-name.self (omega (arith, h)) c.loop-name.invariant
