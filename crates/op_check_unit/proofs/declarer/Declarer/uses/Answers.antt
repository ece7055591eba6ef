use Rattle.std.proofs.Common.{arith}
use Rattle.op_check_unit.proofs.Going.{all_done, all_more}
use Rattle.op_check_unit.specs.Steps.{here_of}
use Rattle.op_check_unit.proofs.declarer.Declarer.uses.Goals as goal
use Rattle.op_check_unit.specs.Uses.{used, uses_mean}
use Rattle.op_judgement.specs.Steps.{done}

pub loop-name-preserved : goal.loop-name-preserved
loop-name-preserved c =
    all_more (used c.args.exports.now) c.args.names.now c.loop-name.name-index c.name-item.result (done (uses_mean c.args.exports.now c.args.names.now (here_of c.args.self.now))) c.args.self.now c.loop-name.self c.used.new.self c.loop-name-test.true c.name-item.is c.loop-name.invariant c.in_ok-used.ensures

pub returns : goal.returns
returns c =
    let h = c.loop-name-test.false in
    all_done (used c.args.exports.now) c.args.names.now c.loop-name.name-index (done (uses_mean c.args.exports.now c.args.names.now (here_of c.args.self.now))) c.args.self.now c.loop-name.self (omega (arith, h)) c.loop-name.invariant
