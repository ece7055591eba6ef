use Rattle.std.proofs.Common.{arith}
use Rattle.op_check_unit.proofs.Going.{all_done, numbers_more}
use Rattle.op_check_unit.specs.Steps.{here_of}
use Rattle.op_check_unit.proofs.declarer.Declarer.globals_counted.Goals as goal
use Rattle.op_check_unit.specs.Programs.{global_counted, globals_counted}
use Rattle.op_judgement.specs.Steps.{done}

pub loop-global-preserved : goal.loop-global-preserved
loop-global-preserved c =
    numbers_more global_counted c.args.globals.now c.loop-global.global-index (record { 0 = 0 }) (done (globals_counted c.args.globals.now (here_of c.args.self.now))) c.args.self.now c.loop-global.self c.global_counted.new.self c.loop-global-test.true c.loop-global.invariant c.in_ok-global_counted.ensures

pub returns : goal.returns
returns c =
    let h = c.loop-global-test.false in
    all_done global_counted c.args.globals.now c.loop-global.global-index (done (globals_counted c.args.globals.now (here_of c.args.self.now))) c.args.self.now c.loop-global.self (omega (arith, h)) c.loop-global.invariant
