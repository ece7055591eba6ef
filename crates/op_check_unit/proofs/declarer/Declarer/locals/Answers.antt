use Rattle.std.proofs.Common.{arith}
use Rattle.op_check_unit.proofs.Going.{declarations_done, declarations_more}
use Rattle.op_check_unit.specs.Steps.{here_of}
use Rattle.op_tree.specs.Declaration.{declarations_of}
use Rattle.op_check_unit.proofs.declarer.Declarer.locals.Goals as goal
use Rattle.op_check_unit.specs.Routines.{local_declared}
use Rattle.op_judgement.specs.Steps.{done, each_declaration}

pub loop-declaration-preserved : goal.loop-declaration-preserved
loop-declaration-preserved c =
    declarations_more local_declared c.args.declarations.now c.loop-declaration.declaration-index c.declaration-item.result (done (each_declaration local_declared (declarations_of c.args.declarations.now) (here_of c.args.self.now))) c.args.self.now c.loop-declaration.self c.local_declared.new.self c.loop-declaration-test.true c.declaration-item.is c.loop-declaration.invariant c.in_ok-local_declared.ensures

pub returns : goal.returns
returns c =
    let h = c.loop-declaration-test.false in
    declarations_done local_declared c.args.declarations.now c.loop-declaration.declaration-index (done (each_declaration local_declared (declarations_of c.args.declarations.now) (here_of c.args.self.now))) c.args.self.now c.loop-declaration.self (omega (arith, h)) c.loop-declaration.invariant
