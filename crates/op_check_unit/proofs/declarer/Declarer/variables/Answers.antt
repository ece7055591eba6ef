use Rattle.std.proofs.Common.{map, arith}
use Rattle.op_check_unit.proofs.Going.{each_done, each_more}
use Rattle.op_check_unit.specs.Steps.{here_of}
use Rattle.op_tree.specs.Declaration.{variables_of}
use Rattle.op_check_unit.proofs.declarer.Declarer.variables.Goals as goal
use Rattle.op_check_unit.specs.Declaring.{one_type_declared}
use Rattle.op_judgement.specs.Steps.{done, each}

pub loop-declaration-preserved : goal.loop-declaration-preserved
loop-declaration-preserved c =
    each_more one_type_declared variables_of c.args.declarations.now c.loop-declaration.declaration-index c.declaration-item.result (done (each one_type_declared (map variables_of c.args.declarations.now) (here_of c.args.self.now))) c.args.self.now c.loop-declaration.self c.one_type_declared.new.self c.loop-declaration-test.true c.declaration-item.is c.loop-declaration.invariant c.in_ok-one_type_declared.ensures

pub returns : goal.returns
returns c =
    let h = c.loop-declaration-test.false in
    each_done one_type_declared variables_of c.args.declarations.now c.loop-declaration.declaration-index (done (each one_type_declared (map variables_of c.args.declarations.now) (here_of c.args.self.now))) c.args.self.now c.loop-declaration.self (omega (arith, h)) c.loop-declaration.invariant
