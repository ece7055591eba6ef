use Rattle.std.proofs.Common.{◌≡◌, ◌+◌, ap, subst, ◌∙◌, arith}
use Rattle.op_check_unit.proofs.Going.{variables_done, variables_more}
use Rattle.op_check_unit.specs.Declaring.{variable_meaning, variables_named}
use Rattle.op_check_unit.specs.Steps.{Declares, here_of}
use Rattle.op_check_unit.proofs.declarer.Declarer.variables_named.Goals as goal
use Rattle.op_check_unit.specs.Naming.{declared}
use Rattle.op_judgement.specs.Steps.{done}

pub loop-k-preserved : goal.loop-k-preserved
loop-k-preserved c =
    let here = here_of c.loop-k.self in
    let x = c.index-names-k.result in
    let number : c.in-Ok.number ≡ c.args.first + c.loop-k.k = omega (arith) in
    variables_more c.args.of c.args.first c.args.names.now c.loop-k.k x (done (variables_named c.args.of c.args.first c.args.names.now (here_of c.args.self.now))) c.args.self.now c.loop-k.self c.declare.new.self c.loop-k-test.true c.index-names-k.is c.loop-k.invariant
    (subst (λ m. Declares (declared x m here) c.loop-k.self c.declare.new.self) (c.variable_meaning.ensures ∙ ap (variable_meaning c.args.of) number) c.in_ok-declare.ensures)

pub returns : goal.returns
returns c =
    let h = c.loop-k-test.false in
    variables_done c.args.of c.args.first c.args.names.now c.loop-k.k (done (variables_named c.args.of c.args.first c.args.names.now (here_of c.args.self.now))) c.args.self.now c.loop-k.self (omega (arith, h)) c.loop-k.invariant
