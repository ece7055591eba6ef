use Rattle.std.proofs.Common.{rules, ap, subst, ◌∙◌, arith}
use Rattle.op_check_unit.proofs.Going.{values_done, values_more}
use Rattle.op_check_unit.specs.Steps.{Declares, here_of}
use Rattle.op_check_unit.specs.Types.{value_of, values}
use Rattle.op_check_unit.proofs.declarer.Declarer.values.Goals as goal
use Rattle.op_check_unit.specs.Naming.{declared_within}
use Rattle.op_judgement.specs.Steps.{done}

pub loop-k-preserved : goal.loop-k-preserved
loop-k-preserved c =
    values_more c.args.of c.args.names.now c.loop-k.k c.index-names-k.result (done (values c.args.of 0 c.args.names.now (here_of c.args.self.now))) c.args.self.now c.loop-k.self c.declare_within.new.self c.loop-k-test.true c.index-names-k.is c.loop-k.invariant
    (subst (λ m. Declares (declared_within c.index-names-k.result m (here_of c.loop-k.self)) c.loop-k.self c.declare_within.new.self) (c.value_of.ensures ∙ ap (value_of c.args.of) (search rules)) c.in_ok-declare_within.ensures)

pub returns : goal.returns
returns c =
    let h = c.loop-k-test.false in
    values_done c.args.of c.args.names.now c.loop-k.k (done (values c.args.of 0 c.args.names.now (here_of c.args.self.now))) c.args.self.now c.loop-k.self (omega (arith, h)) c.loop-k.invariant
