use Rattle.std.proofs.Common.{IfOk, subst}
use Rattle.op_check_unit.proofs.Going.{plain_joined}
use Rattle.op_check_unit.specs.Steps.{Declares, here_of}
use Rattle.op_tree.specs.Declaration.{body_of, heading_of}
use Rattle.op_check_unit.proofs.declarer.Declarer.plain_declared.Goals as goal
use Rattle.op_check_unit.specs.Routines.{headed}

pub returns : goal.returns
returns c =
    let x = heading_of c.args.heading.now in
    let b = body_of c.args.body.now in
    let last = c.end.new.self in
    let new = c.headed.new.self in
    let r = c.headed.result in
    plain_joined x c.args.directives.now b c.check_form-form.result c.in_ok-head.head c.args.self.now c.stand_ahead.new.self c.check_form-form.new.self c.head.new.self last new r
    c.in_ok-stand_ahead.ensures.here c.in_ok-stand_ahead.ensures.kept c.check_form-form.ensures c.in_ok-head.ensures c.end.ensures.here c.end.ensures.kept
    (subst (λ u. IfOk r (λ y. Declares (headed x.name u b (here_of last)) last new)) c.both_typed.ensures c.headed.ensures)
