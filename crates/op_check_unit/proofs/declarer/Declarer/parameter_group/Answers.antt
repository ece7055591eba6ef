use Rattle.std.proofs.Common.{IfOk, Some, subst}
use Rattle.std.specs.Option.{option_copied}
use Rattle.op_check_unit.proofs.Going.{joined_call}
use Rattle.op_check_unit.specs.Steps.{Leaves, here_of}
use Rattle.op_check_unit.proofs.declarer.Declarer.parameter_group.Goals as goal
use Rattle.op_check_unit.specs.Headings.{parameter_type, some_parameters}
use Rattle.op_judgement.specs.Steps.{done}

pub returns : goal.returns
returns c =
    let own = option_copied c.args.own in
    let p = c.args.group.now in
    let of = c.in_ok-of.of in
    let mid = c.parameter_type.new.self in
    let new = c.some_parameters.new.self in
    let r = c.some_parameters.result in
    let rows = Some c.some_parameters.new.rows in
    joined_call (done (parameter_type p (here_of c.args.self.now))) (λ t h. done (some_parameters own p.mode t p.names c.args.rows.now h)) (λ x. rows) c.args.self.now mid new of r c.in_ok-of.ensures
    (subst (λ ns. IfOk r (λ x. Leaves (some_parameters own p.mode of ns c.args.rows.now (here_of mid)) mid new rows)) c.as_slice.ensures c.some_parameters.ensures)
