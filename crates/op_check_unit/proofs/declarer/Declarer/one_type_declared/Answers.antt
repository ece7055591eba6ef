use Rattle.std.proofs.Common.{IfOk, ap, subst, ◌∙◌}
use Rattle.op_check_unit.proofs.Going.{one_type_joined}
use Rattle.op_check_unit.specs.Naming.{all_ahead}
use Rattle.op_check_unit.specs.Steps.{Declares, here_of}
use Rattle.op_tree.specs.Declaration.{variables_of}
use Rattle.op_check_unit.proofs.declarer.Declarer.one_type_declared.Goals as goal
use Rattle.op_check_unit.specs.Declaring.{names_declared}

pub returns : goal.returns
returns c =
    let v = variables_of c.args.declaration.now in
    let old = c.args.self.now in
    let of = c.in_ok-of.of in
    let last = c.end.new.self in
    let new = c.names_declared.new.self in
    let r = c.names_declared.result in
    one_type_joined v old c.all_ahead.new.self c.denoted.new.self last new of r
    (c.in_ok-all_ahead.ensures.here ∙ ap (λ ns. all_ahead ns (here_of old)) c.as_slice.ensures) c.in_ok-all_ahead.ensures.kept c.in_ok-of.ensures c.end.ensures.here c.end.ensures.kept
    (subst (λ ns. IfOk r (λ x. Declares (names_declared of v.value ns (here_of last)) last new)) c.as_slice-2.ensures
    (subst (λ i. IfOk r (λ x. Declares (names_declared of i c.as_slice-2.result.now (here_of last)) last new)) c.first_value-value.ensures c.names_declared.ensures))
