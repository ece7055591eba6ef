use Rattle.std.proofs.Common.{None, refl, subst}
use Rattle.std.specs.Option.{option_copied, option_map}
use Rattle.op_check_unit.proofs.Going.{head_joined, head_last}
use Rattle.op_check_unit.specs.Steps.{Leaves, here_of}
use Rattle.op_tree.specs.Declaration.{heading_of}
use Rattle.op_tree.specs.Denoter.{denoter_of}
use Rattle.op_check_unit.proofs.declarer.Declarer.head.Goals as goal
use Rattle.op_check_unit.specs.Headings.{result_means}

pub returns-in-None : goal.returns-in-None
returns-in-None c =
    let far = c.result_of.new.self in
    head_joined (heading_of c.args.heading.now) (option_copied c.own_name-own.result) c.as_slice.result.now c.new-rows.result c.parameter_groups.new.rows None c.args.self.now c.parameter_groups.new.self far far None
    c.own_name-own.ensures c.as_slice.ensures c.new-rows.ensures c.in_ok-parameter_groups.ensures
    (subst (Leaves (result_means (option_map denoter_of c.args.heading.now.result) (here_of c.parameter_groups.new.self)) c.parameter_groups.new.self far) c.in-None.is c.in_ok-result_of.ensures) (refl, (refl, refl))

pub returns-in-Some : goal.returns-in-Some
returns-in-Some c =
    head_last (heading_of c.args.heading.now) (option_copied c.own_name-own.result) c.as_slice.result.now c.new-rows.result c.parameter_groups.new.rows c.in_ok-result_of.field-0 c.in-Some.of c.args.self.now c.parameter_groups.new.self c.result_of.new.self c.head_by.new.self c.head_by.result
    c.own_name-own.ensures c.as_slice.ensures c.new-rows.ensures c.in_ok-parameter_groups.ensures c.in_ok-result_of.ensures c.in-Some.is c.head_by.ensures
