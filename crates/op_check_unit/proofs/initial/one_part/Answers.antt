use Rattle.std.proofs.Common.{[], None, Some, ap, refl, subst, sym, ◌∷◌, ◌++◌, ◌∙◌}
use Rattle.std.specs.Option.{option_map}
use Rattle.op_judgement.proofs.Computed.{Reports}
use Rattle.op_check_unit.specs.Initials.{one_value, unless_wrong}
use Rattle.op_core.proofs.Nodes.{list_nodes}
use Rattle.op_core.specs.Initial.{first_value_of, parts}
use Rattle.op_core.specs.Nodes.{first_values_of}
use Rattle.op_core.specs.declared.constant.Initial.TheVariants.{Parts}
use Rattle.op_check_unit.proofs.initial.one_part.Goals as goal
use Rattle.op_judgement.specs.Judgement.{checked}

pub returns-in_ok-push-in-None-Some : goal.returns-in_ok-push-in-None-Some
returns-in_ok-push-in-None-Some c =
    let s = c.args.sink.now in
    let a = c.in-None-Some in
    let list = c.push.new.self in
    subst (λ w. Reports (checked (unless_wrong w (option_map one_value (option_map first_value_of c.args.part)))) s s (Some (first_value_of (Parts list)))) (sym a.is-0)
    (subst (λ p. Reports (checked (unless_wrong None (option_map one_value (option_map first_value_of p)))) s s (Some (first_value_of (Parts list)))) (sym a.is-1)
    (ap Some (list_nodes.parts_says list ∙ ap (λ vs. parts (first_values_of vs)) (c.in_ok-push-in-None-Some.ensures.items ∙ ap (λ vs. vs ++ a.value ∷ []) c.new-list.ensures.items)), refl))
