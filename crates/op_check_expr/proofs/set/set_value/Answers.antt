use Rattle.std.proofs.Common.{IfOk, ap, map, sym, subst, ◌∙◌}
use Rattle.std.specs.List.{list_all}
use Rattle.std.specs.Option.{option_map}
use Rattle.op_check_expr.proofs.Sets.{all_mapped}
use Rattle.op_check_expr.specs.Constructors.{are_constants, member_of, set_by}
use Rattle.op_check_expr.specs.Values.{value_of}
use Rattle.op_judgement.specs.Judgement.{Reports}
use Rattle.op_check_expr.proofs.set.set_value.Goals as goal

pub returns : goal.returns
returns c =
    let ms = map member_of c.args.members.items in
    subst (λ b. IfOk c.set_by.result (λ v. Reports (set_by c.args.setting.core.now c.args.wanted ms b) c.args.sink.now c.set_by.new.sink (option_map value_of v)))
    (c.all_constants-constant.ensures ∙ ap (list_all (λ m. are_constants (member_of m))) c.as_slice.ensures.value ∙ sym (all_mapped are_constants member_of c.args.members.items)) c.set_by.ensures
