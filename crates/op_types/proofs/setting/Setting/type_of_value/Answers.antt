use Rattle.std.proofs.Common.{◌≡◌, IfOk, sym, ap, subst, ◌∙◌}
use Rattle.op_tree.proofs.Rows.{designated_says}
use Rattle.op_tree.specs.Expression.{expr_of}
use Rattle.op_types.specs.ConstantParts.{type_of_value}
use Rattle.op_types.proofs.setting.Setting.type_of_value.Goals as goal

pub returns-in-Designator : goal.returns-in-Designator
returns-in-Designator c =
    subst (λ e. IfOk c.type_of_name.result (λ t. t ≡ type_of_value c.args.self.visible.now e)) (sym (ap expr_of c.in-Designator.is ∙ designated_says c.in-Designator.called)) c.type_of_name.ensures
