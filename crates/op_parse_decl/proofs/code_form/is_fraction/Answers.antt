use Rattle.std.proofs.Common.{sym, ap, subst, ◌∙◌}
use Rattle.op_parse_decl.proofs.CodeForms.{fraction_form}
use Rattle.op_parse_decl.specs.Form.{HasForm}
use Rattle.op_tree.proofs.ExpressionUnique.{behind}
use Rattle.op_tree.specs.Terminal.{terminals}
use Rattle.op_parse_decl.proofs.code_form.is_fraction.Goals as goal

pub returns-then-is_number : goal.returns-then-is_number
returns-then-is_number c = λ h t r e. subst (λ z. HasForm 1 (terminals c.args.tokens.now) (terminals c.args.tokens.now) z) (ap behind (sym (ap terminals c.in-Some.ensures.cases.0) ∙ e)) (fraction_form c.in-Some.first.now.kind c.in-Some-split_first.second.now.kind _ _ _ _ _ _ _ (ap terminals c.in-Some.ensures.cases.0) c.in-Some-behind_mark.ensures.mark.1 (ap terminals c.in-Some-split_first.ensures.cases.0) (sym c.is_number.ensures ∙ c.if-is_number.true) (sym c.is_number-then-is_number.ensures ∙ h))
