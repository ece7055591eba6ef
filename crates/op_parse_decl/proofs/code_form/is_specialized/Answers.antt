use Rattle.std.proofs.Common.{codes, sym, ap, refl, subst, ◌∙◌}
use Rattle.op_parse_decl.proofs.CodeForms.{specialized_form}
use Rattle.op_parse_decl.specs.Form.{HasForm}
use Rattle.op_tree.proofs.ExpressionUnique.{behind}
use Rattle.op_tree.specs.Terminal.{terminals}
use Rattle.op_parse_decl.proofs.code_form.is_specialized.Goals as goal

pub returns-then-is_word : goal.returns-then-is_word
returns-then-is_word c = λ h t r e. subst (λ z. HasForm 29 (terminals c.args.tokens.now) (terminals c.args.tokens.now) z) (ap behind (sym (ap terminals c.in-Some.ensures.cases.0) ∙ e)) (specialized_form c.in-Some.first.now.kind c.in-Some-split_first.second.now.kind _ _ _ _ _ (codes "specialize") (ap terminals c.in-Some.ensures.cases.0) (ap terminals c.in-Some-split_first.ensures.cases.0) (sym c.is_word.ensures ∙ c.if-is_word.true) refl (sym c.is_identifier.ensures ∙ h))
