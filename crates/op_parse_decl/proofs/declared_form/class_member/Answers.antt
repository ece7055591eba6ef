use Rattle.std.proofs.Common.{sym, ◌∙◌}
use Rattle.op_parse_decl.specs.Form.{is_class_operator, is_class_member}
use Rattle.op_parse_decl.proofs.DeclaredForms.{told_first}
use Rattle.op_parse_decl.proofs.declared_form.class_member.Goals as goal

pub returns-in-Operator : goal.returns-in-Operator
returns-in-Operator c = λ p. rw (c.in_ok-second.ensures.cases.0, c.in-Operator.is) (told_first is_class_operator)

pub returns-then-begins_class_member : goal.returns-then-begins_class_member
returns-then-begins_class_member c = λ p. rw c.in_ok-second.ensures.cases.0 (told_first (is_class_member (sym c.begins_class_member.ensures ∙ c.if-begins_class_member.true)))
