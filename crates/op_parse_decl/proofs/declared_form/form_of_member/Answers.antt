use Rattle.std.proofs.Common.{sym, ◌∙◌}
use Rattle.op_parse_decl.proofs.Classes.{resolution_form, strict_form}
use Rattle.op_parse_decl.proofs.declared_form.form_of_member.Goals as goal

pub returns-then-is_word : goal.returns-then-is_word
returns-then-is_word c = rw (c.in_ok-first.ensures.cases.0, c.in_ok-second.ensures.cases.0) (strict_form _ _ _ _ _ (sym c.is_word.ensures ∙ c.if-is_word.true) (sym c.is_identifier.ensures ∙ c.if-not-is_identifier.false))

pub returns : goal.returns
returns c = rw (c.in_ok-first.ensures.cases.0, c.in_ok-second.ensures.cases.0) (resolution_form _ _ _ _ _ _ (sym c.begins_resolution.ensures ∙ c.if-not-begins_resolution.false) (sym c.is_identifier.ensures ∙ c.if-not-is_identifier.false) c.in_ok-form.ensures)
