use Rattle.std.proofs.Common.{sym, ap, ◌∙◌}
use Rattle.op_parse_decl.proofs.DeclaredForms.{generic_form, generic_name_form}
use Rattle.op_tree.specs.Terminal.{terminals}
use Rattle.op_parse_decl.proofs.declared_form.generic.Goals as goal

pub returns-then-begins_generic-clause-first : goal.returns-then-begins_generic-clause-first
returns-then-begins_generic-clause-first c = λ p. rw c.in_ok-second.ensures.cases.0 (generic_form _ _ _ _ _ (sym c.is_word.ensures ∙ c.if-not-is_word.false) (sym c.begins_generic.ensures ∙ c.if-begins_generic.true))

pub returns-then-begins_generic-clause-second : goal.returns-then-begins_generic-clause-second
returns-then-begins_generic-clause-second c = λ p. generic_name_form _ _ _ _ _ _ (ap terminals c.in_ok-second.ensures.cases.0) (sym c.is_word.ensures ∙ c.if-not-is_word.false) (sym c.begins_generic.ensures ∙ c.if-begins_generic.true)
