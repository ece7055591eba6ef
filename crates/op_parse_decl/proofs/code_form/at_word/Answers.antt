use Rattle.std.proofs.Common.{sym, ap, ◌∙◌}
use Rattle.op_parse_decl.proofs.CodeForms.{at_begins}
use Rattle.op_tree.specs.Terminal.{terminals}
use Rattle.op_parse_decl.proofs.code_form.at_word.Goals as goal

pub returns-then-stands_at : goal.returns-then-stands_at
returns-then-stands_at c = at_begins _ _ _ _ (ap terminals c.in_ok-first.ensures.cases.0) (sym c.is_word.ensures ∙ c.if-not-is_word.false)
