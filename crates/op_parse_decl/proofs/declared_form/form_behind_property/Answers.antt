use Rattle.std.proofs.Common.{sym, ◌∙◌}
use Rattle.op_parse_decl.proofs.Classes.{default_form}
use Rattle.op_parse_decl.proofs.declared_form.form_behind_property.Goals as goal

pub returns : goal.returns
returns c = rw c.in_ok-first.ensures.cases.0 (default_form _ _ _ _ _ (sym c.is_word.ensures ∙ c.if-not-is_word.false) c.in_ok-behind_mark.ensures.mark.1)
