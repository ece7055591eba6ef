use Rattle.std.proofs.Common.{sym, ap, ◌∙◌}
use Rattle.op_parse_decl.proofs.Forms.{given_form}
use Rattle.op_tree.specs.Terminal.{terminals}
use Rattle.op_parse_decl.proofs.form.form_of_bound.Goals as goal

pub returns-then-gives_value : goal.returns-then-gives_value
returns-then-gives_value c = given_form _ _ _ _ _ _ c.in_ok-inside.ensures.mark.1 (ap terminals c.in_ok-first.ensures.cases.0) (sym c.is_identifier.ensures ∙ c.if-not-is_identifier.false) (c.gives_value.ensures c.if-gives_value.true)
