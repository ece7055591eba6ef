use Rattle.std.proofs.Common.{sym, ap, ◌∙◌}
use Rattle.op_parse_decl.proofs.Forms.{procedural_pair}
use Rattle.op_tree.specs.Terminal.{terminals}
use Rattle.op_parse_decl.proofs.form.is_procedural.Goals as goal

pub returns-else-is_identifier : goal.returns-else-is_identifier
returns-else-is_identifier c = λ h. procedural_pair _ _ _ _ _ _ (ap terminals c.in-Some.ensures.cases.0) (ap terminals c.in-Some-split_first.ensures.cases.0) (sym c.is_identifier.ensures ∙ c.if-is_identifier.false)
