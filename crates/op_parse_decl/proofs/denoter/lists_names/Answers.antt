use Rattle.std.proofs.Common.{sym, ap, ◌∙◌}
use Rattle.op_parse_decl.proofs.Forms.{lists_none, lists_no_name, lists_no_comma, lists_some}
use Rattle.op_tree.specs.Terminal.{terminals}
use Rattle.op_parse_decl.proofs.denoter.lists_names.Goals as goal

pub returns-in_default : goal.returns-in_default
returns-in_default c = sym (lists_none _ c.in_default.ensures.mark)

pub returns-then-not-is_identifier : goal.returns-then-not-is_identifier
returns-then-not-is_identifier c = sym (lists_no_name _ _ _ _ _ _ c.in-Some.ensures.mark.1 (ap terminals c.in-Some-split_first.ensures.cases.0) (sym c.is_identifier.ensures ∙ c.if-not-is_identifier.true))

pub returns-in-None : goal.returns-in-None
returns-in-None c = sym (lists_no_comma _ _ _ _ _ _ c.in-Some.ensures.mark.1 (ap terminals c.in-Some-split_first.ensures.cases.0) c.in-None.ensures.mark)

pub returns-in-Some-behind_mark : goal.returns-in-Some-behind_mark
returns-in-Some-behind_mark c = sym (lists_some _ _ _ _ _ _ _ _ c.in-Some.ensures.mark.1 (ap terminals c.in-Some-split_first.ensures.cases.0) (sym c.is_identifier.ensures ∙ c.if-not-is_identifier.false) c.in-Some-behind_mark.ensures.mark.1)
