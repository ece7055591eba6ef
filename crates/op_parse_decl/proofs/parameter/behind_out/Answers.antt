use Rattle.std.proofs.Common.{sym, ◌∙◌}
use Rattle.op_parse_decl.proofs.Headings.{no_word_no_out, no_name_no_out, out_mode}
use Rattle.op_parse_decl.proofs.parameter.behind_out.Goals as goal

pub returns-then-not-is_word-clause-out : goal.returns-then-not-is_word-clause-out
returns-then-not-is_word-clause-out c = rw c.in_ok-first.ensures.cases.0 (no_word_no_out (sym c.is_word.ensures ∙ c.if-not-is_word.true))

pub returns-then-not-is_identifier-clause-out : goal.returns-then-not-is_identifier-clause-out
returns-then-not-is_identifier-clause-out c = rw (c.in_ok-first.ensures.cases.0, c.in_ok-second.ensures.cases.0) (no_name_no_out (sym c.is_identifier.ensures ∙ c.if-not-is_identifier.true))

pub returns-clause-out : goal.returns-clause-out
returns-clause-out c = rw (c.in_ok-first.ensures.cases.0, c.in_ok-second.ensures.cases.0) (out_mode (sym c.is_word.ensures ∙ c.if-not-is_word.false) (sym c.is_identifier.ensures ∙ c.if-not-is_identifier.false))
