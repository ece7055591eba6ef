use Rattle.std.proofs.Common.{sym, ◌∙◌}
use Rattle.op_parse_decl.proofs.Routines.{forward_stands}
use Rattle.op_parse_decl.proofs.routine.behind_forward.Goals as goal

pub returns-then-is_word-clause-word : goal.returns-then-is_word-clause-word
returns-then-is_word-clause-word c = rw c.in_ok-first.ensures.cases.0 (forward_stands _ _ _ (sym c.is_word.ensures ∙ c.if-is_word.true))

pub returns-else-is_word-clause-word : goal.returns-else-is_word-clause-word
returns-else-is_word-clause-word c = rw c.in_ok-first.ensures.cases.0 (sym c.is_word.ensures ∙ c.if-is_word.false)
