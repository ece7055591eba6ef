use Rattle.std.proofs.Common.{sym, ◌∙◌}
use Rattle.op_parse_code.proofs.Calls.{front_begins, front_not}
use Rattle.op_parse_code.proofs.Errors.{passed}
use Rattle.op_parse_decl.proofs.Combining.{none_begins, several_refused}
use Rattle.op_parse_decl.proofs.choice.SeveralPart.read.Goals as goal

pub returns-in_err-all-clause-refused : goal.returns-in_err-all-clause-refused
returns-in_err-all-clause-refused g c = passed c.from_residual.result c.from_residual.ensures.1 (λ y e. rw e (several_refused c.in_err-all.ensures.refused))

pub returns-then-begins-clause-whole : goal.returns-then-begins-clause-whole
returns-then-begins-clause-whole g c = (front_begins _ _ (sym c.begins.ensures ∙ c.if-begins.true), c.in_ok-all.ensures.whole)

pub returns-clause-refused : goal.returns-clause-refused
returns-clause-refused g c = none_begins (front_not _ _ (sym c.begins.ensures ∙ c.if-begins.false)) c.syntax.ensures
