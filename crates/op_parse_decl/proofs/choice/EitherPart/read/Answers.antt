use Rattle.std.proofs.Common.{sym, ◌∙◌}
use Rattle.op_parse_code.proofs.Calls.{front_begins, front_not}
use Rattle.op_parse_code.proofs.Errors.{passed}
use Rattle.op_parse_decl.proofs.Combining.{chosen_refused, otherwise_refused}
use Rattle.op_parse_decl.specs.Combined.{chosen, otherwise}
use Rattle.op_parse_decl.proofs.choice.EitherPart.read.Goals as goal

pub returns-in_err-part-clause-refused : goal.returns-in_err-part-clause-refused
returns-in_err-part-clause-refused g c = passed c.from_residual.result c.from_residual.ensures.1 (λ y e. rw e (chosen_refused (front_begins _ _ (sym c.begins.ensures ∙ c.if-begins.true)) c.in_err-part.ensures.refused))

pub returns-then-begins-clause-whole : goal.returns-then-begins-clause-whole
returns-then-begins-clause-whole g c = chosen (front_begins _ _ (sym c.begins.ensures ∙ c.if-begins.true)) c.in_ok-part.ensures.whole

pub returns-in_err-part-2-clause-refused : goal.returns-in_err-part-2-clause-refused
returns-in_err-part-2-clause-refused g c = passed c.from_residual-in_err-part-2.result c.from_residual-in_err-part-2.ensures.1 (λ y e. rw e (otherwise_refused (front_not _ _ (sym c.begins.ensures ∙ c.if-begins.false)) c.in_err-part-2.ensures.refused))

pub returns-clause-whole : goal.returns-clause-whole
returns-clause-whole g c = otherwise (front_not _ _ (sym c.begins.ensures ∙ c.if-begins.false)) c.in_ok-part-2.ensures.whole
