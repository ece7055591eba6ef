use Rattle.op_parse_code.proofs.Errors.{passed}
use Rattle.op_parse_decl.proofs.Combining.{ahead_refused, has_mark, not_ahead_refused}
use Rattle.op_parse_decl.specs.Combined.{is_ahead, not_ahead}
use Rattle.op_parse_decl.proofs.choice.AheadPart.read.Goals as goal

pub returns-in_err-part-in-Some-clause-refused : goal.returns-in_err-part-in-Some-clause-refused
returns-in_err-part-in-Some-clause-refused g c = passed c.from_residual.result c.from_residual.ensures.1 (λ y e. rw (e, ← c.sign.ensures) (ahead_refused (has_mark c.in-Some.ensures.mark.1) c.in_err-part-in-Some.ensures.refused))

pub returns-in_ok-part-in-Some-clause-whole : goal.returns-in_ok-part-in-Some-clause-whole
returns-in_ok-part-in-Some-clause-whole g c = rw (← c.sign.ensures) (is_ahead (has_mark c.in-Some.ensures.mark.1) c.in_ok-part-in-Some.ensures.whole)

pub returns-in_err-part-in-None-clause-refused : goal.returns-in_err-part-in-None-clause-refused
returns-in_err-part-in-None-clause-refused g c = passed c.from_residual-in_err-part-in-None.result c.from_residual-in_err-part-in-None.ensures.1 (λ y e. rw (e, ← c.sign.ensures) (not_ahead_refused c.in-None.ensures.mark c.in_err-part-in-None.ensures.refused))

pub returns-in_ok-part-in-None-clause-whole : goal.returns-in_ok-part-in-None-clause-whole
returns-in_ok-part-in-None-clause-whole g c = rw (← c.sign.ensures) (not_ahead c.in-None.ensures.mark c.in_ok-part-in-None.ensures.whole)
