use Rattle.op_parse_code.proofs.Errors.{passed}
use Rattle.op_parse_decl.proofs.Combining.{behind_refused, behind_is}
use Rattle.op_parse_decl.specs.Combined.{no_mark}
use Rattle.op_parse_decl.proofs.part.BehindPart.read.Goals as goal

pub returns-in-None-clause-whole : goal.returns-in-None-clause-whole
returns-in-None-clause-whole g c = rw (← c.sign.ensures) (no_mark c.in-None.ensures.mark)

pub returns-in_err-part-in-Some-clause-refused : goal.returns-in_err-part-in-Some-clause-refused
returns-in_err-part-in-Some-clause-refused g c = passed c.from_residual.result c.from_residual.ensures.1 (λ y e. rw (e, ← c.sign.ensures) (behind_refused _ _ _ _ _ _ _ _ c.in-Some.ensures.mark.1 c.in_err-part-in-Some.ensures.refused))

pub returns-in_ok-part-in-Some-clause-whole : goal.returns-in_ok-part-in-Some-clause-whole
returns-in_ok-part-in-Some-clause-whole g c = rw (← c.sign.ensures) (behind_is _ _ _ _ _ _ _ _ c.in-Some.ensures.mark.1 c.in_ok-part-in-Some.ensures.whole)
