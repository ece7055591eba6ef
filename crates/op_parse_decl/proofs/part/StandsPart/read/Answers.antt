use Rattle.op_parse_code.proofs.Errors.{passed}
use Rattle.op_parse_decl.proofs.Combining.{mark_is, mark_refused}
use Rattle.op_parse_decl.proofs.part.StandsPart.read.Goals as goal

pub returns-in_err-rest-clause-refused : goal.returns-in_err-rest-clause-refused
returns-in_err-rest-clause-refused g c = passed c.from_residual.result c.from_residual.ensures.1 (λ y e. rw (e, ← c.sign.ensures) (mark_refused _ _ _ _ _ (c.in_err-rest.ensures.refused _)))

pub returns-clause-whole : goal.returns-clause-whole
returns-clause-whole g c = rw (← c.sign.ensures) (mark_is _ _ _ _ _ c.in_ok-rest.ensures.mark.1)
