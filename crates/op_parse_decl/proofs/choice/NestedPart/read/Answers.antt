use Rattle.op_parse_code.proofs.Errors.{passed}
use Rattle.op_parse_decl.proofs.Combining.{too_deep, deeper_refused, deeper_whole}
use Rattle.op_parse_decl.proofs.choice.NestedPart.read.Goals as goal

pub returns-in_err-left-clause-refused : goal.returns-in_err-left-clause-refused
returns-in_err-left-clause-refused g c = passed c.from_residual.result c.from_residual.ensures.1 (λ y e. rw e (too_deep c.in_err-left.ensures.refused.0 c.in_err-left.ensures.refused.1))

pub returns-in_err-part-clause-refused : goal.returns-in_err-part-clause-refused
returns-in_err-part-clause-refused g c = passed c.from_residual-in_err-part.result c.from_residual-in_err-part.ensures.1 (λ y e. rw e (deeper_refused c.in_ok-left.ensures.inside c.in_err-part.ensures.refused))

pub returns-clause-whole : goal.returns-clause-whole
returns-clause-whole g c = deeper_whole c.in_ok-left.ensures.inside c.in_ok-part.ensures.whole
