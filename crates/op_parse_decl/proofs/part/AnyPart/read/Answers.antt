use Rattle.op_parse_code.proofs.Errors.{passed}
use Rattle.op_parse_decl.proofs.Combining.{refuses_as}
use Rattle.op_parse_decl.proofs.part.AnyPart.read.Goals as goal

pub returns-in_err-parts-clause-refused : goal.returns-in_err-parts-clause-refused
returns-in_err-parts-clause-refused g c = passed c.from_residual.result c.from_residual.ensures.1 (λ y e. rw e (refuses_as g.met.T.Made.made c.in_err-parts.ensures.refused))
