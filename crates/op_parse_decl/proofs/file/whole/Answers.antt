use Rattle.op_parse_code.proofs.Errors.{passed}
use Rattle.op_parse_decl.proofs.Files.{nothing_left, refuses_whole, something_left}
use Rattle.op_parse_decl.proofs.file.whole.Goals as goal

pub returns-in_err-part-clause-refused : goal.returns-in_err-part-clause-refused
returns-in_err-part-clause-refused g c = passed c.from_residual.result c.from_residual.ensures.1 (λ y e. rw e (refuses_whole c.in_err-part.ensures.refused))

pub returns-in-None-clause-whole : goal.returns-in-None-clause-whole
returns-in-None-clause-whole g c = nothing_left g.A.Part.phrase _ c.in-None.ensures.cases c.in_ok-part.ensures.whole

pub returns-in-Some-clause-refused : goal.returns-in-Some-clause-refused
returns-in-Some-clause-refused g c = something_left g.met.A.Part.known (rw c.in-Some.ensures.cases.0 at c.in_ok-part.ensures.whole) (rw c.in-Some.ensures.cases.0 at c.syntax.ensures)
