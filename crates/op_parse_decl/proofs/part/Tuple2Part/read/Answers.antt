use Rattle.op_parse_code.proofs.Errors.{passed}
use Rattle.op_parse_decl.proofs.Combining.{first, after}
use Rattle.op_parse_decl.specs.Combined.{then_}
use Rattle.op_parse_decl.proofs.part.Tuple2Part.read.Goals as goal

pub returns-in_err-first-clause-refused : goal.returns-in_err-first-clause-refused
returns-in_err-first-clause-refused g c = passed c.from_residual.result c.from_residual.ensures.1 (λ y e. rw e (first c.in_err-first.ensures.refused))

pub returns-in_err-second-clause-refused : goal.returns-in_err-second-clause-refused
returns-in_err-second-clause-refused g c = passed c.from_residual-in_err-second.result c.from_residual-in_err-second.ensures.1 (λ y e. rw e (after g.met.A.Part.known c.in_ok-first.ensures.whole c.in_err-second.ensures.refused))

pub returns-clause-whole : goal.returns-clause-whole
returns-clause-whole g c = then_ c.in_ok-first.ensures.whole c.in_ok-second.ensures.whole
