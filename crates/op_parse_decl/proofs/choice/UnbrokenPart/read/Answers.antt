use Rattle.op_parse_code.proofs.Errors.{passed}
use Rattle.op_parse_decl.proofs.Refusals.{refuses_told}
use Rattle.op_parse_decl.proofs.Combining.{first, after}
use Rattle.op_parse_decl.specs.Combined.{then_}
use Rattle.op_parse_decl.proofs.choice.UnbrokenPart.read.Goals as goal

pub returns-in_err-front-clause-refused : goal.returns-in_err-front-clause-refused
returns-in_err-front-clause-refused g c = passed c.from_residual.result c.from_residual.ensures.1 (λ y e. rw e (first c.in_err-front.ensures.refused))

pub returns-in-Some-clause-refused : goal.returns-in-Some-clause-refused
returns-in-Some-clause-refused g c = refuses_told (c.in-Some.ensures _ _ _ c.in_ok-front.ensures.whole) c.told_at.ensures (after g.met.F.Front.Part.known c.in_ok-front.ensures.whole c.in-Err.ensures.refused)

pub returns-clause-refused : goal.returns-clause-refused
returns-clause-refused g c = after g.met.F.Front.Part.known c.in_ok-front.ensures.whole c.in-Err.ensures.refused

pub returns-in-Ok-clause-whole : goal.returns-in-Ok-clause-whole
returns-in-Ok-clause-whole g c = then_ c.in_ok-front.ensures.whole c.in-Ok.ensures.whole
