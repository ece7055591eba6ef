use Rattle.op_parse_code.proofs.Errors.{passed}
use Rattle.op_parse_decl.proofs.Begins.{heading_opens, shows_refused}
use Rattle.op_parse_decl.proofs.heading.HeadingPart.read.Goals as goal

pub returns-in_err-whole-clause-refused : goal.returns-in_err-whole-clause-refused
returns-in_err-whole-clause-refused c = passed c.from_residual.result c.from_residual.ensures.1 (λ y e. rw e (shows_refused heading_opens c.in_err-whole.ensures.refused))
