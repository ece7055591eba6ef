use Rattle.op_parse_code.proofs.Errors.{passed}
use Rattle.op_parse_decl.proofs.Begins.{part_opens, shows_refused}
use Rattle.op_parse_decl.proofs.parameter.ParametersPart.read.Goals as goal

pub returns-in_err-part-clause-refused : goal.returns-in_err-part-clause-refused
returns-in_err-part-clause-refused c = passed c.from_residual.result c.from_residual.ensures.1 (λ y e. rw e (shows_refused part_opens c.in_err-part.ensures.refused))
