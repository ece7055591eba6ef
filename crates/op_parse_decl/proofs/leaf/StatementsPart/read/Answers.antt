use Rattle.op_parse_code.proofs.Errors.{passed}
use Rattle.op_parse_decl.proofs.Refusals.{refuses_part}
use Rattle.op_parse_decl.proofs.leaf.StatementsPart.read.Goals as goal

pub returns-in_err-items-clause-refused : goal.returns-in_err-items-clause-refused
returns-in_err-items-clause-refused c = passed c.from_residual.result c.from_residual.ensures.1 (λ y e. rw e (refuses_part c.in_err-items.ensures.refused))
