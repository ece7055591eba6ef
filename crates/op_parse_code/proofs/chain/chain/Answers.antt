use Rattle.op_parse_code.proofs.Errors.{passed}
use Rattle.op_parse_code.proofs.chain.chain.Goals as goal

pub returns-in_err-rest-clause-refused : goal.returns-in_err-rest-clause-refused
returns-in_err-rest-clause-refused c = passed c.from_residual.result c.from_residual.ensures.1 (λ y e. rw e c.in_err-rest.ensures.refused)

pub returns-clause-whole : goal.returns-clause-whole
returns-clause-whole c = c.in_ok-rest.ensures.whole
