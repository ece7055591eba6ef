use Rattle.op_parse_code.proofs.Errors.{passed}
use Rattle.op_parse_code.specs.Refusal.{out_of_memory}
use Rattle.op_parse_code.proofs.chain.boxed_expression.Goals as goal

pub returns-in_err-expression-clause-refused : goal.returns-in_err-expression-clause-refused
returns-in_err-expression-clause-refused c = passed c.from_residual.result c.from_residual.ensures.1 (λ y e. rw e c.in_err-expression.ensures.refused)

pub returns-in_err-boxed-clause-refused : goal.returns-in_err-boxed-clause-refused
returns-in_err-boxed-clause-refused c = passed c.from_residual-in_err-boxed.result c.from_residual-in_err-boxed.ensures.1 (λ y e. out_of_memory e)

pub returns-clause-whole : goal.returns-clause-whole
returns-clause-whole c = rw c.in_ok-boxed.ensures.ok c.in_ok-expression.ensures.whole
