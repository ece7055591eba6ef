use Rattle.op_parse_code.proofs.Chains.{slash_refuses}
use Rattle.op_parse_code.proofs.Errors.{passed}
use Rattle.op_parse_code.specs.Refusal.{out_of_memory}
use Rattle.op_parse_code.proofs.chain.begin_operation.Goals as goal

pub returns-then-is_slash-clause-refused : goal.returns-then-is_slash-clause-refused
returns-then-is_slash-clause-refused c = λ d. slash_refuses c.args.level d c.args.end _ _ _ _ _ c.in-Some.ensures.stands (c.is_slash.ensures c.if-is_slash.true) c.left_out.ensures

pub returns-in_err-append-clause-refused : goal.returns-in_err-append-clause-refused
returns-in_err-append-clause-refused c = passed c.from_residual.result c.from_residual.ensures.1 (λ y e d. out_of_memory e)

pub returns-clause-stands : goal.returns-clause-stands
returns-clause-stands c = (_, c.in_ok-append.ensures, c.in-Some.ensures.stands)
