use Rattle.op_parse_code.proofs.Errors.{passed}
use Rattle.op_parse_code.specs.Refusal.{out_of_memory}
use Rattle.op_parse_code.proofs.designator.member.Goals as goal

pub returns-in_err-append-clause-refused : goal.returns-in_err-append-clause-refused
returns-in_err-append-clause-refused c = passed c.from_residual-in_err-append.result c.from_residual-in_err-append.ensures.1 (λ y e d. out_of_memory e)
