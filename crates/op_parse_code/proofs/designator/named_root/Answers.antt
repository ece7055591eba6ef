use Rattle.op_parse_code.proofs.Designators.{root_name}
use Rattle.op_parse_code.proofs.Errors.{passed}
use Rattle.op_parse_code.proofs.designator.named_root.Goals as goal

pub returns-in_err-name-clause-refused : goal.returns-in_err-name-clause-refused
returns-in_err-name-clause-refused c = passed c.from_residual.result c.from_residual.ensures.1 (λ y e d. rw e (c.in_err-name.ensures.refused d))

pub returns-clause-whole : goal.returns-clause-whole
returns-clause-whole c = λ d. root_name d _ _ _ c.in_ok-name.ensures.name
