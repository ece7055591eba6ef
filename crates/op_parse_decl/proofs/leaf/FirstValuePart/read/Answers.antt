use Rattle.op_parse_code.proofs.Errors.{passed}
use Rattle.op_parse_code.specs.Refusal.{out_of_memory}
use Rattle.op_parse_decl.specs.Refusal.{by_grammar}
use Rattle.op_parse_decl.proofs.leaf.FirstValuePart.read.Goals as goal

pub returns-in_err-value-clause-refused : goal.returns-in_err-value-clause-refused
returns-in_err-value-clause-refused c = passed c.from_residual-in_err-value.result c.from_residual-in_err-value.ensures.1 (λ y e. by_grammar (out_of_memory e))

pub returns-in_err-first-clause-refused : goal.returns-in_err-first-clause-refused
returns-in_err-first-clause-refused c = passed c.from_residual.result c.from_residual.ensures.1 (λ y e. rw e (by_grammar c.in_err-first.ensures.refused))
