use Rattle.op_parse_code.proofs.Errors.{passed}
use Rattle.op_parse_decl.proofs.leaf.BracketedNamesPart.read.Goals as goal

pub returns-in_err-names-clause-refused : goal.returns-in_err-names-clause-refused
returns-in_err-names-clause-refused c = passed c.from_residual.result c.from_residual.ensures.1 (λ y e. rw e c.in_err-names.ensures.refused)
