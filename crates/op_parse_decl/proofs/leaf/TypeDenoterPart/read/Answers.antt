use Rattle.op_parse_code.proofs.Errors.{err_weaker}
use Rattle.op_parse_decl.proofs.leaf.TypeDenoterPart.read.Goals as goal

pub returns-clause-refused : goal.returns-clause-refused
returns-clause-refused c = err_weaker c.denoter.result c.denoter.ensures.refused (λ e h. h)
