use Rattle.op_parse_code.proofs.Errors.{err_weaker}
use Rattle.op_parse_decl.specs.Refusal.{by_grammar}
use Rattle.op_parse_decl.proofs.leaf.InitializerPart.read.Goals as goal

pub returns-clause-refused : goal.returns-clause-refused
returns-clause-refused c = err_weaker c.initial.result c.initial.ensures.refused (λ e h. by_grammar h)
