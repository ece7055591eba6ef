use Rattle.op_parse_code.proofs.Errors.{passed}
use Rattle.op_parse_decl.proofs.Refusals.{refuses_part}
use Rattle.op_parse_decl.proofs.leaf.NamesPart.read.Goals as goal

pub returns-in_err-names-clause-refused : goal.returns-in_err-names-clause-refused
returns-in_err-names-clause-refused c = passed c.from_residual.result c.from_residual.ensures.1 (λ y e. rw e (refuses_part (c.in_err-names.ensures.refused _)))

pub returns-clause-whole : goal.returns-clause-whole
returns-clause-whole c = c.in_ok-names.ensures.whole c.args.setting.left
