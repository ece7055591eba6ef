use Rattle.op_parse_code.proofs.Errors.{err_weaker}
use Rattle.op_parse_decl.proofs.Refusals.{flat_name, refuses_part}
use Rattle.op_parse_decl.proofs.leaf.NamePart.read.Goals as goal

pub returns-clause-refused : goal.returns-clause-refused
returns-clause-refused c = err_weaker c.name.result c.name.ensures.refused (λ e h. refuses_part (flat_name (h c.args.setting.left)))
