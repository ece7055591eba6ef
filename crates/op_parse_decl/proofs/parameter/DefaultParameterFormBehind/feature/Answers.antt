use Rattle.op_parse_decl.proofs.Headings.{default_told}
use Rattle.op_parse_decl.proofs.parameter.DefaultParameterFormBehind.feature.Goals as goal

pub returns-in-Some : goal.returns-in-Some
returns-in-Some c = default_told c.in-Some.ensures.mark.1
