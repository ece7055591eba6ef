use Rattle.op_parse_decl.proofs.Headings.{array_of_const}
use Rattle.op_parse_decl.proofs.parameter.ArrayOfConstForm.feature.Goals as goal

pub returns-in-Some : goal.returns-in-Some
returns-in-Some c = array_of_const c.in_ok-rest.ensures.mark.1 c.in_ok-rest-2.ensures.mark.1 c.in-Some.ensures.mark.1
