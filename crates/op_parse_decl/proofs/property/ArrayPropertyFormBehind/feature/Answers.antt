use Rattle.op_parse_decl.proofs.ClassParts.{array_property}
use Rattle.op_parse_decl.proofs.property.ArrayPropertyFormBehind.feature.Goals as goal

pub returns-in-Some : goal.returns-in-Some
returns-in-Some c = array_property c.in-Some.ensures.mark.1
