use Rattle.op_parse_decl.specs.FileParts.{unit_of_list}
use Rattle.op_parse_decl.proofs.file.UnitMade.of.Goals as goal

pub returns : goal.returns
returns c = λ d ks r x. unit_of_list _ x
