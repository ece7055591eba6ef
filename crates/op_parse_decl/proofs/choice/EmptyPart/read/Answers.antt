use Rattle.op_parse_decl.specs.Combined.{nothing}
use Rattle.op_parse_decl.proofs.choice.EmptyPart.read.Goals as goal

pub returns-clause-whole : goal.returns-clause-whole
returns-clause-whole c = nothing
