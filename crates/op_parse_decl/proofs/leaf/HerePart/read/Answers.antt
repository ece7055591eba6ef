use Rattle.std.proofs.Common.{sym}
use Rattle.op_parse_decl.proofs.Leaves.{here_none}
use Rattle.op_parse_decl.specs.Declarations.{stands_here}
use Rattle.op_parse_decl.proofs.leaf.HerePart.read.Goals as goal

pub returns-in_default-clause-refused : goal.returns-in_default-clause-refused
returns-in_default-clause-refused c = here_none _ c.in_default.ensures.cases c.syntax.ensures

pub returns-clause-whole : goal.returns-clause-whole
returns-clause-whole c = rw c.in-Some.ensures.cases.0 (stands_here (sym c.position_of-position.ensures))
