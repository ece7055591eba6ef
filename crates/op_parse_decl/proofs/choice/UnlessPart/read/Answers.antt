use Rattle.op_parse_decl.proofs.Refusals.{refuses_told}
use Rattle.op_parse_decl.proofs.choice.UnlessPart.read.Goals as goal

pub returns-in-Some-clause-refused : goal.returns-in-Some-clause-refused
returns-in-Some-clause-refused g c = refuses_told c.in-Some.ensures c.told_at.ensures c.in-Err.ensures.refused
