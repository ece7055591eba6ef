use Rattle.op_parse_decl.proofs.Refusals.{refuses_told}
use Rattle.op_parse_decl.proofs.file.file.Goals as goal

pub returns-in-Some-clause-refused : goal.returns-in-Some-clause-refused
returns-in-Some-clause-refused c = refuses_told c.in-Some.ensures c.told_at.ensures c.in-Err.ensures.refused

pub returns-in-None-clause-refused : goal.returns-in-None-clause-refused
returns-in-None-clause-refused c = c.or_form_in_code.ensures _ c.in-Err.ensures.refused
