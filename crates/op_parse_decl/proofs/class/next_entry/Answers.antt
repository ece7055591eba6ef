use Rattle.op_parse_decl.proofs.Refusals.{refuses_told}
use Rattle.op_parse_decl.proofs.class.next_entry.Goals as goal

pub returns-in-Some-form_of_member-clause-refused : goal.returns-in-Some-form_of_member-clause-refused
returns-in-Some-form_of_member-clause-refused c b free = refuses_told c.in-Some-form_of_member.ensures c.told_at.ensures (c.in-Err.ensures.refused b free)
