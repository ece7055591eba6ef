use Rattle.op_parse_decl.proofs.form.refused_there.Goals as goal

pub returns-in-Refused : goal.returns-in-Refused
returns-in-Refused c = λ h end. rw c.in-Refused.is (c.stands_at.ensures h end)
