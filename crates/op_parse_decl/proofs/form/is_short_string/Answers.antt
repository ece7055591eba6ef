use Rattle.op_parse_decl.proofs.Forms.{short_string_form}
use Rattle.op_parse_decl.proofs.form.is_short_string.Goals as goal

pub returns-in-Some-behind_mark : goal.returns-in-Some-behind_mark
returns-in-Some-behind_mark c = λ h. rw c.in-Some.ensures.cases.0 (short_string_form _ _ _ _ _ c.in-String.is c.in-Some-behind_mark.ensures.mark.1)
