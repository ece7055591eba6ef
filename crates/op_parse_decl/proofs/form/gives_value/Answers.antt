use Rattle.op_parse_decl.specs.Form.{gives_by_equal, gives_by_assign}
use Rattle.op_parse_decl.proofs.form.gives_value.Goals as goal

pub returns-in-Some : goal.returns-in-Some
returns-in-Some c = λ h. (_, c.in-Some.ensures.mark.0, _, c.in-Some.ensures.mark.1, gives_by_equal)

pub returns-in-Some-behind_mark : goal.returns-in-Some-behind_mark
returns-in-Some-behind_mark c = λ h. (_, c.in-Some-behind_mark.ensures.mark.0, _, c.in-Some-behind_mark.ensures.mark.1, gives_by_assign)
