use Rattle.op_parse_decl.proofs.Refusals.{refuses_told}
use Rattle.op_parse_decl.proofs.code_form.or_form_in_code.Goals as goal

pub returns-in-Some : goal.returns-in-Some
returns-in-Some c = λ d h. refuses_told c.in-Some.ensures c.told_at.ensures h
