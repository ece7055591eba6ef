use Rattle.op_parse_decl.proofs.CodeForms.{raise_at_form}
use Rattle.op_parse_decl.proofs.code_form.raise_at.Goals as goal

pub returns : goal.returns
returns c = rw c.in_ok-first.ensures.cases.0 (raise_at_form c.args.setting.left _ _ _ _ _ _ c.in-Raise.is c.in-Ok.ensures.whole c.in_ok-found.ensures)
