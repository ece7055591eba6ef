use Rattle.op_parse_decl.proofs.Denoters.{type_told}
use Rattle.op_parse_decl.proofs.denoter.or_form.Goals as goal

pub returns-in-Some : goal.returns-in-Some
returns-in-Some c = λ d h. type_told c.in-Some.ensures c.told.ensures h
