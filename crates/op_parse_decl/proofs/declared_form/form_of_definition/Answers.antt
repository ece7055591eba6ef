use Rattle.std.proofs.Common.{[], refl}
use Rattle.op_parse_decl.specs.Form.{is_metaclass}
use Rattle.op_parse_decl.proofs.declared_form.form_of_definition.Goals as goal

pub returns-in-Some : goal.returns-in-Some
returns-in-Some c = rw (c.in_ok-rest.ensures.mark.1, c.in-Some.ensures.mark.1) ([], _, refl, is_metaclass)
