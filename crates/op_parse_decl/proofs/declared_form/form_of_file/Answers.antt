use Rattle.op_parse_decl.specs.Form.{is_library}
use Rattle.op_parse_decl.proofs.DeclaredForms.{told_first}
use Rattle.op_parse_decl.proofs.declared_form.form_of_file.Goals as goal

pub returns-in-Library : goal.returns-in-Library
returns-in-Library c = rw (c.in_ok-first.ensures.cases.0, c.in-Library.is) (told_first is_library)
