use Rattle.op_parse_decl.specs.Form.{is_operator, is_label, is_asm, is_inline, is_resource_string, is_thread_variable, is_exports}
use Rattle.op_parse_decl.proofs.DeclaredForms.{told_first}
use Rattle.op_parse_decl.proofs.declared_form.form_of_part.Goals as goal

pub returns-in-Operator : goal.returns-in-Operator
returns-in-Operator c = rw (c.in_ok-first.ensures.cases.0, c.in-Operator.is) (told_first is_operator)

pub returns-in-Label : goal.returns-in-Label
returns-in-Label c = rw (c.in_ok-first.ensures.cases.0, c.in-Label.is) (told_first is_label)

pub returns-in-Asm : goal.returns-in-Asm
returns-in-Asm c = rw (c.in_ok-first.ensures.cases.0, c.in-Asm.is) (told_first is_asm)

pub returns-in-Inline : goal.returns-in-Inline
returns-in-Inline c = rw (c.in_ok-first.ensures.cases.0, c.in-Inline.is) (told_first is_inline)

pub returns-in-Resourcestring : goal.returns-in-Resourcestring
returns-in-Resourcestring c = rw (c.in_ok-first.ensures.cases.0, c.in-Resourcestring.is) (told_first is_resource_string)

pub returns-in-Threadvar : goal.returns-in-Threadvar
returns-in-Threadvar c = rw (c.in_ok-first.ensures.cases.0, c.in-Threadvar.is) (told_first is_thread_variable)

pub returns-in-Exports : goal.returns-in-Exports
returns-in-Exports c = rw (c.in_ok-first.ensures.cases.0, c.in-Exports.is) (told_first is_exports)

pub returns-in-Class : goal.returns-in-Class
returns-in-Class c = rw (c.in_ok-first.ensures.cases.0, c.in-Class.is) (c.class_member.ensures _)

pub returns-in_default : goal.returns-in_default
returns-in_default c = rw c.in_ok-first.ensures.cases.0 (c.generic.ensures.first _)
