use Rattle.op_parse_decl.specs.Form.{is_asm, is_goto, is_inline, is_with}
use Rattle.op_parse_decl.proofs.DeclaredForms.{told_first}
use Rattle.op_parse_decl.proofs.code_form.form_of_word.Goals as goal

pub returns-in-With : goal.returns-in-With
returns-in-With c = rw (c.in_ok-first.ensures.cases.0, c.in-With.is) (told_first is_with)

pub returns-in-Goto : goal.returns-in-Goto
returns-in-Goto c = rw (c.in_ok-first.ensures.cases.0, c.in-Goto.is) (told_first is_goto)

pub returns-in-Asm : goal.returns-in-Asm
returns-in-Asm c = rw (c.in_ok-first.ensures.cases.0, c.in-Asm.is) (told_first is_asm)

pub returns-in-Inline : goal.returns-in-Inline
returns-in-Inline c = rw (c.in_ok-first.ensures.cases.0, c.in-Inline.is) (told_first is_inline)
