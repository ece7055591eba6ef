use Rattle.op_parse_decl.proofs.declared_form.form_of_type.Goals as goal

pub returns : goal.returns
returns c = rw c.in_ok-first.ensures.cases.0 (c.in_ok-feature.ensures.second _)
