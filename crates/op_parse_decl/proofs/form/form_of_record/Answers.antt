use Rattle.std.proofs.Common.{ap}
use Rattle.op_parse_decl.proofs.Forms.{variant_form, method_form}
use Rattle.op_tree.specs.HeadingGrammar.{routine_kind_of}
use Rattle.op_parse_decl.proofs.form.form_of_record.Goals as goal

pub returns-in-Case : goal.returns-in-Case
returns-in-Case c = rw c.in_ok-first.ensures.cases.0 (variant_form _ _ _ c.in-Case.is)

pub returns-in-Procedure : goal.returns-in-Procedure
returns-in-Procedure c = rw c.in_ok-first.ensures.cases.0 (method_form _ _ _ _ (ap routine_kind_of c.in-Procedure.is))

pub returns-in-Function : goal.returns-in-Function
returns-in-Function c = rw c.in_ok-first.ensures.cases.0 (method_form _ _ _ _ (ap routine_kind_of c.in-Function.is))

pub returns-in-Constructor : goal.returns-in-Constructor
returns-in-Constructor c = rw c.in_ok-first.ensures.cases.0 (method_form _ _ _ _ (ap routine_kind_of c.in-Constructor.is))

pub returns-in-Destructor : goal.returns-in-Destructor
returns-in-Destructor c = rw c.in_ok-first.ensures.cases.0 (method_form _ _ _ _ (ap routine_kind_of c.in-Destructor.is))
