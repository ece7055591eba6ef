use Rattle.std.proofs.Common.{is_some, sym, ap, ◌∙◌}
use Rattle.op_parse_code.proofs.Errors.{passed}
use Rattle.op_parse_code.proofs.Names.{empty_not}
use Rattle.op_parse_decl.proofs.Leaves.{directive_none, directive_open, directive_whole}
use Rattle.op_parse_decl.specs.Declarations.{is_directive}
use Rattle.op_parse_decl.proofs.leaf.DirectivePart.read.Goals as goal

pub returns-in_default-clause-refused : goal.returns-in_default-clause-refused
returns-in_default-clause-refused c = directive_none (empty_not is_directive _ c.in_default.ensures.cases) c.syntax.ensures

pub returns-in_default-directive_at-clause-refused : goal.returns-in_default-directive_at-clause-refused
returns-in_default-directive_at-clause-refused c = directive_none (rw c.in-Some.ensures.cases.0 (ap is_some (sym c.directive_at.ensures ∙ c.in_default-directive_at.is))) c.syntax-in_default-directive_at.ensures

pub returns-in_err-rest-clause-refused : goal.returns-in_err-rest-clause-refused
returns-in_err-rest-clause-refused c = passed c.from_residual.result c.from_residual.ensures.1 (λ y e. rw (e, c.in-Some.ensures.cases.0) (directive_open (c.in_err-rest.ensures.refused _)))

pub returns-clause-whole : goal.returns-clause-whole
returns-clause-whole c = rw c.in-Some.ensures.cases.0 (directive_whole _ (sym c.directive_at.ensures ∙ c.in-Some-directive_at.is) c.in_ok-rest.ensures.mark.1)
