use Rattle.std.proofs.Common.{sym, ◌∙◌}
use Rattle.op_parse_decl.proofs.Initials.{expression_goes_on}
use Rattle.op_parse_decl.proofs.stops.stop_expression.Goals as goal

pub returns-then-continues_expression-clause-refused : goal.returns-then-continues_expression-clause-refused
returns-then-continues_expression-clause-refused c = λ d. rw c.in-Some.ensures.cases.0 (expression_goes_on d c.args.end _ _ _ _ (sym c.continues_expression.ensures ∙ c.if-continues_expression.true) (rw c.in-Some.ensures.cases.0 at c.syntax.ensures))
