use Rattle.std.proofs.Common.{sym, ◌∙◌}
use Rattle.op_parse_decl.proofs.Forms.{type_goes_on}
use Rattle.op_parse_decl.proofs.stops.stop_type.Goals as goal

pub returns-then-continues_type-clause-refused : goal.returns-then-continues_type-clause-refused
returns-then-continues_type-clause-refused c = λ d. rw c.in-Some.ensures.cases.0 (type_goes_on d c.args.end _ _ _ _ (sym c.continues_type.ensures ∙ c.if-continues_type.true) (rw c.in-Some.ensures.cases.0 at c.syntax.ensures))
