use Rattle.std.proofs.Common.{sym, ap, ◌∙◌}
use Rattle.op_parse_code.proofs.Names.{none_left}
use Rattle.op_parse_code.proofs.Statements.{direction_none, direction_missing}
use Rattle.op_tree.specs.Terminal.{terminals}
use Rattle.op_parse_code.proofs.repetition.direction_at.Goals as goal

pub returns-in_default-clause-refused : goal.returns-in_default-clause-refused
returns-in_default-clause-refused c = λ d. rw (none_left c.args.tokens.now c.in_default.ensures.cases) (direction_none d c.args.end _ (rw (none_left c.args.tokens.now c.in_default.ensures.cases) at c.syntax.ensures))

pub returns-in-Some-direction_of-clause-whole : goal.returns-in-Some-direction_of-clause-whole
returns-in-Some-direction_of-clause-whole c = (c.in-Some.first.now.kind, _, ap terminals c.in-Some.ensures.cases.0, sym c.direction_of.ensures ∙ c.in-Some-direction_of.is)

pub returns-in-None-clause-refused : goal.returns-in-None-clause-refused
returns-in-None-clause-refused c = λ d. rw c.in-Some.ensures.cases.0 (direction_missing d c.args.end _ _ _ _ (sym c.direction_of.ensures ∙ c.in-None.is) (rw c.in-Some.ensures.cases.0 at c.syntax-in-None.ensures))
