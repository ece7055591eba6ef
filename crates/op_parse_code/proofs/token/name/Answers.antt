use Rattle.std.proofs.Common.{sym, ◌∙◌}
use Rattle.op_parse_code.proofs.Errors.{passed}
use Rattle.op_parse_code.proofs.Names.{empty_not, named_at, no_name_refuses}
use Rattle.op_parse_code.specs.Opening.{is_identifier}
use Rattle.op_parse_code.specs.Refusal.{out_of_memory}
use Rattle.op_tree.specs.Ends.{IsNot}
use Rattle.op_tree.specs.Terminal.{terminals}
use Rattle.op_parse_code.proofs.token.name.Goals as goal

pub returns-in_default-clause-refused : goal.returns-in_default-clause-refused
returns-in_default-clause-refused c = λ d. no_name_refuses d c.args.end _ _ (empty_not is_identifier c.args.tokens.now c.in_default.ensures.cases) c.syntax.ensures

pub returns-then-not-is_identifier-clause-refused : goal.returns-then-not-is_identifier-clause-refused
returns-then-not-is_identifier-clause-refused c =
    let other : IsNot is_identifier (terminals c.args.tokens.now) = rw c.in-Some.ensures.cases.0 (sym c.is_identifier.ensures ∙ c.if-not-is_identifier.true) in
    λ d. no_name_refuses d c.args.end _ _ other c.syntax-then-not-is_identifier.ensures

pub returns-in_err-text-clause-refused : goal.returns-in_err-text-clause-refused
returns-in_err-text-clause-refused c = passed c.from_residual.result c.from_residual.ensures.1 (λ y e. λ d. out_of_memory e)

pub returns-clause-name : goal.returns-clause-name
returns-clause-name c = rw (c.in_ok-text.ensures, c.position_of-position.ensures, c.in-Some.ensures.cases.0) (named_at c.in-Some.first.now.kind _ _ (sym c.is_identifier.ensures ∙ c.if-not-is_identifier.false))
