use Rattle.std.proofs.Common.{sym, ◌∙◌}
use Rattle.op_parse_code.proofs.Errors.{passed}
use Rattle.op_parse_code.proofs.Names.{empty_not}
use Rattle.op_parse_code.specs.Refusal.{out_of_memory}
use Rattle.op_parse_decl.specs.Refusal.{by_grammar}
use Rattle.op_parse_decl.proofs.ClassParts.{literal_refused, literal_whole}
use Rattle.op_parse_decl.specs.Interfaces.{is_literal}
use Rattle.op_parse_decl.proofs.interface.LiteralPart.read.Goals as goal

pub returns-in_default-clause-refused : goal.returns-in_default-clause-refused
returns-in_default-clause-refused c = literal_refused c.args.setting.left c.args.setting.end _ _ (empty_not is_literal c.args.tokens.now c.in_default.ensures.cases) c.syntax.ensures

pub returns-then-not-is_literal-clause-refused : goal.returns-then-not-is_literal-clause-refused
returns-then-not-is_literal-clause-refused c = literal_refused c.args.setting.left c.args.setting.end _ _ (rw c.in-Some.ensures.cases.0 (sym c.is_literal.ensures ∙ c.if-not-is_literal.true)) c.syntax-then-not-is_literal.ensures

pub returns-in_err-text-clause-refused : goal.returns-in_err-text-clause-refused
returns-in_err-text-clause-refused c = passed c.from_residual.result c.from_residual.ensures.1 (λ y e. by_grammar (out_of_memory e))

pub returns-clause-whole : goal.returns-clause-whole
returns-clause-whole c = rw (c.in_ok-text.ensures, c.in-Some.ensures.cases.0) (literal_whole _ c.in-Some.first.now.kind _ _ (sym c.is_literal.ensures ∙ c.if-not-is_literal.false))
