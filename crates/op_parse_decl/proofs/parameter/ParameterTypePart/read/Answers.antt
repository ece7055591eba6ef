use Rattle.std.proofs.Common.{sym, ◌∙◌}
use Rattle.op_parse_code.proofs.Errors.{passed}
use Rattle.op_parse_code.proofs.Names.{empty_not}
use Rattle.op_parse_decl.proofs.Headings.{type_refused, string_kind, string_refused, string_whole, named_refused}
use Rattle.op_tree.specs.Ends.{begins_designator}
use Rattle.op_tree.specs.HeadingGrammar.{is_named}
use Rattle.op_parse_decl.proofs.parameter.ParameterTypePart.read.Goals as goal

pub returns-in_default-clause-refused : goal.returns-in_default-clause-refused
returns-in_default-clause-refused c = type_refused c.args.setting.left c.args.setting.end _ _ (empty_not begins_designator c.args.tokens.now c.in_default.ensures.cases) c.syntax.ensures

pub returns-in_err-no_dot-clause-refused : goal.returns-in_err-no_dot-clause-refused
returns-in_err-no_dot-clause-refused c = passed c.from_residual.result c.from_residual.ensures.1 (λ y e. rw (e, c.in-Some.ensures.cases.0) (string_refused c.args.setting.left c.args.setting.end _ _ _ _ (string_kind _ (sym c.is_string.ensures ∙ c.if-is_string.true)) (c.in_err-no_dot.ensures.refused _)))

pub returns-then-is_string-clause-whole : goal.returns-then-is_string-clause-whole
returns-then-is_string-clause-whole c = rw (c.position_of-position.ensures, c.in-Some.ensures.cases.0) (string_whole c.args.setting.left (string_kind _ (sym c.is_string.ensures ∙ c.if-is_string.true)) c.in_ok-no_dot.ensures.stops)

pub returns-in_err-name-clause-refused : goal.returns-in_err-name-clause-refused
returns-in_err-name-clause-refused c = passed c.from_residual-in_err-name.result c.from_residual-in_err-name.ensures.1 (λ y e. rw e (named_refused c.args.setting.left c.args.setting.end _ _ (rw c.in-Some.ensures.cases.0 (sym c.is_string.ensures ∙ c.if-is_string.false)) (c.in_err-name.ensures.refused _)))

pub returns-clause-whole : goal.returns-clause-whole
returns-clause-whole c = let f = c.in_ok-name.ensures.whole 0 in (is_named f.0, f.1)
