use Rattle.std.proofs.Common.{sym, ◌∙◌}
use Rattle.op_parse_code.proofs.Calls.{front_begins, front_not, raise_refuses, raise_whole, reraise_whole}
use Rattle.op_parse_code.proofs.Errors.{passed}
use Rattle.op_tree.specs.Ends.{begins_expression}
use Rattle.op_parse_code.proofs.call.raise.Goals as goal

pub returns-then-not-begins_expression-clause-whole : goal.returns-then-not-begins_expression-clause-whole
returns-then-not-begins_expression-clause-whole c = reraise_whole c.args.position c.args.left _ (front_not begins_expression _ (sym c.begins_expression.ensures ∙ c.if-not-begins_expression.true))

pub returns-in_err-exception-clause-refused : goal.returns-in_err-exception-clause-refused
returns-in_err-exception-clause-refused c = passed c.from_residual.result c.from_residual.ensures.1 (λ y e. rw e (raise_refuses c.args.position c.args.left c.args.end _ _ _ c.requires (front_begins begins_expression _ (sym c.begins_expression.ensures ∙ c.if-not-begins_expression.false)) c.in_err-exception.ensures.refused))

pub returns-clause-whole : goal.returns-clause-whole
returns-clause-whole c = raise_whole c.args.position c.args.left _ _ _ c.in_ok-exception.ensures.whole
