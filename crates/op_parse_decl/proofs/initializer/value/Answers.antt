use Rattle.std.proofs.Common.{refl}
use Rattle.op_parse_code.proofs.Errors.{passed}
use Rattle.op_parse_decl.proofs.Initials.{value_chain, value_goes_on}
use Rattle.op_parse_decl.proofs.initializer.value.Goals as goal

pub returns-in_err-value-clause-refused : goal.returns-in_err-value-clause-refused
returns-in_err-value-clause-refused c = passed c.from_residual.result c.from_residual.ensures.1 (λ y e. rw e (value_chain c.args.setting.left c.args.setting.end _ _ c.in_err-value.ensures.refused))

pub returns-in_err-stop_expression-clause-refused : goal.returns-in_err-stop_expression-clause-refused
returns-in_err-stop_expression-clause-refused c = passed c.from_residual-in_err-stop_expression.result c.from_residual-in_err-stop_expression.ensures.1 (λ y e. rw e (value_goes_on c.args.setting.left c.args.setting.end _ _ _ _ c.in_ok-value.ensures.whole (c.in_err-stop_expression.ensures.refused _)))

pub returns-clause-whole : goal.returns-clause-whole
returns-clause-whole c = (_, refl, (c.in_ok-value.ensures.whole.0, c.in_ok-stop_expression.ensures.stops))
