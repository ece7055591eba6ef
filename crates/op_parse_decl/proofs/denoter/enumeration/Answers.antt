use Rattle.op_parse_code.proofs.Errors.{passed}
use Rattle.op_parse_decl.proofs.Enumerations.{enumeration_too_deep, enumeration_names, enumeration_form, enumeration_open, enumeration_goes_on, enumeration_whole}
use Rattle.op_parse_decl.proofs.denoter.enumeration.Goals as goal

pub returns-in_err-enter-clause-refused : goal.returns-in_err-enter-clause-refused
returns-in_err-enter-clause-refused c = passed c.from_residual.result c.from_residual.ensures.1 (λ y e. rw e (enumeration_too_deep c.args.setting.left c.args.setting.end _ _ c.requires c.in_err-enter.ensures.refused.0 c.in_err-enter.ensures.refused.1))

pub returns-in_err-values-clause-refused : goal.returns-in_err-values-clause-refused
returns-in_err-values-clause-refused c = passed c.from_residual-in_err-values.result c.from_residual-in_err-values.ensures.1 (λ y e. rw (e, c.in-Some.ensures.cases.0) (enumeration_names c.args.setting.left c.args.setting.end _ _ _ _ (rw c.in-Some.ensures.cases.0 at c.requires) (c.in_err-values.ensures.refused _)))

pub returns-then-gives_value-clause-refused : goal.returns-then-gives_value-clause-refused
returns-then-gives_value-clause-refused c = rw c.in-Some.ensures.cases.0 (enumeration_form c.args.setting.left c.args.setting.end _ _ _ _ _ _ (rw c.in-Some.ensures.cases.0 at c.requires) (c.in_ok-values.ensures.whole 0) (c.gives_value.ensures c.if-gives_value.true) c.left_out.ensures)

pub returns-in_err-rest-clause-refused : goal.returns-in_err-rest-clause-refused
returns-in_err-rest-clause-refused c = passed c.from_residual-in_err-rest.result c.from_residual-in_err-rest.ensures.1 (λ y e. rw (e, c.in-Some.ensures.cases.0) (enumeration_open c.args.setting.left c.args.setting.end _ _ _ _ _ _ (rw c.in-Some.ensures.cases.0 at c.requires) (c.in_ok-values.ensures.whole 0) (c.in_err-rest.ensures.refused _)))

pub returns-in_err-stop_type-clause-refused : goal.returns-in_err-stop_type-clause-refused
returns-in_err-stop_type-clause-refused c = passed c.from_residual-in_err-stop_type.result c.from_residual-in_err-stop_type.ensures.1 (λ y e. rw (e, c.in-Some.ensures.cases.0) (enumeration_goes_on c.args.setting.left c.args.setting.end _ _ _ _ _ _ _ _ (rw c.in-Some.ensures.cases.0 at c.requires) (c.in_ok-values.ensures.whole 0) c.in_ok-rest.ensures.mark.1 (c.in_err-stop_type.ensures.refused _)))

pub returns-clause-whole : goal.returns-clause-whole
returns-clause-whole c = rw (c.position_of-position.ensures, c.in-Some.ensures.cases.0) (enumeration_whole c.args.setting.left _ _ _ _ _ _ _ _ (rw c.in-Some.ensures.cases.0 at c.requires) c.in_ok-enter.ensures.inside (c.in_ok-values.ensures.whole 0) c.in_ok-rest.ensures.mark.1 c.in_ok-stop_type.ensures.stops)
