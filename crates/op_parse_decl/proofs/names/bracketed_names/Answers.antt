use Rattle.op_parse_code.proofs.Errors.{passed}
use Rattle.op_parse_decl.proofs.NameLists.{brackets_missing, brackets_too_deep, brackets_names, brackets_open, brackets_whole}
use Rattle.op_parse_decl.proofs.names.bracketed_names.Goals as goal

pub returns-in_err-rest-clause-refused : goal.returns-in_err-rest-clause-refused
returns-in_err-rest-clause-refused c = passed c.from_residual.result c.from_residual.ensures.1 (λ y e. rw e (brackets_missing c.args.setting.left c.args.setting.end _ _ (c.in_err-rest.ensures.refused _)))

pub returns-in_err-enter-clause-refused : goal.returns-in_err-enter-clause-refused
returns-in_err-enter-clause-refused c = passed c.from_residual-in_err-enter.result c.from_residual-in_err-enter.ensures.1 (λ y e. rw e (brackets_too_deep c.args.setting.left c.args.setting.end _ _ _ _ c.in_ok-rest.ensures.mark.1 c.in_err-enter.ensures.refused.0 c.in_err-enter.ensures.refused.1))

pub returns-in_err-names-clause-refused : goal.returns-in_err-names-clause-refused
returns-in_err-names-clause-refused c = passed c.from_residual-in_err-names.result c.from_residual-in_err-names.ensures.1 (λ y e. rw e (brackets_names c.args.setting.left _ c.args.setting.end _ _ _ _ c.in_ok-rest.ensures.mark.1 c.in_ok-enter.ensures.inside (c.in_err-names.ensures.refused _)))

pub returns-in_err-rest-2-clause-refused : goal.returns-in_err-rest-2-clause-refused
returns-in_err-rest-2-clause-refused c = passed c.from_residual-in_err-rest-2.result c.from_residual-in_err-rest-2.ensures.1 (λ y e. rw e (brackets_open c.args.setting.left _ c.args.setting.end _ _ _ _ _ _ c.in_ok-rest.ensures.mark.1 c.in_ok-enter.ensures.inside (c.in_ok-names.ensures.whole 0) (c.in_err-rest-2.ensures.refused _)))

pub returns-clause-whole : goal.returns-clause-whole
returns-clause-whole c = brackets_whole c.args.setting.left _ _ _ _ _ _ _ _ c.in_ok-rest.ensures.mark.1 c.in_ok-enter.ensures.inside (c.in_ok-names.ensures.whole 0) c.in_ok-rest-2.ensures.mark.1
