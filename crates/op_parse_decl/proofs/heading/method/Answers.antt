use Rattle.op_parse_code.proofs.Errors.{passed}
use Rattle.op_parse_decl.proofs.Methods.{method_heading, method_directives, method_whole}
use Rattle.op_parse_decl.proofs.heading.method.Goals as goal

pub returns-in_err-heading-clause-refused : goal.returns-in_err-heading-clause-refused
returns-in_err-heading-clause-refused c = passed c.from_residual.result c.from_residual.ensures.1 (λ y e. rw e (method_heading c.args.setting.left c.args.setting.end _ _ c.in_err-heading.ensures.refused))

pub returns-in_err-directives-clause-refused : goal.returns-in_err-directives-clause-refused
returns-in_err-directives-clause-refused c = passed c.from_residual-in_err-directives.result c.from_residual-in_err-directives.ensures.1 (λ y e. rw e (method_directives c.args.setting.left c.args.setting.end _ _ _ _ c.in_ok-heading.ensures.whole (c.in_err-directives.ensures.refused _)))

pub returns-clause-whole : goal.returns-clause-whole
returns-clause-whole c = method_whole c.args.setting.left _ _ _ _ _ c.in_ok-heading.ensures.whole (c.in_ok-directives.ensures.whole 0)
