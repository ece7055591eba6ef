use Rattle.op_parse_code.proofs.Errors.{passed}
use Rattle.op_parse_decl.proofs.Headings.{moded_colon, moded_names, moded_whole}
use Rattle.op_parse_decl.proofs.parameter.ModedPart.read.Goals as goal

pub returns-in_err-names-clause-refused : goal.returns-in_err-names-clause-refused
returns-in_err-names-clause-refused c = passed c.from_residual.result c.from_residual.ensures.1 (λ y e. rw e (moded_names _ c.args.setting.left c.args.setting.end _ _ _ c.parameter_mode-mode.ensures.whole (c.in_err-names.ensures.refused _)))

pub returns-in_err-rest-clause-refused : goal.returns-in_err-rest-clause-refused
returns-in_err-rest-clause-refused c = passed c.from_residual-in_err-rest.result c.from_residual-in_err-rest.ensures.1 (λ y e. rw e (moded_colon _ c.args.setting.left c.args.setting.end _ _ _ _ _ c.parameter_mode-mode.ensures.whole (c.in_ok-names.ensures.whole 0) (c.in_err-rest.ensures.refused _)))

pub returns-clause-whole : goal.returns-clause-whole
returns-clause-whole c = moded_whole _ {d = c.args.setting.left} c.parameter_mode-mode.ensures.whole (c.in_ok-names.ensures.whole 0) c.in_ok-rest.ensures.mark.1
