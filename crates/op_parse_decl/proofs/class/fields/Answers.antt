use Rattle.op_parse_code.proofs.Errors.{passed}
use Rattle.op_parse_decl.proofs.Classes.{fields_end, fields_names, fields_whole}
use Rattle.op_parse_decl.proofs.class.fields.Goals as goal

pub returns-in_err-names-clause-refused : goal.returns-in_err-names-clause-refused
returns-in_err-names-clause-refused c = passed c.from_residual.result c.from_residual.ensures.1 (λ y e. rw e (fields_names c.args.setting.left c.args.setting.end _ _ c.requires.name c.requires.no_visibility (c.in_err-names.ensures.refused _)))

pub returns-in_err-denoter-clause-refused : goal.returns-in_err-denoter-clause-refused
returns-in_err-denoter-clause-refused c = passed c.from_residual-in_err-denoter.result c.from_residual-in_err-denoter.ensures.1 (λ y e. rw e (fields_end c.args.setting.left c.args.setting.end _ _ _ _ (c.in_ok-names.ensures.whole c.args.setting.left) c.requires.no_visibility c.in_err-denoter.ensures.refused))

pub returns-clause-whole : goal.returns-clause-whole
returns-clause-whole c = fields_whole c.args.setting.left _ _ _ _ _ (c.in_ok-names.ensures.whole c.args.setting.left) c.in_ok-denoter.ensures.whole
