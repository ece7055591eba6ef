use Rattle.std.proofs.Common.{ap}
use Rattle.op_parse_code.proofs.Errors.{passed}
use Rattle.op_parse_decl.proofs.Initials.{fits_item, value_too_deep, value_inside_refuses, value_inside_whole}
use Rattle.op_tree.specs.Initial.{initial_of}
use Rattle.op_parse_decl.proofs.initializer.fits.Goals as goal

pub returns-in_err-left-in-Value-clause-refused : goal.returns-in_err-left-in-Value-clause-refused
returns-in_err-left-in-Value-clause-refused c = passed c.from_residual.result c.from_residual.ensures.1 (λ y e. (_, ap initial_of c.in-Value.is, rw e (value_too_deep c.args.setting.left c.args.setting.end _ _ c.in_err-left-in-Value.ensures.refused.0 c.in_err-left-in-Value.ensures.refused.1)))

pub returns-in_err-value-in-Value-clause-refused : goal.returns-in_err-value-in-Value-clause-refused
returns-in_err-value-in-Value-clause-refused c = passed c.from_residual-in_err-value-in-Value.result c.from_residual-in_err-value-in-Value.ensures.1 (λ y e. (_, ap initial_of c.in-Value.is, rw e (value_inside_refuses c.args.setting.left _ c.args.setting.end _ _ c.in_ok-left-in-Value.ensures.inside c.in_err-value-in-Value.ensures.refused)))

pub returns-in_ok-value-in-Value-clause-fits : goal.returns-in_ok-value-in-Value-clause-fits
returns-in_ok-value-in-Value-clause-fits c = fits_item c.args.setting.left _ _ _ _ _ (ap initial_of c.in-Value.is) (value_inside_whole c.args.setting.left _ _ _ _ c.in_ok-left-in-Value.ensures.inside c.in_ok-value-in-Value.ensures.whole.2)
