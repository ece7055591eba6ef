use Rattle.std.proofs.Common.{refl}
use Rattle.op_parse_decl.proofs.Headings.{var_mode, const_mode}
use Rattle.op_parse_decl.proofs.parameter.parameter_mode.Goals as goal

pub returns-in-Some-clause-whole : goal.returns-in-Some-clause-whole
returns-in-Some-clause-whole c = var_mode c.in-Some.ensures.mark.1

pub returns-in-Some-behind_mark-clause-whole : goal.returns-in-Some-behind_mark-clause-whole
returns-in-Some-behind_mark-clause-whole c = const_mode c.in-Some-behind_mark.ensures.mark.1

pub returns-in-None-clause-whole : goal.returns-in-None-clause-whole
returns-in-None-clause-whole c = (refl, c.in_default.ensures.mark, c.in_default-behind_mark.ensures.mark, c.in-None.ensures.out)
