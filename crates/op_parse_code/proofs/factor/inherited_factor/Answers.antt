use Rattle.std.proofs.Common.{refl}
use Rattle.op_parse_code.proofs.Errors.{made_none}
use Rattle.op_parse_code.specs.Refusal.{made, passed_on}
use Rattle.op_parse_code.proofs.factor.inherited_factor.Goals as goal

pub returns-in_err-factor-in-Ok : goal.returns-in_err-factor-in-Ok
returns-in_err-factor-in-Ok c = rw c.in-Ok.is (made_none _ c.from_residual.result c.from_residual.ensures.1)

pub returns-in_ok-factor-in-Ok : goal.returns-in_ok-factor-in-Ok
returns-in_ok-factor-in-Ok c = rw c.in-Ok.is (made (c.in_ok-factor-in-Ok.ensures, refl))

pub returns-in-Err : goal.returns-in-Err
returns-in-Err c = rw c.in-Err.is (passed_on refl)
