use Rattle.std.proofs.Common.{refl}
use Rattle.op_parse_code.proofs.Errors.{made_none, judged_none}
use Rattle.op_parse_code.specs.Refusal.{made, passed_on, as_made}
use Rattle.op_parse_code.proofs.designator.closed_root.Goals as goal

pub returns-in_err-rest-in-Ok : goal.returns-in_err-rest-in-Ok
returns-in_err-rest-in-Ok c = rw c.in-Ok.is (judged_none _ c.from_residual.result c.from_residual.ensures.1 (λ e is d. rw is (c.in_err-rest-in-Ok.ensures.refused d)))

pub returns-in_err-root-in-Ok : goal.returns-in_err-root-in-Ok
returns-in_err-root-in-Ok c = rw c.in-Ok.is (as_made (made_none _ c.from_residual-in_err-root-in-Ok.result c.from_residual-in_err-root-in-Ok.ensures.1))

pub returns-in_ok-root-in-Ok : goal.returns-in_ok-root-in-Ok
returns-in_ok-root-in-Ok c = rw c.in-Ok.is (as_made (made (c.in_ok-root-in-Ok.ensures, c.in_ok-rest-in-Ok.ensures.mark, c.in_ok-rest-in-Ok.ensures.shorter)))

pub returns-in-Err : goal.returns-in-Err
returns-in-Err c = rw c.in-Err.is (as_made (passed_on refl))
