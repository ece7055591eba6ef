use Rattle.std.proofs.Common.{refl}
use Rattle.op_parse_code.proofs.Errors.{made_none}
use Rattle.op_parse_code.specs.Refusal.{made, passed_on, as_made, refused_itself}
use Rattle.op_parse_code.proofs.list.padded.Goals as goal

pub returns-in_err-append-in-None : goal.returns-in_err-append-in-None
returns-in_err-append-in-None c = rw c.in-Ok.is (as_made (made_none _ c.from_residual.result c.from_residual.ensures.1))

pub returns-in_ok-append-in-None : goal.returns-in_ok-append-in-None
returns-in_ok-append-in-None c = rw c.in-Ok.is (as_made (made ((_, c.in_ok-append-in-None.ensures, refl), c.in-None.ensures.mark, refl)))

pub returns-in-Some : goal.returns-in-Some
returns-in-Some c = rw c.in-Ok.is (refused_itself (c.left_out.ensures, (c.in-Some.ensures.mark.0, _, c.in-Some.ensures.mark.1)))

pub returns-in-Err : goal.returns-in-Err
returns-in-Err c = rw c.in-Err.is (as_made (passed_on refl))
