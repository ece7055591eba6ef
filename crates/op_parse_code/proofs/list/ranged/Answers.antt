use Rattle.std.proofs.Common.{refl, sym}
use Rattle.op_parse_code.proofs.Errors.{made_none}
use Rattle.op_parse_code.specs.Refusal.{made, passed_on}
use Rattle.op_parse_code.proofs.list.ranged.Goals as goal

pub returns-in_err-range-in-Ok : goal.returns-in_err-range-in-Ok
returns-in_err-range-in-Ok c = rw c.in-Ok.is (made_none _ c.from_residual.result c.from_residual.ensures.1)

pub returns-in_err-append-in-Ok : goal.returns-in_err-append-in-Ok
returns-in_err-append-in-Ok c = rw c.in-Ok.is (made_none _ c.from_residual-in_err-append-in-Ok.result c.from_residual-in_err-append-in-Ok.ensures.1)

pub returns-in_ok-append-in-Ok : goal.returns-in_ok-append-in-Ok
returns-in_ok-append-in-Ok c = rw c.in-Ok.is (made ((_, c.in_ok-append-in-Ok.ensures, rw (sym c.replace-taken.ensures.value) c.in_ok-range-in-Ok.ensures), refl))

pub returns-in-Err : goal.returns-in-Err
returns-in-Err c = rw c.in-Err.is (passed_on refl)
