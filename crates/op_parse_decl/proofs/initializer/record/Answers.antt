use Rattle.std.proofs.Common.{refl, sym}
use Rattle.op_parse_code.proofs.Errors.{made_none}
use Rattle.op_parse_code.specs.Refusal.{made, passed_on}
use Rattle.op_parse_decl.proofs.initializer.record.Goals as goal

pub returns-in_err-record-in-Ok : goal.returns-in_err-record-in-Ok
returns-in_err-record-in-Ok c = rw c.in-Ok.is (made_none _ _ c.from_residual.ensures.1)

pub returns-in_ok-record-in-Ok : goal.returns-in_ok-record-in-Ok
returns-in_ok-record-in-Ok c = rw (c.in-Ok.is, sym c.replace-value.ensures.value) (made (c.in_ok-record-in-Ok.ensures, refl))

pub returns-in-Err : goal.returns-in-Err
returns-in-Err c = rw c.in-Err.is (passed_on refl)
