use Rattle.std.proofs.Common.{Some, refl}
use Rattle.op_parse_code.proofs.Errors.{made_none}
use Rattle.op_parse_code.specs.Refusal.{made, passed_on}
use Rattle.op_parse_code.proofs.designator.indexed.Goals as goal

pub returns-in_err-append-in-Ok : goal.returns-in_err-append-in-Ok
returns-in_err-append-in-Ok c = rw c.in-Ok.is (made_none _ c.from_residual.result c.from_residual.ensures.1)

pub returns-in_ok-append-in-Ok : goal.returns-in_ok-append-in-Ok
returns-in_ok-append-in-Ok c = rw c.in-Ok.is (made {y = Some c.in-Ok.rest} ((_, c.in_ok-append-in-Ok.ensures, c.index_node.ensures), refl))

pub returns-in-Err : goal.returns-in-Err
returns-in-Err c = rw c.in-Err.is (passed_on refl)
