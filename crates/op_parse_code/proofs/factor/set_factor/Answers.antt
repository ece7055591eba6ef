use Rattle.std.proofs.Common.{refl}
use Rattle.op_parse_code.specs.Refusal.{made, passed_on}
use Rattle.op_parse_code.proofs.factor.set_factor.Goals as goal

pub returns-in-Ok : goal.returns-in-Ok
returns-in-Ok c = rw c.in-Ok.is (made (c.set_node.ensures, refl))

pub returns-in-Err : goal.returns-in-Err
returns-in-Err c = rw c.in-Err.is (passed_on refl)
