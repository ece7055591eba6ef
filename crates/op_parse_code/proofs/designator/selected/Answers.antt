use Rattle.std.proofs.Common.{refl, ap}
use Rattle.op_parse_code.specs.Refusal.{made, passed_on}
use Rattle.op_tree.specs.Expression.{designator, root_of}
use Rattle.op_tree.specs.Statement.{selectors_of}
use Rattle.op_parse_code.proofs.designator.selected.Goals as goal

pub returns-in-Ok : goal.returns-in-Ok
returns-in-Ok c = rw c.in-Ok.is (made (ap (λ z. designator (root_of c.args.root) (selectors_of z)) c.fitted-selectors.ensures, refl))

pub returns-in-Err : goal.returns-in-Err
returns-in-Err c = rw c.in-Err.is (passed_on refl)
