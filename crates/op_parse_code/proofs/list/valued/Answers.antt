use Rattle.std.proofs.Common.{refl}
use Rattle.op_parse_code.proofs.list.valued.Goals as goal

pub returns : goal.returns
returns c = (_, c.in_ok-append.ensures, rw c.into_inner.ensures refl)
