-- The proofs of what holds of the source machine.
use Rattle.std.proofs.Common.{ap}
use Rattle.op_semantics.specs.Facts.{StaysEnded}
use Rattle.op_semantics.specs.Machine.{step, step_by}

pub stays_ended : StaysEnded
unfolding step step_by
stays_ended p s status e = ap (λ ending. step_by p ending s) e
