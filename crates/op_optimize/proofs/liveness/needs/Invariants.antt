use Rattle.std.proofs.Common.{◌≡◌, drop}
use Rattle.op_optimize.specs.Liveness.{needs}
use Rattle.op_optimize.proofs.liveness.needs.Given as goal

-- what is left tells it
abbrev pub invariant-loop-instruction : goal.invariant-loop-instruction
invariant-loop-instruction l = needs l.live (drop l.instruction-index l.code) l.register ≡ needs l.fn.live l.fn.code l.fn.register
