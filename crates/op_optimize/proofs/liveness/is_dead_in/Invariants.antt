use Rattle.std.proofs.Common.{◌≡◌, drop}
use Rattle.op_optimize.specs.Liveness.{shows_dead}
use Rattle.op_optimize.proofs.liveness.is_dead_in.Given as goal

-- what is left tells it
abbrev pub invariant-loop-instruction : goal.invariant-loop-instruction
invariant-loop-instruction l = shows_dead l.live (drop l.instruction-index l.code) l.register ≡ shows_dead l.fn.live l.fn.code l.fn.register
