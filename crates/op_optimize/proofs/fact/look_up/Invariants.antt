use Rattle.std.proofs.Common.{◌≡◌, drop}
use Rattle.op_optimize.specs.Facts.{look_up}
use Rattle.op_optimize.proofs.fact.look_up.Given as goal

-- what is left tells it
abbrev pub invariant-loop-fact : goal.invariant-loop-fact
invariant-loop-fact l = look_up (drop l.fact-index l.facts) l.register ≡ look_up l.fn.facts l.fn.register
