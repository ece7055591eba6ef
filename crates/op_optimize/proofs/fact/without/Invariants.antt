use Rattle.std.proofs.Common.{◌≡◌, ◌++◌, drop}
use Rattle.op_optimize.specs.Facts.{without}
use Rattle.op_optimize.proofs.fact.without.Given as goal

-- with what is left it is the whole
abbrev pub invariant-loop-fact : goal.invariant-loop-fact
invariant-loop-fact l = l.kept.items ++ without (drop l.fact-index l.facts) l.register ≡ without l.fn.facts l.fn.register
