use Rattle.std.proofs.Common.{◌≡◌, ◌++◌, drop}
use Rattle.op_optimize.specs.Facts.{behind_write}
use Rattle.op_optimize.proofs.fact.behind_write.Given as goal

-- with what is left it is the whole
abbrev pub invariant-loop-fact : goal.invariant-loop-fact
invariant-loop-fact l = l.kept.items ++ behind_write (drop l.fact-index l.facts) l.register ≡ behind_write l.fn.facts l.fn.register
