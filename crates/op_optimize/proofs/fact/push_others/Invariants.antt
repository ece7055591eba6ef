use Rattle.std.proofs.Common.{◌≡◌, ◌++◌, drop}
use Rattle.op_optimize.specs.Contents.{others}
use Rattle.op_optimize.proofs.fact.push_others.Given as goal

-- with what is left it is the whole
abbrev pub invariant-loop-it : goal.invariant-loop-it
invariant-loop-it l = l.kept.items ++ others (drop l.it-index l.known) l.register ≡ l.fn.kept.items ++ others l.fn.known l.fn.register
