use Rattle.std.proofs.Common.{◌≡◌, ◌++◌, ◌-◌}
use Rattle.op_types.specs.Sets.{between, is_between, those_from}
use Rattle.op_types.proofs.set.between.Given as goal

-- what is left gives the whole
abbrev pub invariant-loop-n : goal.invariant-loop-n
invariant-loop-n l = l.set.items ++ those_from l.n (32 - l.n) (is_between l.low l.high) ≡ between l.low l.high
