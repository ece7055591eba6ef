use Rattle.std.proofs.Common.{◌≡◌, ◌++◌, ◌-◌}
use Rattle.op_types.specs.Sets.{combined, has, is_kept, those_from}
use Rattle.op_types.proofs.set.combined.Given as goal

-- what is left gives the whole
abbrev pub invariant-loop-n : goal.invariant-loop-n
invariant-loop-n l = l.set.items ++ those_from l.n (32 - l.n) (λ n. is_kept l.operator (has l.a n) (has l.b n)) ≡ combined l.operator l.a l.b
