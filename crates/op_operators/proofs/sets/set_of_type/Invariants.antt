use Rattle.std.proofs.Common.{◌≡◌, pos}
use Rattle.op_semantics.specs.Expressions.{high_in, low_in}
use Rattle.op_meaning.specs.Numbers.{between}
use Rattle.op_meaning.specs.Sets.{bits_below}
use Rattle.op_operators.proofs.sets.set_of_type.Given as goal

abbrev pub invariant-loop-k : goal.invariant-loop-k
invariant-loop-k l = l.bits ≡ bits_below l.k (λ n. between (low_in l.core l.fn.of) (high_in l.core l.fn.of) (pos n))
