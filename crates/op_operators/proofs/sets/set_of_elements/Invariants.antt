use Rattle.std.proofs.Common.{◌≡◌, nat_eq}
use Rattle.op_meaning.specs.Sets.{bits_below}
use Rattle.std.specs.List.{list_any}
use Rattle.op_operators.proofs.sets.set_of_elements.Given as goal

abbrev pub invariant-loop-k : goal.invariant-loop-k
invariant-loop-k l = l.bits ≡ bits_below l.k (λ n. list_any (λ e. nat_eq e n) l.elements)
