use Rattle.std.proofs.Common.{◌≡◌, length}
use Rattle.op_tree.specs.Terminal.{terminals}
use Rattle.op_units.specs.Search.{search_in}
use Rattle.op_units.proofs.unbuilt.first_unbuilt.Given as goal

abbrev pub invariant-loop-behind : goal.invariant-loop-behind
invariant-loop-behind l = search_in (terminals l.rest) ≡ search_in (terminals l.fn.tokens)

abbrev pub decreases-loop-behind : goal.decreases-loop-behind
decreases-loop-behind l = length l.rest
