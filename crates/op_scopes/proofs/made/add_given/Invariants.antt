use Rattle.std.proofs.Common.{◌≡◌, ◌++◌, length, map}
use Rattle.op_semantics.specs.Candidates.{made_with_all}
use Rattle.op_values.specs.View.{view_given, view_temporary}
use Rattle.op_scopes.proofs.made.add_given.Given as goal

-- What is left, behind what was made, gives the whole.
abbrev pub invariant-loop-last : goal.invariant-loop-last
invariant-loop-last l = map view_temporary l.made.items ++ made_with_all (map view_given l.rest) ≡ map view_temporary l.fn.made.items ++ made_with_all (map view_given l.fn.given)

abbrev pub decreases-loop-last : goal.decreases-loop-last
decreases-loop-last l = length l.rest
