use Rattle.std.proofs.Common.{◌≡◌, ◌++◌}
use Rattle.op_places.specs.Moves.{units_code}
use Rattle.op_places.proofs.copy.push_units.Given as goal

abbrev pub invariant-loop-n : goal.invariant-loop-n
invariant-loop-n l =
    l.code.items ≡ l.fn.code.items ++ units_code l.words l.n l.from l.to
