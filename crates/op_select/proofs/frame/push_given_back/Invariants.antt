use Rattle.std.proofs.Common.{◌≡◌, ◌++◌}
use Rattle.op_select.specs.Frames.{given_back}
use Rattle.op_select.proofs.frame.push_given_back.Given as goal

abbrev pub invariant-loop-k : goal.invariant-loop-k
invariant-loop-k l = l.items.items ≡ l.fn.items.items ++ given_back l.k
