use Rattle.std.proofs.Common.{◌≡◌, ◌++◌}
use Rattle.op_select.specs.Frames.{taken}
use Rattle.op_select.proofs.frame.push_taken.Given as goal

abbrev pub invariant-loop-k : goal.invariant-loop-k
invariant-loop-k l = l.items.items ≡ l.fn.items.items ++ taken l.routine l.k
