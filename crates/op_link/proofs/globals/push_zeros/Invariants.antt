use Rattle.std.proofs.Common.{◌≡◌, ◌++◌, replicate}
use Rattle.op_link.proofs.globals.push_zeros.Given as goal

abbrev pub invariant-loop-turn : goal.invariant-loop-turn
invariant-loop-turn l = l.image.items ≡ l.fn.image.items ++ replicate l._turn 0
