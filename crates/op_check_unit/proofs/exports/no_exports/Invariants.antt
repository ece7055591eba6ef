use Rattle.std.proofs.Common.{◌≡◌, None, replicate}
use Rattle.op_check_unit.proofs.exports.no_exports.Given as goal

abbrev pub invariant-loop-turn : goal.invariant-loop-turn
invariant-loop-turn l = l.exports ≡ replicate l._turn None
