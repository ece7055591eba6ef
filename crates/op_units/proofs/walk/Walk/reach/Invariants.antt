use Rattle.op_units.proofs.Reaching.{Reaching}
use Rattle.op_units.proofs.walk.Walk.reach.Given as goal

abbrev pub invariant-loop-number : goal.invariant-loop-number
invariant-loop-number l = Reaching l.self.units l.self.interfaces l.fn.seen l.start l.seen l.number
