use Rattle.op_units.specs.Walk.{walked_of}
use Rattle.op_units.proofs.Reaching.{Open}
use Rattle.op_units.proofs.walk.Walk.closing.Given as goal

abbrev pub invariant-loop-number : goal.invariant-loop-number
invariant-loop-number l = Open (walked_of l.self) l.unit l.interface l.number l.seen
