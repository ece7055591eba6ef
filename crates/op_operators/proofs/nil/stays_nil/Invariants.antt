use Rattle.std.proofs.Common.{◌≡◌, drop}
use Rattle.op_core.specs.Nodes.{steps_of}
use Rattle.op_semantics.specs.Expressions.{stays_nil}
use Rattle.op_operators.proofs.nil.stays_nil.Given as goal

abbrev pub invariant-loop-each : goal.invariant-loop-each
invariant-loop-each l = stays_nil (steps_of (drop l.each-index l.steps)) ≡ stays_nil (steps_of l.steps)
