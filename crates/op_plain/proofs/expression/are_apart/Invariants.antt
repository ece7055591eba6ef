use Rattle.std.proofs.Common.{◌≡◌, false, drop}
use Rattle.op_core.specs.Nodes.{steps_of}
use Rattle.op_plain.specs.Plain.{are_apart}
use Rattle.op_plain.proofs.expression.are_apart.Given as goal

abbrev pub invariant-loop-each : goal.invariant-loop-each
invariant-loop-each l = record { gives : are_apart l.implied (steps_of (drop l.each-index l.steps)) ≡ are_apart false (steps_of l.steps) }
