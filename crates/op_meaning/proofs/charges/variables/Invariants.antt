use Rattle.std.proofs.Common.{◌≡◌, ◌+◌, ◌≤◌, min, drop}
use Rattle.op_meaning.specs.Charge.{charged, most, variables_weight}
use Rattle.op_meaning.proofs.charges.variables.Given as goal

abbrev pub invariant-loop-each : goal.invariant-loop-each
invariant-loop-each l = record { fits : l.sum ≤ most; gives : min (l.sum + charged (variables_weight l.core (drop l.each-index l.list))) most ≡ charged (variables_weight l.core l.list) }
