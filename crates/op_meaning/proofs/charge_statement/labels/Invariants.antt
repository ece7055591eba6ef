use Rattle.std.proofs.Common.{◌≡◌, ◌+◌, ◌≤◌, min, drop}
use Rattle.op_meaning.specs.Charge.{charged, labels_weight, most}
use Rattle.op_meaning.proofs.charge_statement.labels.Given as goal

abbrev pub invariant-loop-each : goal.invariant-loop-each
invariant-loop-each l = record { fits : l.sum ≤ most; gives : min (l.sum + charged (labels_weight (drop l.each-index l.list))) most ≡ charged (labels_weight l.list) }
