use Rattle.std.proofs.Common.{◌≡◌, ◌+◌, ◌≤◌, min, drop, map}
use Rattle.op_core.specs.Statement.{built_in_of, item_of, target_of}
use Rattle.op_meaning.specs.Charge.{built_in_weight, charged, items_weight, most, targets_weight}
use Rattle.op_meaning.proofs.charge_statement.built_in.Given as goal

abbrev pub invariant-loop-each : goal.invariant-loop-each
invariant-loop-each l = record { fits : l.sum ≤ most; gives : min (l.sum + charged (items_weight l.core (map item_of (drop l.each-index l.each-items)))) most ≡ charged (built_in_weight l.core (built_in_of l.action)) }

abbrev pub invariant-loop-each-2 : goal.invariant-loop-each-2
invariant-loop-each-2 l = record { fits : l.sum ≤ most; gives : min (l.sum + charged (targets_weight l.core (map target_of (drop l.each-index l.each-items)))) most ≡ charged (built_in_weight l.core (built_in_of l.action)) }
