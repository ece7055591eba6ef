use Rattle.std.proofs.Common.{◌≡◌, ◌+◌, ◌≤◌, min, drop}
use Rattle.op_core.specs.Nodes.{branches_of, handlers_of}
use Rattle.op_core.specs.Statement.{stmts_of}
use Rattle.op_meaning.specs.Charge.{branches_weight, charged, handlers_weight, most, statements_weight}
use Rattle.op_meaning.proofs.charge_statement.+statement.Given as goal

-- In each loop what is left gives the whole.
abbrev pub invariant-statements-loop-each : goal.invariant-statements-loop-each
invariant-statements-loop-each l = record { fits : l.sum ≤ most; gives : min (l.sum + charged (statements_weight l.core (stmts_of (drop l.each-index l.list)))) most ≡ charged (statements_weight l.core (stmts_of l.list)) }

abbrev pub invariant-branches-loop-each : goal.invariant-branches-loop-each
invariant-branches-loop-each l = record { fits : l.sum ≤ most; gives : min (l.sum + charged (branches_weight l.core (branches_of (drop l.each-index l.list)))) most ≡ charged (branches_weight l.core (branches_of l.list)) }

abbrev pub invariant-handlers-loop-each : goal.invariant-handlers-loop-each
invariant-handlers-loop-each l = record { fits : l.sum ≤ most; gives : min (l.sum + charged (handlers_weight l.core (handlers_of (drop l.each-index l.list)))) most ≡ charged (handlers_weight l.core (handlers_of l.list)) }
