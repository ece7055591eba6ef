use Rattle.std.proofs.Common.{◌≡◌, ◌+◌, ◌≤◌, min, drop}
use Rattle.op_core.specs.Expression.{argument_of, expr_of, root_of}
use Rattle.op_core.specs.Nodes.{arguments_of, elements_of, expressions_of, steps_of}
use Rattle.op_meaning.specs.Charge.{argument_weight, arguments_weight, charged, elements_weight, expression_weight, expressions_weight, most, root_weight, steps_weight}
use Rattle.op_meaning.proofs.charge_expression.+expression.Given as goal

-- In each loop what is left gives the whole.
abbrev pub invariant-expression-loop-each : goal.invariant-expression-loop-each
invariant-expression-loop-each l = record { fits : l.sum ≤ most; gives : min (l.sum + charged (steps_weight l.core (steps_of (drop l.each-index l.each-items)))) most ≡ charged (expression_weight l.core (expr_of l.e)) }

abbrev pub invariant-root-loop-each : goal.invariant-root-loop-each
invariant-root-loop-each l = record { fits : l.sum ≤ most; gives : min (l.sum + charged (elements_weight l.core (elements_of (drop l.each-index l.each-items)))) most ≡ charged (root_weight l.core l.fn.of (root_of l.root)) }

abbrev pub invariant-arguments-loop-each : goal.invariant-arguments-loop-each
invariant-arguments-loop-each l = record { fits : l.sum ≤ most; gives : min (l.sum + charged (arguments_weight l.core (arguments_of (drop l.each-index l.list)))) most ≡ charged (arguments_weight l.core (arguments_of l.list)) }

abbrev pub invariant-argument-loop-each : goal.invariant-argument-loop-each
invariant-argument-loop-each l = record { fits : l.sum ≤ most; gives : min (l.sum + charged (expressions_weight l.core (expressions_of (drop l.each-index l.each-items)))) most ≡ charged (argument_weight l.core (argument_of l.argument)) }
