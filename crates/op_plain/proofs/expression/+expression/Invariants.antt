use Rattle.std.proofs.Common.{◌≡◌, drop}
use Rattle.op_core.specs.Expression.{expr_of}
use Rattle.op_core.specs.Nodes.{arguments_of, elements_of, steps_of}
use Rattle.op_plain.specs.Plain.{are_plain_arguments, are_plain_elements, are_plain_steps, is_plain_expression, is_short}
use Rattle.op_typing.specs.SimpleTests.{is_short_text}
use Rattle.op_plain.proofs.expression.+expression.Given as goal

-- In each loop what is left gives the whole.
abbrev pub invariant-is_plain_expression-loop-each : goal.invariant-is_plain_expression-loop-each
invariant-is_plain_expression-loop-each l = record {
  texts : are_plain_steps is_short_text l.core l.text (steps_of (drop l.each-index l.each-items)) ≡ is_plain_expression is_short_text l.core (expr_of l.e);
  lengths : are_plain_steps is_short l.core l.text (steps_of (drop l.each-index l.each-items)) ≡ is_plain_expression is_short l.core (expr_of l.e);
}

abbrev pub invariant-are_plain_elements-loop-each : goal.invariant-are_plain_elements-loop-each
invariant-are_plain_elements-loop-each l = record {
  texts : are_plain_elements is_short_text l.core (elements_of (drop l.each-index l.list)) ≡ are_plain_elements is_short_text l.core (elements_of l.list);
  lengths : are_plain_elements is_short l.core (elements_of (drop l.each-index l.list)) ≡ are_plain_elements is_short l.core (elements_of l.list);
}

abbrev pub invariant-are_plain_arguments-loop-each : goal.invariant-are_plain_arguments-loop-each
invariant-are_plain_arguments-loop-each l = record {
  texts : are_plain_arguments is_short_text l.core (arguments_of (drop l.each-index l.list)) ≡ are_plain_arguments is_short_text l.core (arguments_of l.list);
  lengths : are_plain_arguments is_short l.core (arguments_of (drop l.each-index l.list)) ≡ are_plain_arguments is_short l.core (arguments_of l.list);
}
