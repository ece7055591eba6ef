use Rattle.std.proofs.Common.{arith, ap}
use Rattle.op_core.proofs.Nodes.{list_nodes}
use Rattle.op_core.specs.Expression.{action_of, argument_of, root_of}
use Rattle.op_meaning.specs.Charge.{action_weight, argument_weight, charged, expression_weight, root_weight}
use Rattle.op_meaning.proofs.Charged.{begins, count-expressions, fits_as, says}
use Rattle.op_meaning.proofs.charge_expression.+expression.Goals as goal

pub expression-loop-each-init : goal.expression-loop-each-init
expression-loop-each-init t c = record {
  fits = fits_as _ c.root-sum.ensures;
  gives = grind (arith, ap (λ e. charged (expression_weight c.args.core.now e)) (list_nodes.expr_says c.args.e.now));
}

pub root-returns-in-Call : goal.root-returns-in-Call
root-returns-in-Call t c = grind (arith, says (λ r. charged (root_weight c.args.core.now c.args.of r)) root_of c.in-Call.is (list_nodes.call_says c.in-Call.routine c.in-Call.given))

pub root-returns-in-Construct : goal.root-returns-in-Construct
root-returns-in-Construct t c = grind (arith, says (λ r. charged (root_weight c.args.core.now c.args.of r)) root_of c.in-Construct.is (list_nodes.construct_says c.in-Construct.class c.in-Construct.constructor c.in-Construct.given))

pub root-loop-each-init : goal.root-loop-each-init
root-loop-each-init t c = record {
  fits = fits_as _ c.valued-sum.ensures;
  gives = grind (arith, says (λ r. charged (root_weight c.args.core.now c.args.of r)) root_of c.in-Set.is (list_nodes.set_says c.in-Set.elements));
}

pub action-returns-in-Call : goal.action-returns-in-Call
action-returns-in-Call t c = grind (arith, says (λ a. charged (action_weight c.args.core.now c.args.of a)) action_of c.in-Call.is (list_nodes.method_says c.in-Call.method c.in-Call.dispatch c.in-Call.given))

pub arguments-loop-each-init : goal.arguments-loop-each-init
arguments-loop-each-init t c = record { fits = omega arith; gives = begins _ }

pub argument-loop-each-init : goal.argument-loop-each-init
argument-loop-each-init t c = record {
  fits = fits_as _ c.listed-sum.ensures;
  gives = grind (arith, says (λ a. charged (argument_weight c.args.core.now a)) argument_of c.in-Elements.is (list_nodes.listed_says c.in-Elements.of c.in-Elements.values), count-expressions c.in-Elements.values.items);
}
