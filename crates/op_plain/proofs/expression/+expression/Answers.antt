use Rattle.std.proofs.Common.{ap, arith}
use Rattle.op_core.proofs.Nodes.{list_nodes}
use Rattle.op_core.specs.Expression.{root_of}
use Rattle.op_plain.proofs.Nodes.{says}
use Rattle.op_plain.specs.Plain.{is_plain_expression, is_plain_root, is_short}
use Rattle.op_typing.specs.SimpleTests.{is_short_text}
use Rattle.op_plain.proofs.expression.+expression.Goals as goal

pub is_plain_expression-returns-then-not-is_plain_root :
    goal.is_plain_expression-returns-then-not-is_plain_root
is_plain_expression-returns-then-not-is_plain_root t c = record {
  texts = grind (arith, ap (is_plain_expression is_short_text c.args.core.now) (list_nodes.expr_says c.args.e.now));
  lengths = grind (arith, ap (is_plain_expression is_short c.args.core.now) (list_nodes.expr_says c.args.e.now));
}

pub is_plain_expression-returns-then-not-are_apart :
    goal.is_plain_expression-returns-then-not-are_apart
is_plain_expression-returns-then-not-are_apart t c = record {
  texts = grind (arith, ap (is_plain_expression is_short_text c.args.core.now) (list_nodes.expr_says c.args.e.now));
  lengths = grind (arith, ap (is_plain_expression is_short c.args.core.now) (list_nodes.expr_says c.args.e.now));
}

pub is_plain_expression-loop-each-init : goal.is_plain_expression-loop-each-init
is_plain_expression-loop-each-init t c = record {
  texts = grind (arith, ap (is_plain_expression is_short_text c.args.core.now) (list_nodes.expr_says c.args.e.now));
  lengths = grind (arith, ap (is_plain_expression is_short c.args.core.now) (list_nodes.expr_says c.args.e.now));
}

pub is_plain_root-returns-then-is_solid_type : goal.is_plain_root-returns-then-is_solid_type
is_plain_root-returns-then-is_solid_type t c = record {
  texts = grind (arith, says (λ r. is_plain_root is_short_text c.args.core.now r c.args.of) root_of c.in-Call.is (list_nodes.call_says c.in-Call.routine c.in-Call.arguments));
  lengths = grind (arith, says (λ r. is_plain_root is_short c.args.core.now r c.args.of) root_of c.in-Call.is (list_nodes.call_says c.in-Call.routine c.in-Call.arguments));
}

pub is_plain_root-returns-then-is_solid_type-2 : goal.is_plain_root-returns-then-is_solid_type-2
is_plain_root-returns-then-is_solid_type-2 t c = record {
  texts = grind (arith, says (λ r. is_plain_root is_short_text c.args.core.now r c.args.of) root_of c.in-Set.is (list_nodes.set_says c.in-Set.elements));
  lengths = grind (arith, says (λ r. is_plain_root is_short c.args.core.now r c.args.of) root_of c.in-Set.is (list_nodes.set_says c.in-Set.elements));
}
