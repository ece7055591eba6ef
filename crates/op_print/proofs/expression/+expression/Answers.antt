use Rattle.std.proofs.Common.{refl, arith}
use Rattle.op_print.proofs.Nodes.{said}
use Rattle.op_print.specs.ExpressionDrafts.{expression_draft, selector_draft}
use Rattle.op_tree.proofs.Rows.{chain_says, set_says, literal_says, designated_says, inherited_says, index_says, call_says}
use Rattle.op_tree.specs.Expression.{expr_of, selector_of}
use Rattle.op_print.proofs.expression.+expression.Goals as goal

pub expression-returns-in_ok-operations-in-Chain : goal.expression-returns-in_ok-operations-in-Chain
expression-returns-in_ok-operations-in-Chain t c = grind (arith, said expression_draft expr_of c.in-Chain.is (chain_says c.in-Chain.first c.in-Chain.rest))

pub expression-returns-in_ok-tight-in-Set : goal.expression-returns-in_ok-tight-in-Set
expression-returns-in_ok-tight-in-Set t c = grind (arith, said expression_draft expr_of c.in-Set.is (set_says c.in-Set.position c.in-Set.list))

pub expression-returns-in_ok-selectors-in-Literal : goal.expression-returns-in_ok-selectors-in-Literal
expression-returns-in_ok-selectors-in-Literal t c = grind (arith, said expression_draft expr_of c.in-Literal.is (literal_says c.in-Literal.text c.in-Literal.position c.in-Literal.list))

pub expression-returns-in-Designator : goal.expression-returns-in-Designator
expression-returns-in-Designator t c = grind (arith, said expression_draft expr_of c.in-Designator.is (designated_says c.in-Designator.called))

pub expression-returns-in_ok-designator-in-Inherited : goal.expression-returns-in_ok-designator-in-Inherited
expression-returns-in_ok-designator-in-Inherited t c = simp (c.in_ok-designator-in-Inherited.ensures, c.in_ok-word_at-in-Inherited.ensures, c.deref-in-Inherited.ensures, said expression_draft expr_of c.in-Inherited.is (inherited_says c.in-Inherited.position c.in-Inherited.called)) refl

pub selector-returns-in_ok-tight-in-Index : goal.selector-returns-in_ok-tight-in-Index
selector-returns-in_ok-tight-in-Index t c = grind (arith, said selector_draft selector_of c.in-Index.is (index_says c.in-Index.position c.in-Index.indices))

pub selector-returns-in_ok-tight-in-Call-2 : goal.selector-returns-in_ok-tight-in-Call-2
selector-returns-in_ok-tight-in-Call-2 t c = grind (arith, said selector_draft selector_of c.in-Call.is (call_says c.in-Call.list))
