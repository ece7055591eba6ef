use Rattle.std.proofs.Common.{◌≡◌, drop}
use Rattle.op_print.specs.ExpressionDrafts.{argument_drafts, element_drafts, expression_drafts, operations_draft, selectors_draft}
use Rattle.op_print.specs.Page.{after, behind, separated}
use Rattle.op_scan.specs.declared.token.TokenKind.TheVariants as kind
use Rattle.op_tree.specs.Lists.{arguments_of, expressions_of, operations_of}
use Rattle.op_tree.specs.Statement.{elements_of, selectors_of}
use Rattle.op_print.proofs.expression.+expression.Given as goal

-- In each loop what is left gives the whole.
abbrev pub invariant-arguments-loop-each : goal.invariant-arguments-loop-each
invariant-arguments-loop-each l = after l.page (behind kind.Comma (argument_drafts (arguments_of (drop l.each-index l.others)))) ≡ after l.fn.page (separated kind.Comma (argument_drafts (arguments_of l.list)))

abbrev pub invariant-elements-loop-each : goal.invariant-elements-loop-each
invariant-elements-loop-each l = after l.page (behind kind.Comma (element_drafts (elements_of (drop l.each-index l.others)))) ≡ after l.fn.page (separated kind.Comma (element_drafts (elements_of l.list)))

abbrev pub invariant-expressions-loop-each : goal.invariant-expressions-loop-each
invariant-expressions-loop-each l = after l.page (behind kind.Comma (expression_drafts (expressions_of (drop l.each-index l.others)))) ≡ after l.fn.page (separated kind.Comma (expression_drafts (expressions_of l.list)))

abbrev pub invariant-operations-loop-each : goal.invariant-operations-loop-each
invariant-operations-loop-each l = after l.page (operations_draft (operations_of (drop l.each-index l.list))) ≡ after l.fn.page (operations_draft (operations_of l.list))

abbrev pub invariant-selectors-loop-each : goal.invariant-selectors-loop-each
invariant-selectors-loop-each l = after l.page (selectors_draft (selectors_of (drop l.each-index l.list))) ≡ after l.fn.page (selectors_draft (selectors_of l.list))
