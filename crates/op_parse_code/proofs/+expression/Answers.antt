use Rattle.std.proofs.Common.{refl, arith}
use Rattle.op_parse_code.proofs.Chains.{chain_operand, chain_operations, chain_whole, relational_operand, additive_operand, multiplicative_operand, relational_refuses, additive_refuses, multiplicative_refuses, operating_more, operating_refuses, operating_ends}
use Rattle.op_parse_code.proofs.Designators.{designator_whole, designator_root, designator_selectors, root_none, root_misses_name, root_string, bracket_too_deep, bracket_expression, bracket_open, root_bracket, selecting_more, selecting_ends, member_refuses, selector_member, index_too_deep, call_too_deep, index_refuses, selector_index, call_refuses, selector_call}
use Rattle.op_parse_code.proofs.Errors.{passed, ok_weaker, err_weaker, made_ok, made_err, made_as, both_ok, judged_ok, judged_err, made_none, judged_on}
use Rattle.op_parse_code.proofs.ExpressionLists.{element_first, element_last, element_range, argument_value, argument_width, argument_padded, argument_digits, set_inside, set_empty, call_inside, call_empty, arguments_list, elements_list, indices_list}
use Rattle.op_parse_code.proofs.Grown.{chosen, grown_as, grown_written, extended_more, extended_ends, extended_none}
use Rattle.op_parse_code.proofs.Lists.{listed_item, listed_close, listed_more, listed_ends}
use Rattle.op_parse_code.proofs.Factors.{factor_none, factor_number, factor_nil, set_too_deep, set_refuses, factor_set, literal_refuses, factor_literal, inherited_refuses, factor_inherited, prefix_refuses, prefix_too_deep, factor_prefix, designated_refuses, factor_designated}
use Rattle.op_parse_code.proofs.Names.{empty_not}
use Rattle.op_parse_code.specs.Refusal.{out_of_memory, made, passed_on, as_made}
use Rattle.op_parse_code.specs.Opening.{StandsOperator}
use Rattle.op_parse_code.specs.Whole.{Operand, closes_set, some_inside, arguments_inside}
use Rattle.op_tree.specs.Ends.{begins_designator, begins_expression}
use Rattle.op_tree.specs.Expression.{expr_of}
use Rattle.op_tree.specs.Terminal.{terminals}
use Rattle.op_parse_code.proofs.+expression.Goals as goal

-- ---- chains

pub chain::read_chain-returns-in_err-behind-clause-refused : goal.chain::read_chain-returns-in_err-behind-clause-refused
chain::read_chain-returns-in_err-behind-clause-refused t c = passed c.from_residual.result c.from_residual.ensures.1 (λ y e. rw e (chain_operand c.args.level c.args.left c.args.end _ _ c.in_err-behind.ensures.refused))

pub chain::read_chain-returns-clause-whole : goal.chain::read_chain-returns-clause-whole
chain::read_chain-returns-clause-whole t c = made_ok c.read_operations.result c.extend.result c.extend.ensures c.read_operations.ensures.whole (λ behind rest h made. rw (made.0, made.1) (chain_whole c.args.level c.args.left _ _ _ _ _ c.in_ok-behind.ensures.whole (extended_none c.new-operations.ensures.items h)))

pub chain::read_chain-returns-clause-refused : goal.chain::read_chain-returns-clause-refused
chain::read_chain-returns-clause-refused t c = made_err c.read_operations.result c.extend.result c.extend.ensures c.read_operations.ensures.refused (λ e h. out_of_memory h) (λ e h. chain_operations c.args.level c.args.left c.args.end _ _ _ _ c.in_ok-behind.ensures.whole h)

pub chain::read_chain-returns-clause-shorter : goal.chain::read_chain-returns-clause-shorter
chain::read_chain-returns-clause-shorter t c = made_ok c.read_operations.result c.extend.result c.extend.ensures c.read_operations.ensures.shorter (λ behind rest h made. rw made.1 (omega (arith, h, c.in_ok-behind.ensures.shorter)))

pub chain::read_operand-returns-in-Relational-clause-whole : goal.chain::read_operand-returns-in-Relational-clause-whole
chain::read_operand-returns-in-Relational-clause-whole t c = rw c.in-Relational.is (ok_weaker c.read_chain.result c.read_chain.ensures.whole (λ f h. relational_operand _ _ _ _ h))

pub chain::read_operand-returns-in-Relational-clause-refused : goal.chain::read_operand-returns-in-Relational-clause-refused
chain::read_operand-returns-in-Relational-clause-refused t c = rw c.in-Relational.is (err_weaker c.read_chain.result c.read_chain.ensures.refused (λ e h. relational_refuses _ _ _ _ h))

pub chain::read_operand-returns-in-Additive-clause-whole : goal.chain::read_operand-returns-in-Additive-clause-whole
chain::read_operand-returns-in-Additive-clause-whole t c = rw c.in-Additive.is (ok_weaker c.read_chain-in-Additive.result c.read_chain-in-Additive.ensures.whole (λ f h. additive_operand _ _ _ _ h))

pub chain::read_operand-returns-in-Additive-clause-refused : goal.chain::read_operand-returns-in-Additive-clause-refused
chain::read_operand-returns-in-Additive-clause-refused t c = rw c.in-Additive.is (err_weaker c.read_chain-in-Additive.result c.read_chain-in-Additive.ensures.refused (λ e h. additive_refuses _ _ _ _ h))

pub chain::read_operand-returns-in-Multiplicative-clause-whole : goal.chain::read_operand-returns-in-Multiplicative-clause-whole
chain::read_operand-returns-in-Multiplicative-clause-whole t c = rw c.in-Multiplicative.is (ok_weaker c.read_factor.result c.read_factor.ensures.whole (λ f h. multiplicative_operand _ _ _ _ h))

pub chain::read_operand-returns-in-Multiplicative-clause-refused : goal.chain::read_operand-returns-in-Multiplicative-clause-refused
chain::read_operand-returns-in-Multiplicative-clause-refused t c = rw c.in-Multiplicative.is (err_weaker c.read_factor.result c.read_factor.ensures.refused (λ e h. multiplicative_refuses _ _ _ _ h))

pub chain::read_factor-returns-clause-refused : goal.chain::read_factor-returns-clause-refused
chain::read_factor-returns-clause-refused t c = made_err c.factor.result c.put.result c.put.ensures c.factor.ensures.refused (λ e h. out_of_memory h) (λ e h. h)

pub chain::read_factor-returns-clause-whole : goal.chain::read_factor-returns-clause-whole
chain::read_factor-returns-clause-whole t c = made_ok c.factor.result c.put.result c.put.ensures c.factor.ensures.whole (λ f rest h made. rw (made.0, made.1) h)

pub chain::read_operations-returns-in_err-rest-clause-refused : goal.chain::read_operations-returns-in_err-rest-clause-refused
chain::read_operations-returns-in_err-rest-clause-refused t c = passed c.from_residual-in_err-rest.result c.from_residual-in_err-rest.ensures.1 (λ y e. rw e (operating_refuses c.args.level c.args.left c.args.end _ _ _ _ _ _ _ c.loop-after.invariant.0.2 (rw c.in-Some.is at c.in_ok-after.ensures.stands) c.in_err-rest.ensures.refused))

pub chain::read_operations-loop-after-preserved-in-Some-last_mut : goal.chain::read_operations-loop-after-preserved-in-Some-last_mut
chain::read_operations-loop-after-preserved-in-Some-last_mut t c = (extended_more _ _ _ c.loop-after.invariant.0 (grown_written {Q = λ x. StandsOperator c.args.level x.operator x.position (terminals c.loop-after.rest.now) (terminals c.in-Some.after.now) × Operand c.args.level c.args.left (expr_of x.operand) (terminals c.in-Some.after.now) (terminals c.in_ok-rest.rest.now)} _ _ _ _ _ (omega (arith, c.begin_operation.new.list.ok.0)) (rw c.in-Some.is at c.in_ok-after.ensures.stands) c.in-Some-last_mut.ensures.value (λ s. (s, c.in_ok-rest.ensures.whole))) (λ us x w f. operating_more c.args.level c.args.left c.args.end _ _ _ _ us x w f.0 f.1), omega (arith, c.loop-after.invariant.1, rw c.in-Some.is at c.in_ok-after.ensures.shorter, c.in_ok-rest.ensures.shorter))

pub chain::read_operations-returns-clause-whole : goal.chain::read_operations-returns-clause-whole
chain::read_operations-returns-clause-whole t c = extended_ends _ _ _ c.loop-after.invariant.0 (rw c.in_default.is at c.in_ok-after.ensures.stands) (λ us s n. operating_ends c.args.level c.args.left c.args.end _ _ us s n)

-- ---- designators

pub designator::designator-returns-in_err-root-clause-refused : goal.designator::designator-returns-in_err-root-clause-refused
designator::designator-returns-in_err-root-clause-refused t c = passed c.from_residual.result c.from_residual.ensures.1 (λ y e. rw e (designator_root c.args.left c.args.end _ _ c.in_err-root.ensures.refused))

pub designator::designator-returns-clause-whole : goal.designator::designator-returns-clause-whole
designator::designator-returns-clause-whole t c = made_ok c.read_selectors-read.result c.selected.result c.selected.ensures c.read_selectors-read.ensures.whole (λ rest f h made. rw (made.0, made.1) (designator_whole c.args.left _ _ _ _ _ c.in_ok-root.ensures.whole (extended_none c.new-behind.ensures.items h)))

pub designator::designator-returns-clause-refused : goal.designator::designator-returns-clause-refused
designator::designator-returns-clause-refused t c = made_err c.read_selectors-read.result c.selected.result c.selected.ensures c.read_selectors-read.ensures.refused (λ e h. out_of_memory h) (λ e h. designator_selectors c.args.left c.args.end _ _ _ _ c.in_ok-root.ensures.whole h)

pub designator::designator-returns-clause-shorter : goal.designator::designator-returns-clause-shorter
designator::designator-returns-clause-shorter t c = made_ok c.read_selectors-read.result c.selected.result c.selected.ensures c.read_selectors-read.ensures.shorter (λ read f h made. rw made.1 (omega (arith, h, c.in_ok-root.ensures.shorter)))

pub designator::root-returns-in_default-clause-refused : goal.designator::root-returns-in_default-clause-refused
designator::root-returns-in_default-clause-refused t c = root_none c.args.left c.args.end _ _ (empty_not begins_designator c.args.tokens.now c.in_default.ensures.cases) c.syntax.ensures

pub designator::root-returns-in-Name-clause-whole : goal.designator::root-returns-in-Name-clause-whole
designator::root-returns-in-Name-clause-whole t c = ok_weaker c.named_root.result c.named_root.ensures.whole (λ f h. h c.args.left)

pub designator::root-returns-in-Name-clause-refused : goal.designator::root-returns-in-Name-clause-refused
designator::root-returns-in-Name-clause-refused t c = err_weaker c.named_root.result c.named_root.ensures.refused (λ e h. root_misses_name c.args.left c.args.end _ _ (rw (c.in-Some.ensures.cases.0, c.in-Name.ensures) refl) (h c.args.left))

pub designator::root-returns-in_err-inner-in-Bracket-clause-refused : goal.designator::root-returns-in_err-inner-in-Bracket-clause-refused
designator::root-returns-in_err-inner-in-Bracket-clause-refused t c = passed c.from_residual.result c.from_residual.ensures.1 (λ y e. rw (e, c.in-Some.ensures.cases.0) (bracket_too_deep c.args.left c.args.end _ _ _ _ c.in-Bracket.ensures c.in_err-inner-in-Bracket.ensures.refused.0 (rw c.in-Some.ensures.cases.0 at c.in_err-inner-in-Bracket.ensures.refused.1)))

pub designator::root-returns-in_ok-inner-in-Bracket-clause-whole : goal.designator::root-returns-in_ok-inner-in-Bracket-clause-whole
designator::root-returns-in_ok-inner-in-Bracket-clause-whole t c = judged_ok c.read_chain.result c.closed_root.result c.closed_root.ensures c.read_chain.ensures.whole (λ behind f h made. rw (made.0, c.position_of-position.ensures, c.in-Some.ensures.cases.0) (root_bracket c.args.left _ _ _ _ _ _ _ _ c.in-Bracket.ensures c.in_ok-inner-in-Bracket.ensures.inside h made.1.1))

pub designator::root-returns-in_ok-inner-in-Bracket-clause-refused : goal.designator::root-returns-in_ok-inner-in-Bracket-clause-refused
designator::root-returns-in_ok-inner-in-Bracket-clause-refused t c = judged_err c.read_chain.result c.closed_root.result c.closed_root.ensures c.read_chain.ensures.whole c.read_chain.ensures.refused (λ e h. out_of_memory h) (λ e h. rw c.in-Some.ensures.cases.0 (bracket_expression c.args.left _ c.args.end _ _ _ _ c.in-Bracket.ensures c.in_ok-inner-in-Bracket.ensures.inside h)) (λ behind e h u. rw c.in-Some.ensures.cases.0 (bracket_open c.args.left _ c.args.end _ _ _ _ _ _ c.in-Bracket.ensures c.in_ok-inner-in-Bracket.ensures.inside h (u _)))

pub designator::root-returns-in_ok-inner-in-Bracket-clause-shorter : goal.designator::root-returns-in_ok-inner-in-Bracket-clause-shorter
designator::root-returns-in_ok-inner-in-Bracket-clause-shorter t c = judged_ok c.read_chain.result c.closed_root.result c.closed_root.ensures c.read_chain.ensures.shorter (λ behind f h made. omega (arith, h, made.2, c.in-Some.ensures.cases.1))

pub designator::root-returns-in-String-clause-whole : goal.designator::root-returns-in-String-clause-whole
designator::root-returns-in-String-clause-whole t c = rw (c.position_of-position.ensures, c.in-Some.ensures.cases.0) (root_string c.args.left _ _ _ c.in-String.ensures)

pub designator::root-returns-in-Nothing-clause-refused : goal.designator::root-returns-in-Nothing-clause-refused
designator::root-returns-in-Nothing-clause-refused t c = root_none c.args.left c.args.end _ _ (rw c.in-Some.ensures.cases.0 c.in-Nothing.ensures) c.syntax-in-Nothing.ensures

pub designator::selector-returns-in_err-inner-in-Index-clause-refused : goal.designator::selector-returns-in_err-inner-in-Index-clause-refused
designator::selector-returns-in_err-inner-in-Index-clause-refused t c = passed c.from_residual.result c.from_residual.ensures.1 (λ y e. rw (e, c.in-Some.ensures.cases.0) (index_too_deep c.args.left c.args.end _ _ _ _ c.in-Index.ensures c.in_err-inner-in-Index.ensures.refused.0 (rw c.in-Some.ensures.cases.0 at c.in_err-inner-in-Index.ensures.refused.1)))

pub designator::selector-returns-in_err-inner-in-Call-clause-refused : goal.designator::selector-returns-in_err-inner-in-Call-clause-refused
designator::selector-returns-in_err-inner-in-Call-clause-refused t c = passed c.from_residual-in_err-inner-in-Call.result c.from_residual-in_err-inner-in-Call.ensures.1 (λ y e. rw (e, c.in-Some.ensures.cases.0) (call_too_deep c.args.left c.args.end _ _ _ _ c.in-Call.ensures c.in_err-inner-in-Call.ensures.refused.0 (rw c.in-Some.ensures.cases.0 at c.in_err-inner-in-Call.ensures.refused.1)))

pub designator::selector-returns-in-Member-clause-whole : goal.designator::selector-returns-in-Member-clause-whole
designator::selector-returns-in-Member-clause-whole t c = ok_weaker c.member.result c.member.ensures.whole (λ found h. chosen _ found h (λ rest g. grown_as _ _ g (λ x w. rw (w.1, c.in-Some.ensures.cases.0) (selector_member c.args.left _ _ _ _ _ c.in-Member.ensures w.2))))

pub designator::selector-returns-in-Member-clause-refused : goal.designator::selector-returns-in-Member-clause-refused
designator::selector-returns-in-Member-clause-refused t c = err_weaker c.member.result c.member.ensures.refused (λ e h. rw c.in-Some.ensures.cases.0 (member_refuses c.args.left c.args.end _ _ _ _ c.in-Member.ensures (h c.args.left)))

pub designator::selector-returns-in_ok-inner-in-Index-clause-whole : goal.designator::selector-returns-in_ok-inner-in-Index-clause-whole
designator::selector-returns-in_ok-inner-in-Index-clause-whole t c = made_ok c.indices.result c.indexed.result c.indexed.ensures c.indices.ensures.whole (λ read found h made. chosen _ found made (λ rest g. rw g.1 (grown_as _ _ g.0 (λ x w. rw (w, c.position_of.ensures, c.in-Some.ensures.cases.0) (selector_index c.args.left _ _ _ _ _ _ c.in-Index.ensures c.in_ok-inner-in-Index.ensures.inside h)))))

pub designator::selector-returns-in_ok-inner-in-Index-clause-refused : goal.designator::selector-returns-in_ok-inner-in-Index-clause-refused
designator::selector-returns-in_ok-inner-in-Index-clause-refused t c = made_err c.indices.result c.indexed.result c.indexed.ensures c.indices.ensures.refused (λ e h. out_of_memory h) (λ e h. rw c.in-Some.ensures.cases.0 (index_refuses c.args.left _ c.args.end _ _ _ _ c.in-Index.ensures c.in_ok-inner-in-Index.ensures.inside h))

pub designator::selector-returns-in_ok-inner-in-Call-clause-whole : goal.designator::selector-returns-in_ok-inner-in-Call-clause-whole
designator::selector-returns-in_ok-inner-in-Call-clause-whole t c = made_ok c.arguments.result c.called.result c.called.ensures c.arguments.ensures.whole (λ read found h made. chosen _ found made (λ rest g. rw g.1 (grown_as _ _ g.0 (λ x w. rw (w, c.in-Some.ensures.cases.0) (selector_call c.args.left _ _ _ _ _ _ c.in-Call.ensures c.in_ok-inner-in-Call.ensures.inside h)))))

pub designator::selector-returns-in_ok-inner-in-Call-clause-refused : goal.designator::selector-returns-in_ok-inner-in-Call-clause-refused
designator::selector-returns-in_ok-inner-in-Call-clause-refused t c = made_err c.arguments.result c.called.result c.called.ensures c.arguments.ensures.refused (λ e h. out_of_memory h) (λ e h. rw c.in-Some.ensures.cases.0 (call_refuses c.args.left _ c.args.end _ _ _ _ c.in-Call.ensures c.in_ok-inner-in-Call.ensures.inside h))

pub designator::read_selectors-loop-behind-preserved : goal.designator::read_selectors-loop-behind-preserved
designator::read_selectors-loop-behind-preserved t c = (extended_more _ _ _ c.loop-behind.invariant.0 (rw c.in-Some.is at c.in_ok-behind.ensures.whole) (λ us x s f. selecting_more c.args.left c.args.end _ _ _ us x s f), omega (arith, c.loop-behind.invariant.1, rw c.in-Some.is at c.in_ok-behind.ensures.shorter))

pub designator::read_selectors-returns-clause-whole : goal.designator::read_selectors-returns-clause-whole
designator::read_selectors-returns-clause-whole t c = extended_ends _ _ _ c.loop-behind.invariant.0 (rw c.in_default.is at c.in_ok-behind.ensures.whole) (λ us s n. selecting_ends c.args.left c.args.end _ _ us s n)

-- ---- factors

pub factor::factor-returns-in_default-clause-refused : goal.factor::factor-returns-in_default-clause-refused
factor::factor-returns-in_default-clause-refused t c = factor_none c.args.left c.args.end _ _ (empty_not begins_expression c.args.tokens.now c.in_default.ensures.cases) c.syntax.ensures

pub factor::factor-returns-in_err-inner-in-Set-clause-refused : goal.factor::factor-returns-in_err-inner-in-Set-clause-refused
factor::factor-returns-in_err-inner-in-Set-clause-refused t c = passed c.from_residual.result c.from_residual.ensures.1 (λ y e. rw (e, c.in-Some.ensures.cases.0) (set_too_deep c.args.left c.args.end _ _ _ _ c.in-Set.ensures c.in_err-inner-in-Set.ensures.refused.0 (rw c.in-Some.ensures.cases.0 at c.in_err-inner-in-Set.ensures.refused.1)))

pub factor::factor-returns-in_ok-inner-in-Set-clause-refused : goal.factor::factor-returns-in_ok-inner-in-Set-clause-refused
factor::factor-returns-in_ok-inner-in-Set-clause-refused t c = err_weaker c.set_elements.result c.set_elements.ensures.refused (λ e h. rw c.in-Some.ensures.cases.0 (set_refuses c.args.left _ c.args.end _ _ _ _ c.in-Set.ensures c.in_ok-inner-in-Set.ensures.inside h))

pub factor::factor-returns-in-Designator-clause-refused : goal.factor::factor-returns-in-Designator-clause-refused
factor::factor-returns-in-Designator-clause-refused t c = made_err c.designator.result c.designated.result c.designated.ensures c.designator.ensures.refused (λ e h. out_of_memory h) (λ e h. designated_refuses c.args.left c.args.end _ _ (rw c.in-Some.ensures.cases.0 c.in-Designator.ensures) h)

pub factor::factor-returns-in-Number-clause-whole : goal.factor::factor-returns-in-Number-clause-whole
factor::factor-returns-in-Number-clause-whole t c = rw (c.position_of-position.ensures, c.in-Some.ensures.cases.0) (factor_number c.args.left _ _ _ _ c.in-Number.ensures)

pub factor::factor-returns-in-Nil-clause-whole : goal.factor::factor-returns-in-Nil-clause-whole
factor::factor-returns-in-Nil-clause-whole t c = rw (c.position_of-position.ensures, c.in-Some.ensures.cases.0) (factor_nil c.args.left _ _ _ c.in-Nil.ensures)

pub factor::factor-returns-in_ok-inner-in-Set-clause-whole : goal.factor::factor-returns-in_ok-inner-in-Set-clause-whole
factor::factor-returns-in_ok-inner-in-Set-clause-whole t c = ok_weaker c.set_elements.result c.set_elements.ensures.whole (λ f h. rw (h.1, c.position_of-position.ensures, c.in-Some.ensures.cases.0) (factor_set c.args.left _ _ _ _ _ _ c.in-Set.ensures c.in_ok-inner-in-Set.ensures.inside h.2))

pub factor::factor-returns-in_ok-inner-in-Set-clause-shorter : goal.factor::factor-returns-in_ok-inner-in-Set-clause-shorter
factor::factor-returns-in_ok-inner-in-Set-clause-shorter t c = ok_weaker c.set_elements.result c.set_elements.ensures.shorter (λ f h. omega (arith, h, c.in-Some.ensures.cases.1))

pub factor::factor-returns-in-Designator-clause-whole : goal.factor::factor-returns-in-Designator-clause-whole
factor::factor-returns-in-Designator-clause-whole t c = made_ok c.designator.result c.designated.result c.designated.ensures c.designator.ensures.whole (λ g f h made. rw (made.0, made.1) (factor_designated c.args.left _ _ _ h))

pub factor::factor-returns-in-Nothing-clause-refused : goal.factor::factor-returns-in-Nothing-clause-refused
factor::factor-returns-in-Nothing-clause-refused t c = factor_none c.args.left c.args.end _ _ (rw c.in-Some.ensures.cases.0 c.in-Nothing.ensures) c.syntax-in-Nothing.ensures

pub factor::factor-literal-requires : goal.factor::factor-literal-requires
factor::factor-literal-requires t c = (omega arith, c.in-Literal.ensures)

pub factor::factor-returns-in-Literal-clause-whole : goal.factor::factor-returns-in-Literal-clause-whole
factor::factor-returns-in-Literal-clause-whole t c = rw (c.in-Some.ensures.cases.0) c.literal.ensures.whole

pub factor::factor-returns-in-Literal-clause-refused : goal.factor::factor-returns-in-Literal-clause-refused
factor::factor-returns-in-Literal-clause-refused t c = rw (c.in-Some.ensures.cases.0) c.literal.ensures.refused

pub factor::factor-inherited-requires : goal.factor::factor-inherited-requires
factor::factor-inherited-requires t c = (omega arith, c.in-Inherited.ensures)

pub factor::factor-returns-in-Inherited-clause-whole : goal.factor::factor-returns-in-Inherited-clause-whole
factor::factor-returns-in-Inherited-clause-whole t c = rw (c.in-Some.ensures.cases.0) c.inherited.ensures.whole

pub factor::factor-returns-in-Inherited-clause-refused : goal.factor::factor-returns-in-Inherited-clause-refused
factor::factor-returns-in-Inherited-clause-refused t c = rw (c.in-Some.ensures.cases.0) c.inherited.ensures.refused

pub factor::factor-prefixed-requires : goal.factor::factor-prefixed-requires
factor::factor-prefixed-requires t c = (omega arith, c.in-Prefix.ensures)

pub factor::factor-returns-in-Prefix-clause-whole : goal.factor::factor-returns-in-Prefix-clause-whole
factor::factor-returns-in-Prefix-clause-whole t c = rw (c.in-Some.ensures.cases.0) c.prefixed.ensures.whole

pub factor::factor-returns-in-Prefix-clause-refused : goal.factor::factor-returns-in-Prefix-clause-refused
factor::factor-returns-in-Prefix-clause-refused t c = rw (c.in-Some.ensures.cases.0) c.prefixed.ensures.refused

pub factor::literal-returns-in_err-text-clause-refused : goal.factor::literal-returns-in_err-text-clause-refused
factor::literal-returns-in_err-text-clause-refused t c = passed c.from_residual.result c.from_residual.ensures.1 (λ y e. out_of_memory e)

pub factor::literal-returns-in_err-selectors-clause-refused : goal.factor::literal-returns-in_err-selectors-clause-refused
factor::literal-returns-in_err-selectors-clause-refused t c = passed c.from_residual-in_err-selectors.result c.from_residual-in_err-selectors.ensures.1 (λ y e. rw e (literal_refuses c.args.left c.args.end _ _ _ _ _ c.requires c.in_err-selectors.ensures.refused))

pub factor::literal-returns-clause-whole : goal.factor::literal-returns-clause-whole
factor::literal-returns-clause-whole t c = rw (c.literal_node.ensures, c.in_ok-text.ensures, c.position_of-position.ensures) (factor_literal c.args.left _ _ _ _ _ _ c.requires c.in_ok-selectors.ensures.whole)

pub factor::inherited-returns-clause-refused : goal.factor::inherited-returns-clause-refused
factor::inherited-returns-clause-refused t c = made_err c.designator.result c.inherited_factor.result c.inherited_factor.ensures c.designator.ensures.refused (λ e h. out_of_memory h) (λ e h. inherited_refuses c.args.left c.args.end _ _ _ _ c.requires h)

pub factor::inherited-returns-clause-whole : goal.factor::inherited-returns-clause-whole
factor::inherited-returns-clause-whole t c = made_ok c.designator.result c.inherited_factor.result c.inherited_factor.ensures c.designator.ensures.whole (λ g f h made. rw (made.0, made.1, c.position_of-position.ensures) (factor_inherited c.args.left _ _ _ _ _ c.requires h))

pub factor::inherited-returns-clause-shorter : goal.factor::inherited-returns-clause-shorter
factor::inherited-returns-clause-shorter t c = made_ok c.designator.result c.inherited_factor.result c.inherited_factor.ensures c.designator.ensures.shorter (λ g f h made. rw made.1 (omega (arith, h)))

pub factor::prefixed-returns-in_err-inner-clause-refused : goal.factor::prefixed-returns-in_err-inner-clause-refused
factor::prefixed-returns-in_err-inner-clause-refused t c = passed c.from_residual.result c.from_residual.ensures.1 (λ y e. rw e (prefix_too_deep c.args.left c.args.end _ _ _ _ _ c.requires c.in_err-inner.ensures.refused))

pub factor::prefixed-returns-in_err-operand-clause-refused : goal.factor::prefixed-returns-in_err-operand-clause-refused
factor::prefixed-returns-in_err-operand-clause-refused t c = passed c.from_residual-in_err-operand.result c.from_residual-in_err-operand.ensures.1 (λ y e. rw e (prefix_refuses c.args.left _ c.args.end _ _ _ _ _ c.requires c.in_ok-inner.ensures.inside c.in_err-operand.ensures.refused))

pub factor::prefixed-returns-in_err-factor-clause-refused : goal.factor::prefixed-returns-in_err-factor-clause-refused
factor::prefixed-returns-in_err-factor-clause-refused t c = passed c.from_residual-in_err-factor.result c.from_residual-in_err-factor.ensures.1 (λ y e. out_of_memory e)

pub factor::prefixed-returns-clause-whole : goal.factor::prefixed-returns-clause-whole
factor::prefixed-returns-clause-whole t c = rw (c.in_ok-factor.ensures, c.position_of-position.ensures) (factor_prefix c.args.left _ _ _ _ _ _ _ c.requires c.in_ok-inner.ensures.inside c.in_ok-operand.ensures.whole)

pub factor::set_elements-elements-requires : goal.factor::set_elements-elements-requires
factor::set_elements-elements-requires t c = (omega arith, closes_set)

pub factor::set_elements-returns-in-Some-clause-whole : goal.factor::set_elements-returns-in-Some-clause-whole
factor::set_elements-returns-in-Some-clause-whole t c = (_, c.set_node.ensures, rw c.new.ensures.items (set_empty c.args.left c.in-Some.ensures.mark.0 _ _ c.in-Some.ensures.mark.1))

pub factor::set_elements-returns-in-None-clause-whole : goal.factor::set_elements-returns-in-None-clause-whole
factor::set_elements-returns-in-None-clause-whole t c = made_ok c.elements.result c.set_factor.result c.set_factor.ensures c.elements.ensures.whole (λ rest f h made. (_, made.0, rw made.1 (some_inside h)))

pub factor::set_elements-returns-in-None-clause-shorter : goal.factor::set_elements-returns-in-None-clause-shorter
factor::set_elements-returns-in-None-clause-shorter t c = made_ok c.elements.result c.set_factor.result c.set_factor.ensures c.elements.ensures.shorter (λ rest f h made. rw made.1 h)

pub factor::set_elements-returns-in-None-clause-refused : goal.factor::set_elements-returns-in-None-clause-refused
factor::set_elements-returns-in-None-clause-refused t c = made_err c.elements.result c.set_factor.result c.set_factor.ensures c.elements.ensures.refused (λ e h. out_of_memory h) (λ e h. set_inside _ _ _ _ c.in-None.ensures.mark h)

-- ---- lists

pub list::element-returns-clause-whole : goal.list::element-returns-clause-whole
list::element-returns-clause-whole t c = judged_ok c.read_chain.result c.with_last.result c.with_last.ensures c.read_chain.ensures.whole (λ read rest h made. grown_as _ _ made.0 (λ x w. w _ h))

pub list::element-returns-clause-refused : goal.list::element-returns-clause-refused
list::element-returns-clause-refused t c = judged_err c.read_chain.result c.with_last.result c.with_last.ensures c.read_chain.ensures.whole c.read_chain.ensures.refused (λ e h. out_of_memory h) (λ e h. element_first c.args.left c.args.end _ _ h) (λ read e h u. u _ h)

pub list::element-returns-clause-shorter : goal.list::element-returns-clause-shorter
list::element-returns-clause-shorter t c = judged_ok c.read_chain.result c.with_last.result c.with_last.ensures c.read_chain.ensures.shorter (λ read rest h made. omega (arith, h, made.1))

pub list::with_last-returns-in_err-single-in-None : goal.list::with_last-returns-in_err-single-in-None
list::with_last-returns-in_err-single-in-None t c = rw c.in-Ok.is (as_made (made_none _ c.from_residual.result c.from_residual.ensures.1))

pub list::with_last-returns-in_ok-single-in-None : goal.list::with_last-returns-in_ok-single-in-None
list::with_last-returns-in_ok-single-in-None t c = rw c.in-Ok.is (as_made (made {y = c.in-Ok.rest} (grown_as _ _ c.in_ok-single-in-None.ensures (λ x w ks h. rw w (h, c.in-None.ensures.mark)), omega arith)))

pub list::with_last-returns-in_err-last-in-Some : goal.list::with_last-returns-in_err-last-in-Some
list::with_last-returns-in_err-last-in-Some t c = rw c.in-Ok.is (as_made (made_none _ c.from_residual-in_err-last-in-Some.result c.from_residual-in_err-last-in-Some.ensures.1))

pub list::with_last-returns-in_ok-last-in-Some : goal.list::with_last-returns-in_ok-last-in-Some
list::with_last-returns-in_ok-last-in-Some t c = rw c.in-Ok.is (judged_on {S = λ read e. ⊥} _ c.read_chain.result c.ranged.result (as_made c.ranged.ensures) (both_ok _ _ c.read_chain.result c.read_chain.ensures.whole c.read_chain.ensures.shorter) c.read_chain.ensures.refused (λ read rest h made. (grown_as _ _ made.0 (λ x w ks f. rw (w, made.1) (element_range c.args.left _ _ _ _ _ _ _ f c.in-Some.ensures.mark.1 h.0)), rw made.1 (omega (arith, h.1, c.in-Some.ensures.shorter)))) (λ e h ks f. element_last c.args.left c.args.end _ _ _ _ _ _ f c.in-Some.ensures.mark.1 h) (λ read e h u. absurd u))

pub list::with_last-returns-in-Err : goal.list::with_last-returns-in-Err
list::with_last-returns-in-Err t c = rw c.in-Err.is (as_made (passed_on refl))

pub list::elements-returns-in_err-behind-clause-refused : goal.list::elements-returns-in_err-behind-clause-refused
list::elements-returns-in_err-behind-clause-refused t c = passed c.from_residual.result c.from_residual.ensures.1 (λ y e. rw e (listed_item (elements_list c.args.close c.requires) c.args.left c.args.end _ _ _ _ c.loop-behind.invariant.0 c.in_err-behind.ensures.refused))

pub list::elements-loop-behind-preserved : goal.list::elements-loop-behind-preserved
list::elements-loop-behind-preserved t c = (rw c.in_ok-behind.ensures.whole.1 (listed_more (elements_list c.args.close c.requires) c.args.left c.args.end _ _ _ _ _ _ _ c.loop-behind.invariant.0 c.in_ok-behind.ensures.whole.2 c.in-Some.ensures.mark.1), omega (arith, c.loop-behind.invariant.1, c.in-Some.ensures.shorter, c.in_ok-behind.ensures.shorter))

pub list::elements-returns-in-None-clause-whole : goal.list::elements-returns-in-None-clause-whole
list::elements-returns-in-None-clause-whole t c = ok_weaker c.after_mark.result c.after_mark.ensures.mark (λ r h. rw c.in_ok-behind.ensures.whole.1 (listed_ends (elements_list c.args.close c.requires) c.args.left c.args.end _ _ _ _ _ _ _ c.loop-behind.invariant.0 c.in_ok-behind.ensures.whole.2 h.1))

pub list::elements-returns-in-None-clause-refused : goal.list::elements-returns-in-None-clause-refused
list::elements-returns-in-None-clause-refused t c = err_weaker c.after_mark.result c.after_mark.ensures.refused (λ e h. listed_close (elements_list c.args.close c.requires) c.args.left c.args.end _ _ _ _ _ _ c.loop-behind.invariant.0 c.in_ok-behind.ensures.whole.2 c.in-None.ensures.mark (h _))

pub list::indices-returns-in_err-behind-clause-refused : goal.list::indices-returns-in_err-behind-clause-refused
list::indices-returns-in_err-behind-clause-refused t c = passed c.from_residual.result c.from_residual.ensures.1 (λ y e. rw e (made_err c.read_chain.result _ c.in_err-behind.ensures c.read_chain.ensures.refused (λ e h. out_of_memory h) (λ e h. listed_item indices_list c.args.left c.args.end _ _ _ _ c.loop-behind.invariant.0 h)))

pub list::indices-loop-behind-smaller : goal.list::indices-loop-behind-smaller
list::indices-loop-behind-smaller t c = made_as c.read_chain.result _ c.in_ok-behind.ensures c.read_chain.ensures.shorter (λ read h made. let same = made.1 in omega (arith, h, rw same at c.in-Some.ensures.shorter))

pub list::indices-loop-behind-preserved : goal.list::indices-loop-behind-preserved
list::indices-loop-behind-preserved t c = made_as c.read_chain.result _ c.in_ok-behind.ensures (both_ok _ _ c.read_chain.result c.read_chain.ensures.whole c.read_chain.ensures.shorter) (λ read h made. (rw made.0 (listed_more indices_list c.args.left c.args.end _ _ _ _ _ _ _ c.loop-behind.invariant.0 h.0 (rw made.1 at c.in-Some.ensures.mark.1)), omega (arith, c.loop-behind.invariant.1, rw made.1 at c.in-Some.ensures.shorter, h.1)))

pub list::indices-returns-in-None-clause-whole : goal.list::indices-returns-in-None-clause-whole
list::indices-returns-in-None-clause-whole t c = ok_weaker c.after_mark.result c.after_mark.ensures.mark (λ r f. made_as c.read_chain.result _ c.in_ok-behind.ensures c.read_chain.ensures.whole (λ read h made. rw made.0 (listed_ends indices_list c.args.left c.args.end _ _ _ _ _ _ _ c.loop-behind.invariant.0 h (rw made.1 at f.1))))

pub list::indices-returns-in-None-clause-refused : goal.list::indices-returns-in-None-clause-refused
list::indices-returns-in-None-clause-refused t c = err_weaker c.after_mark.result c.after_mark.ensures.refused (λ e f. made_as c.read_chain.result _ c.in_ok-behind.ensures c.read_chain.ensures.whole (λ read h made. listed_close indices_list c.args.left c.args.end _ _ _ _ _ _ c.loop-behind.invariant.0 h (rw made.1 at c.in-None.ensures.mark) (rw made.1 at f _)))

pub list::indices-returns-in-None-clause-shorter : goal.list::indices-returns-in-None-clause-shorter
list::indices-returns-in-None-clause-shorter t c = ok_weaker c.after_mark.result c.after_mark.ensures.shorter (λ r f. made_as c.read_chain.result _ c.in_ok-behind.ensures c.read_chain.ensures.shorter (λ read h made. omega (arith, h, c.loop-behind.invariant.1, rw made.1 at f)))

pub list::argument-returns-in_err-shown-clause-refused : goal.list::argument-returns-in_err-shown-clause-refused
list::argument-returns-in_err-shown-clause-refused t c = passed c.from_residual.result c.from_residual.ensures.1 (λ y e. out_of_memory e)

pub list::argument-returns-clause-whole : goal.list::argument-returns-clause-whole
list::argument-returns-clause-whole t c = judged_ok c.read_chain.result c.with_width.result c.with_width.ensures c.read_chain.ensures.whole (λ read rest h made. grown_as _ _ made.0 (λ x w. w _ h))

pub list::argument-returns-clause-refused : goal.list::argument-returns-clause-refused
list::argument-returns-clause-refused t c = judged_err c.read_chain.result c.with_width.result c.with_width.ensures c.read_chain.ensures.whole c.read_chain.ensures.refused (λ e h. out_of_memory h) (λ e h. argument_value c.args.left c.args.end _ _ h) (λ read e h u. u _ h)

pub list::argument-returns-clause-shorter : goal.list::argument-returns-clause-shorter
list::argument-returns-clause-shorter t c = judged_ok c.read_chain.result c.with_width.result c.with_width.ensures c.read_chain.ensures.shorter (λ read rest h made. omega (arith, h, made.1))

pub list::with_width-returns-in_err-valued-in-None : goal.list::with_width-returns-in_err-valued-in-None
list::with_width-returns-in_err-valued-in-None t c = rw c.in-Ok.is (as_made (made_none _ c.from_residual.result c.from_residual.ensures.1))

pub list::with_width-returns-in_ok-valued-in-None : goal.list::with_width-returns-in_ok-valued-in-None
list::with_width-returns-in_ok-valued-in-None t c = rw c.in-Ok.is (as_made (made {y = c.in-Ok.rest} (grown_as _ _ c.in_ok-valued-in-None.ensures (λ x w ks h. rw w (h, c.in-None.ensures.mark)), omega arith)))

pub list::with_width-returns-in_err-width-in-Some : goal.list::with_width-returns-in_err-width-in-Some
list::with_width-returns-in_err-width-in-Some t c = rw c.in-Ok.is (as_made (made_none _ c.from_residual-in_err-width-in-Some.result c.from_residual-in_err-width-in-Some.ensures.1))

pub list::with_width-returns-in_ok-width-in-Some : goal.list::with_width-returns-in_ok-width-in-Some
list::with_width-returns-in_ok-width-in-Some t c = rw c.in-Ok.is (judged_on _ c.read_chain.result c.padded.result c.padded.ensures (both_ok _ _ c.read_chain.result c.read_chain.ensures.whole c.read_chain.ensures.shorter) c.read_chain.ensures.refused (λ read rest h made. (grown_as _ _ made.0 (λ x w ks f. rw (w, made.2) (argument_padded c.args.left _ _ _ _ _ _ _ f c.in-Some.ensures.mark.1 h.0 made.1)), rw made.2 (omega (arith, h.1, c.in-Some.ensures.shorter)))) (λ e h ks f. argument_width c.args.left c.args.end _ _ _ _ _ _ f c.in-Some.ensures.mark.1 h) (λ read e h u ks f. argument_digits c.args.left c.args.end _ _ _ _ _ _ _ _ _ _ f c.in-Some.ensures.mark.1 h.0 u.1.2 u.0))

pub list::with_width-returns-in-Err : goal.list::with_width-returns-in-Err
list::with_width-returns-in-Err t c = rw c.in-Err.is (as_made (passed_on refl))

pub list::arguments-returns-in-Some-clause-whole : goal.list::arguments-returns-in-Some-clause-whole
list::arguments-returns-in-Some-clause-whole t c = rw c.emptied.ensures (call_empty c.args.left c.in-Some.ensures.mark.0 _ _ c.in-Some.ensures.mark.1)

pub list::arguments-returns-in_err-behind-clause-refused : goal.list::arguments-returns-in_err-behind-clause-refused
list::arguments-returns-in_err-behind-clause-refused t c = passed c.from_residual.result c.from_residual.ensures.1 (λ y e. rw e (call_inside _ _ _ _ c.in_default.ensures.mark (listed_item arguments_list c.args.left c.args.end _ _ _ _ c.loop-behind.invariant.0 c.in_err-behind.ensures.refused)))

pub list::arguments-loop-behind-preserved : goal.list::arguments-loop-behind-preserved
list::arguments-loop-behind-preserved t c = (rw c.in_ok-behind.ensures.whole.1 (listed_more arguments_list c.args.left c.args.end _ _ _ _ _ _ _ c.loop-behind.invariant.0 c.in_ok-behind.ensures.whole.2 c.in-Some-behind_mark.ensures.mark.1), omega (arith, c.loop-behind.invariant.1, c.in-Some-behind_mark.ensures.shorter, c.in_ok-behind.ensures.shorter))

pub list::arguments-returns-in-None-clause-whole : goal.list::arguments-returns-in-None-clause-whole
list::arguments-returns-in-None-clause-whole t c = ok_weaker c.after_mark.result c.after_mark.ensures.mark (λ r h. rw c.in_ok-behind.ensures.whole.1 (arguments_inside (listed_ends arguments_list c.args.left c.args.end _ _ _ _ _ _ _ c.loop-behind.invariant.0 c.in_ok-behind.ensures.whole.2 h.1)))

pub list::arguments-returns-in-None-clause-refused : goal.list::arguments-returns-in-None-clause-refused
list::arguments-returns-in-None-clause-refused t c = err_weaker c.after_mark.result c.after_mark.ensures.refused (λ e h. call_inside _ _ _ _ c.in_default.ensures.mark (listed_close arguments_list c.args.left c.args.end _ _ _ _ _ _ c.loop-behind.invariant.0 c.in_ok-behind.ensures.whole.2 c.in-None.ensures.mark (h _)))
