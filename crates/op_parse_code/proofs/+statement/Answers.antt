use Rattle.std.proofs.Common.{refl, sym, ◌∙◌, arith}
use Rattle.op_parse_code.proofs.Branches.{fits_branches, of_heads, branches_list, led_ends, led_lead, led_body, led_stops, led_more, led_last, case_whole, case_else_whole, CaseBranches, case_refuses, list_first, list_end, list_else}
use Rattle.op_parse_code.proofs.Calls.{designator_statement}
use Rattle.op_parse_code.proofs.Errors.{passed, ok_weaker, err_weaker, made_err, made_as, both_ok}
use Rattle.op_parse_code.proofs.Handlers.{fits_handlers, handlers_list, except_whole, except_on_whole, except_else_whole, try_body, try_except_missing, try_except_refuses, try_finally_whole, try_except_whole, except_statements, except_handlers, try_finally_refuses}
use Rattle.op_parse_code.proofs.Names.{empty_not}
use Rattle.op_parse_code.proofs.Statements.{if_heads, do_heads, statement_none, statement_too_deep, word_refuses, word_whole, word_begins, call_whole, call_statement_refuses, sequencing_item, sequencing_more, sequencing_ends, block_whole, if_otherwise, if_whole, if_else_whole, while_refuses, while_whole, repeat_body, repeat_open, repeat_condition, repeat_whole, for_variable, for_in_missing, for_in_refuses, for_first, for_direction, for_last, for_to_whole, for_in_whole, block_refuses, end_body, end_open, headed_first, headed_mark, headed_rest, IfBody, if_body, if_refuses}
use Rattle.op_parse_code.proofs.StatementKnown.{known_branches, known_handlers}
use Rattle.op_parse_code.specs.Opening.{kind_of_word}
use Rattle.op_parse_code.specs.Refusal.{out_of_memory}
use Rattle.op_parse_code.specs.Whole.{closes_labels}
use Rattle.op_parse_code.specs.WholeStatement.{SomeBranches, SomeHandlers, SomeStatement}
use Rattle.op_parse_code.specs.declared.mark.Mark.TheVariants as mark
use Rattle.op_scan.specs.declared.token.TokenKind.TheVariants as kind
use Rattle.op_tree.specs.Ends.{begins_statement}
use Rattle.op_parse_code.proofs.+statement.Goals as goal

pub compound::statement_at-returns-in_default-clause-whole : goal.compound::statement_at-returns-in_default-clause-whole
compound::statement_at-returns-in_default-clause-whole t c = statement_none c.args.left _ (empty_not begins_statement c.args.tokens.now c.in_default.ensures.cases)

pub compound::statement_at-returns-in-Nothing-clause-whole : goal.compound::statement_at-returns-in-Nothing-clause-whole
compound::statement_at-returns-in-Nothing-clause-whole t c = statement_none c.args.left _ (rw c.in-Some.ensures.cases.0 c.in-Nothing.ensures)

pub compound::statement_at-returns-in_err-inner-in-Designator-clause-refused : goal.compound::statement_at-returns-in_err-inner-in-Designator-clause-refused
compound::statement_at-returns-in_err-inner-in-Designator-clause-refused t c = passed c.from_residual.result c.from_residual.ensures.1 (λ y e. rw e (statement_too_deep c.args.left c.args.end _ _ (designator_statement _ (rw c.in-Some.ensures.cases.0 c.in-Designator.ensures)) c.in_err-inner-in-Designator.ensures.refused.0 c.in_err-inner-in-Designator.ensures.refused.1))

pub compound::statement_at-call_or_assignment-requires : goal.compound::statement_at-call_or_assignment-requires
compound::statement_at-call_or_assignment-requires t c = rw c.in-Some.ensures.cases.0 c.in-Designator.ensures

pub compound::statement_at-returns-in_ok-inner-in-Designator-clause-whole : goal.compound::statement_at-returns-in_ok-inner-in-Designator-clause-whole
compound::statement_at-returns-in_ok-inner-in-Designator-clause-whole t c = ok_weaker c.call_or_assignment.result c.call_or_assignment.ensures.whole (λ f h. call_whole _ _ _ _ _ c.in_ok-inner-in-Designator.ensures.inside h)

pub compound::statement_at-returns-in_ok-inner-in-Designator-clause-refused : goal.compound::statement_at-returns-in_ok-inner-in-Designator-clause-refused
compound::statement_at-returns-in_ok-inner-in-Designator-clause-refused t c = err_weaker c.call_or_assignment.result c.call_or_assignment.ensures.refused (λ e h. call_statement_refuses _ _ _ _ _ (designator_statement _ (rw c.in-Some.ensures.cases.0 c.in-Designator.ensures)) c.in_ok-inner-in-Designator.ensures.inside h)

pub compound::statement_at-returns-in_err-inner-in-Raise-clause-refused : goal.compound::statement_at-returns-in_err-inner-in-Raise-clause-refused
compound::statement_at-returns-in_err-inner-in-Raise-clause-refused t c = passed c.from_residual-in_err-inner-in-Raise.result c.from_residual-in_err-inner-in-Raise.ensures.1 (λ y e. rw e (statement_too_deep c.args.left c.args.end _ _ (rw (c.in-Some.ensures.cases.0, c.in-Raise.ensures) refl) c.in_err-inner-in-Raise.ensures.refused.0 c.in_err-inner-in-Raise.ensures.refused.1))

pub compound::statement_at-raise-requires : goal.compound::statement_at-raise-requires
compound::statement_at-raise-requires t c = rw (c.position_of.ensures, c.in-Some.ensures.cases.0, c.in-Raise.ensures) refl

pub compound::statement_at-returns-in_ok-inner-in-Raise-clause-whole : goal.compound::statement_at-returns-in_ok-inner-in-Raise-clause-whole
compound::statement_at-returns-in_ok-inner-in-Raise-clause-whole t c = ok_weaker c.raise.result c.raise.ensures.whole (λ f h. rw (c.in-Some.ensures.cases.0) (word_whole _ _ _ kind.Raise _ _ _ _ c.in-Raise.ensures c.in_ok-inner-in-Raise.ensures.inside (rw c.position_of.ensures at h)))

pub compound::statement_at-returns-in_ok-inner-in-Raise-clause-refused : goal.compound::statement_at-returns-in_ok-inner-in-Raise-clause-refused
compound::statement_at-returns-in_ok-inner-in-Raise-clause-refused t c = err_weaker c.raise.result c.raise.ensures.refused (λ e h. call_statement_refuses _ _ _ _ _ (rw (c.in-Some.ensures.cases.0, c.in-Raise.ensures) refl) c.in_ok-inner-in-Raise.ensures.inside h)

pub compound::statement_at-returns-in_err-inner-in-Word-clause-refused : goal.compound::statement_at-returns-in_err-inner-in-Word-clause-refused
compound::statement_at-returns-in_err-inner-in-Word-clause-refused t c = passed c.from_residual-in_err-inner-in-Word.result c.from_residual-in_err-inner-in-Word.ensures.1 (λ y e. rw e (statement_too_deep c.args.left c.args.end _ _ (rw (c.in-Some.ensures.cases.0, c.in-Word.ensures) (word_begins c.in-Word.word)) c.in_err-inner-in-Word.ensures.refused.0 c.in_err-inner-in-Word.ensures.refused.1))

pub compound::statement_at-returns-in_ok-inner-in-Word-clause-whole : goal.compound::statement_at-returns-in_ok-inner-in-Word-clause-whole
compound::statement_at-returns-in_ok-inner-in-Word-clause-whole t c = ok_weaker c.behind_word.result c.behind_word.ensures.whole (λ f h. rw (c.in-Some.ensures.cases.0) (word_whole _ _ _ (kind_of_word c.in-Word.word) _ _ _ _ c.in-Word.ensures c.in_ok-inner-in-Word.ensures.inside (rw c.position_of-in-Word.ensures at h)))

pub compound::statement_at-returns-in_ok-inner-in-Word-clause-refused : goal.compound::statement_at-returns-in_ok-inner-in-Word-clause-refused
compound::statement_at-returns-in_ok-inner-in-Word-clause-refused t c = err_weaker c.behind_word.result c.behind_word.ensures.refused (λ e h. rw (c.in-Some.ensures.cases.0) (word_refuses _ _ _ _ (kind_of_word c.in-Word.word) _ _ _ c.in-Word.ensures (word_begins c.in-Word.word) c.in_ok-inner-in-Word.ensures.inside (rw c.position_of-in-Word.ensures at h)))

pub compound::boxed_statement-returns-in_err-statement-clause-refused : goal.compound::boxed_statement-returns-in_err-statement-clause-refused
compound::boxed_statement-returns-in_err-statement-clause-refused t c = passed c.from_residual.result c.from_residual.ensures.1 (λ y e. rw e c.in_err-statement.ensures.refused)

pub compound::boxed_statement-returns-in_err-boxed-clause-refused : goal.compound::boxed_statement-returns-in_err-boxed-clause-refused
compound::boxed_statement-returns-in_err-boxed-clause-refused t c = passed c.from_residual-in_err-boxed.result c.from_residual-in_err-boxed.ensures.1 (λ y e. out_of_memory e)

pub compound::boxed_statement-returns-clause-whole : goal.compound::boxed_statement-returns-clause-whole
compound::boxed_statement-returns-clause-whole t c = rw c.in_ok-boxed.ensures c.in_ok-statement.ensures.whole

pub compound::behind_word-returns-in-Begin : goal.compound::behind_word-returns-in-Begin
compound::behind_word-returns-in-Begin t c = record { whole = rw c.in-Begin.is c.block.ensures.whole; refused = rw c.in-Begin.is c.block.ensures.refused; shorter = c.block.ensures.shorter }

pub compound::behind_word-returns-in-If_ : goal.compound::behind_word-returns-in-If_
compound::behind_word-returns-in-If_ t c = record { whole = rw c.in-If_.is c.if_statement.ensures.whole; refused = rw c.in-If_.is c.if_statement.ensures.refused; shorter = c.if_statement.ensures.shorter }

pub compound::behind_word-returns-in-Case : goal.compound::behind_word-returns-in-Case
compound::behind_word-returns-in-Case t c = record { whole = rw c.in-Case.is c.case_statement.ensures.whole; refused = rw c.in-Case.is c.case_statement.ensures.refused; shorter = c.case_statement.ensures.shorter }

pub compound::behind_word-returns-in-While_ : goal.compound::behind_word-returns-in-While_
compound::behind_word-returns-in-While_ t c = record { whole = rw c.in-While_.is c.while_loop.ensures.whole; refused = rw c.in-While_.is c.while_loop.ensures.refused; shorter = c.while_loop.ensures.shorter }

pub compound::behind_word-returns-in-Repeat : goal.compound::behind_word-returns-in-Repeat
compound::behind_word-returns-in-Repeat t c = record { whole = rw c.in-Repeat.is c.repeat_loop.ensures.whole; refused = rw c.in-Repeat.is c.repeat_loop.ensures.refused; shorter = c.repeat_loop.ensures.shorter }

pub compound::behind_word-returns-in-For_ : goal.compound::behind_word-returns-in-For_
compound::behind_word-returns-in-For_ t c = record { whole = rw c.in-For_.is c.for_loop.ensures.whole; refused = rw c.in-For_.is c.for_loop.ensures.refused; shorter = c.for_loop.ensures.shorter }

pub compound::behind_word-returns-in-Try_ : goal.compound::behind_word-returns-in-Try_
compound::behind_word-returns-in-Try_ t c = record { whole = rw c.in-Try_.is c.try_statement.ensures.whole; refused = rw c.in-Try_.is c.try_statement.ensures.refused; shorter = c.try_statement.ensures.shorter }

pub compound::behind_word-returns-in-Inherited : goal.compound::behind_word-returns-in-Inherited
compound::behind_word-returns-in-Inherited t c = record { whole = rw c.in-Inherited.is c.inherited_call.ensures.whole; refused = rw c.in-Inherited.is c.inherited_call.ensures.refused; shorter = c.inherited_call.ensures.shorter }

pub compound::block-returns-in_err-statements-clause-refused : goal.compound::block-returns-in_err-statements-clause-refused
compound::block-returns-in_err-statements-clause-refused t c = passed c.from_residual.result c.from_residual.ensures.1 (λ y e. rw e (block_refuses c.args.position c.args.left c.args.end _ _ (end_body c.args.left c.args.end _ _ c.in_err-statements.ensures.refused)))

pub compound::block-returns-in_err-rest-clause-refused : goal.compound::block-returns-in_err-rest-clause-refused
compound::block-returns-in_err-rest-clause-refused t c = passed c.from_residual-in_err-rest.result c.from_residual-in_err-rest.ensures.1 (λ y e. rw e (block_refuses c.args.position c.args.left c.args.end _ _ (end_open c.args.left c.args.end _ _ _ _ c.in_ok-statements.ensures.whole (c.in_err-rest.ensures.refused _))))

pub compound::block-returns-clause-whole : goal.compound::block-returns-clause-whole
compound::block-returns-clause-whole t c = rw c.block_node.ensures (block_whole c.args.position _ c.args.left _ _ _ _ c.in_ok-statements.ensures.whole c.in_ok-rest.ensures.mark.1)

pub compound::statements-returns-in_err-statement-clause-refused : goal.compound::statements-returns-in_err-statement-clause-refused
compound::statements-returns-in_err-statement-clause-refused t c = passed c.from_residual.result c.from_residual.ensures.1 (λ y e. rw e (sequencing_item c.args.left c.args.end _ _ _ _ c.loop-statements.invariant.0 c.in_err-statement.ensures.refused))

pub compound::statements-returns-in_err-push-clause-refused : goal.compound::statements-returns-in_err-push-clause-refused
compound::statements-returns-in_err-push-clause-refused t c = passed c.from_residual-in_err-push.result c.from_residual-in_err-push.ensures.1 (λ y e. out_of_memory e)

pub compound::statements-loop-statements-preserved : goal.compound::statements-loop-statements-preserved
compound::statements-loop-statements-preserved t c = (rw c.in_ok-push.ensures.items (sequencing_more c.args.left c.args.end _ _ _ _ _ _ _ c.loop-statements.invariant.0 c.in_ok-statement.ensures.whole c.in-Some.ensures.mark.1), omega (arith, c.loop-statements.invariant.1, c.in-Some.ensures.shorter, c.in_ok-statement.ensures.shorter))

pub compound::statements-returns-in-None-clause-whole : goal.compound::statements-returns-in-None-clause-whole
compound::statements-returns-in-None-clause-whole t c = rw (c.fitted.ensures, c.in_ok-push.ensures.items) (sequencing_ends c.args.left c.args.end _ _ _ _ _ c.loop-statements.invariant.0 c.in_ok-statement.ensures.whole c.in-None.ensures.mark)

pub compound::if_statement-returns-in_err-condition-clause-refused : goal.compound::if_statement-returns-in_err-condition-clause-refused
compound::if_statement-returns-in_err-condition-clause-refused t c = passed c.from_residual.result c.from_residual.ensures.1 (λ y e. rw e (if_refuses c.args.position c.args.left c.args.end _ _ (headed_first mark.Then IfBody c.args.left c.args.end _ _ if_heads c.in_err-condition.ensures.refused)))

pub compound::if_statement-returns-in_err-rest-clause-refused : goal.compound::if_statement-returns-in_err-rest-clause-refused
compound::if_statement-returns-in_err-rest-clause-refused t c = passed c.from_residual-in_err-rest.result c.from_residual-in_err-rest.ensures.1 (λ y e. rw e (if_refuses c.args.position c.args.left c.args.end _ _ (headed_mark mark.Then IfBody c.args.left c.args.end _ _ _ _ if_heads c.in_ok-condition.ensures.whole (c.in_err-rest.ensures.refused _))))

pub compound::if_statement-returns-in_err-then-clause-refused : goal.compound::if_statement-returns-in_err-then-clause-refused
compound::if_statement-returns-in_err-then-clause-refused t c = passed c.from_residual-in_err-then.result c.from_residual-in_err-then.ensures.1 (λ y e. rw e (if_refuses c.args.position c.args.left c.args.end _ _ (headed_rest mark.Then IfBody _ c.args.left c.args.end _ _ _ _ _ c.in_ok-condition.ensures.whole c.in_ok-rest.ensures.mark.1 (if_body c.args.left c.args.end _ _ c.in_err-then.ensures.refused))))

pub compound::if_statement-returns-in-None-clause-whole : goal.compound::if_statement-returns-in-None-clause-whole
compound::if_statement-returns-in-None-clause-whole t c = rw c.if_node.ensures (if_whole c.args.position _ c.args.left _ _ _ _ _ _ c.in_ok-condition.ensures.whole c.in_ok-rest.ensures.mark.1 c.in_ok-then.ensures.whole c.in-None.ensures.mark)

pub compound::if_statement-returns-in_err-otherwise-in-Some-clause-refused : goal.compound::if_statement-returns-in_err-otherwise-in-Some-clause-refused
compound::if_statement-returns-in_err-otherwise-in-Some-clause-refused t c = passed c.from_residual-in_err-otherwise-in-Some.result c.from_residual-in_err-otherwise-in-Some.ensures.1 (λ y e. rw e (if_refuses c.args.position c.args.left c.args.end _ _ (headed_rest mark.Then IfBody _ c.args.left c.args.end _ _ _ _ _ c.in_ok-condition.ensures.whole c.in_ok-rest.ensures.mark.1 (if_otherwise c.args.left c.args.end _ _ _ _ _ _ c.in_ok-then.ensures.whole c.in-Some.ensures.mark.1 c.in_err-otherwise-in-Some.ensures.refused))))

pub compound::if_statement-returns-in_ok-otherwise-in-Some-clause-whole : goal.compound::if_statement-returns-in_ok-otherwise-in-Some-clause-whole
compound::if_statement-returns-in_ok-otherwise-in-Some-clause-whole t c = rw c.if_else_node.ensures (if_else_whole c.args.position _ _ c.args.left _ _ _ _ _ _ _ _ _ c.in_ok-condition.ensures.whole c.in_ok-rest.ensures.mark.1 c.in_ok-then.ensures.whole c.in-Some.ensures.mark.1 c.in_ok-otherwise-in-Some.ensures.whole)

pub repetition::while_loop-returns-in_err-condition-clause-refused : goal.repetition::while_loop-returns-in_err-condition-clause-refused
repetition::while_loop-returns-in_err-condition-clause-refused t c = passed c.from_residual.result c.from_residual.ensures.1 (λ y e. rw e (while_refuses c.args.position c.args.left c.args.end _ _ (headed_first mark.Do_ SomeStatement c.args.left c.args.end _ _ do_heads c.in_err-condition.ensures.refused)))

pub repetition::while_loop-returns-in_err-rest-clause-refused : goal.repetition::while_loop-returns-in_err-rest-clause-refused
repetition::while_loop-returns-in_err-rest-clause-refused t c = passed c.from_residual-in_err-rest.result c.from_residual-in_err-rest.ensures.1 (λ y e. rw e (while_refuses c.args.position c.args.left c.args.end _ _ (headed_mark mark.Do_ SomeStatement c.args.left c.args.end _ _ _ _ do_heads c.in_ok-condition.ensures.whole (c.in_err-rest.ensures.refused _))))

pub repetition::while_loop-returns-in_err-body-clause-refused : goal.repetition::while_loop-returns-in_err-body-clause-refused
repetition::while_loop-returns-in_err-body-clause-refused t c = passed c.from_residual-in_err-body.result c.from_residual-in_err-body.ensures.1 (λ y e. rw e (while_refuses c.args.position c.args.left c.args.end _ _ (headed_rest mark.Do_ SomeStatement _ c.args.left c.args.end _ _ _ _ _ c.in_ok-condition.ensures.whole c.in_ok-rest.ensures.mark.1 c.in_err-body.ensures.refused)))

pub repetition::while_loop-returns-clause-whole : goal.repetition::while_loop-returns-clause-whole
repetition::while_loop-returns-clause-whole t c = rw c.while_node.ensures (while_whole c.args.position _ c.args.left _ _ _ _ _ _ c.in_ok-condition.ensures.whole c.in_ok-rest.ensures.mark.1 c.in_ok-body.ensures.whole)

pub repetition::repeat_loop-returns-in_err-body-clause-refused : goal.repetition::repeat_loop-returns-in_err-body-clause-refused
repetition::repeat_loop-returns-in_err-body-clause-refused t c = passed c.from_residual.result c.from_residual.ensures.1 (λ y e. rw e (repeat_body c.args.position c.args.left c.args.end _ _ c.in_err-body.ensures.refused))

pub repetition::repeat_loop-returns-in_err-rest-clause-refused : goal.repetition::repeat_loop-returns-in_err-rest-clause-refused
repetition::repeat_loop-returns-in_err-rest-clause-refused t c = passed c.from_residual-in_err-rest.result c.from_residual-in_err-rest.ensures.1 (λ y e. rw e (repeat_open c.args.position c.args.left c.args.end _ _ _ _ c.in_ok-body.ensures.whole (c.in_err-rest.ensures.refused _)))

pub repetition::repeat_loop-returns-in_err-condition-clause-refused : goal.repetition::repeat_loop-returns-in_err-condition-clause-refused
repetition::repeat_loop-returns-in_err-condition-clause-refused t c = passed c.from_residual-in_err-condition.result c.from_residual-in_err-condition.ensures.1 (λ y e. rw e (repeat_condition c.args.position _ c.args.left c.args.end _ _ _ _ _ c.in_ok-body.ensures.whole c.in_ok-rest.ensures.mark.1 c.in_err-condition.ensures.refused))

pub repetition::repeat_loop-returns-clause-whole : goal.repetition::repeat_loop-returns-clause-whole
repetition::repeat_loop-returns-clause-whole t c = rw c.repeat_node.ensures (repeat_whole c.args.position _ c.args.left _ _ _ _ _ _ c.in_ok-body.ensures.whole c.in_ok-rest.ensures.mark.1 c.in_ok-condition.ensures.whole)

pub repetition::for_loop-returns-in_err-variable-clause-refused : goal.repetition::for_loop-returns-in_err-variable-clause-refused
repetition::for_loop-returns-in_err-variable-clause-refused t c = passed c.from_residual.result c.from_residual.ensures.1 (λ y e. rw e (for_variable c.args.position c.args.left c.args.end _ _ (c.in_err-variable.ensures.refused _)))

pub repetition::for_loop-returns-in_err-first-in-Some-clause-refused : goal.repetition::for_loop-returns-in_err-first-in-Some-clause-refused
repetition::for_loop-returns-in_err-first-in-Some-clause-refused t c = passed c.from_residual-in_err-first-in-Some.result c.from_residual-in_err-first-in-Some.ensures.1 (λ y e. rw e (for_first c.args.position _ c.args.left c.args.end _ _ _ _ _ c.in_ok-variable.ensures.name c.in-Some.ensures.mark.1 c.in_err-first-in-Some.ensures.refused))

pub repetition::for_loop-returns-in_err-direction-in-Some-clause-refused : goal.repetition::for_loop-returns-in_err-direction-in-Some-clause-refused
repetition::for_loop-returns-in_err-direction-in-Some-clause-refused t c = passed c.from_residual-in_err-direction-in-Some.result c.from_residual-in_err-direction-in-Some.ensures.1 (λ y e. rw e (for_direction c.args.position _ c.args.left c.args.end _ _ _ _ _ _ _ c.in_ok-variable.ensures.name c.in-Some.ensures.mark.1 c.in_ok-first-in-Some.ensures.whole (c.in_err-direction-in-Some.ensures.refused _)))

pub repetition::for_loop-returns-in_err-last-in-Some-clause-refused : goal.repetition::for_loop-returns-in_err-last-in-Some-clause-refused
repetition::for_loop-returns-in_err-last-in-Some-clause-refused t c = passed c.from_residual-in_err-last-in-Some.result c.from_residual-in_err-last-in-Some.ensures.1 (λ y e. rw e (for_last c.args.position _ c.args.left c.args.end _ _ _ _ _ _ _ _ _ c.in_ok-variable.ensures.name c.in-Some.ensures.mark.1 c.in_ok-first-in-Some.ensures.whole c.in_ok-direction-in-Some.ensures.whole (headed_first mark.Do_ SomeStatement c.args.left c.args.end _ _ do_heads c.in_err-last-in-Some.ensures.refused)))

pub repetition::for_loop-returns-in_err-rest-in-Some-clause-refused : goal.repetition::for_loop-returns-in_err-rest-in-Some-clause-refused
repetition::for_loop-returns-in_err-rest-in-Some-clause-refused t c = passed c.from_residual-in_err-rest-in-Some.result c.from_residual-in_err-rest-in-Some.ensures.1 (λ y e. rw e (for_last c.args.position _ c.args.left c.args.end _ _ _ _ _ _ _ _ _ c.in_ok-variable.ensures.name c.in-Some.ensures.mark.1 c.in_ok-first-in-Some.ensures.whole c.in_ok-direction-in-Some.ensures.whole (headed_mark mark.Do_ SomeStatement c.args.left c.args.end _ _ _ _ do_heads c.in_ok-last-in-Some.ensures.whole (c.in_err-rest-in-Some.ensures.refused _))))

pub repetition::for_loop-returns-in_err-body-in-Some-clause-refused : goal.repetition::for_loop-returns-in_err-body-in-Some-clause-refused
repetition::for_loop-returns-in_err-body-in-Some-clause-refused t c = passed c.from_residual-in_err-body-in-Some.result c.from_residual-in_err-body-in-Some.ensures.1 (λ y e. rw e (for_last c.args.position _ c.args.left c.args.end _ _ _ _ _ _ _ _ _ c.in_ok-variable.ensures.name c.in-Some.ensures.mark.1 c.in_ok-first-in-Some.ensures.whole c.in_ok-direction-in-Some.ensures.whole (headed_rest mark.Do_ SomeStatement _ c.args.left c.args.end _ _ _ _ _ c.in_ok-last-in-Some.ensures.whole c.in_ok-rest-in-Some.ensures.mark.1 c.in_err-body-in-Some.ensures.refused)))

pub repetition::for_loop-returns-in_ok-body-in-Some-clause-whole : goal.repetition::for_loop-returns-in_ok-body-in-Some-clause-whole
repetition::for_loop-returns-in_ok-body-in-Some-clause-whole t c = rw c.for_node.ensures (for_to_whole c.args.position _ _ c.args.left _ _ _ _ _ _ _ _ _ _ _ _ _ c.in_ok-variable.ensures.name c.in-Some.ensures.mark.1 c.in_ok-first-in-Some.ensures.whole c.in_ok-direction-in-Some.ensures.whole c.in_ok-last-in-Some.ensures.whole c.in_ok-rest-in-Some.ensures.mark.1 c.in_ok-body-in-Some.ensures.whole)

pub repetition::for_loop-returns-in_err-after-in-None-clause-refused : goal.repetition::for_loop-returns-in_err-after-in-None-clause-refused
repetition::for_loop-returns-in_err-after-in-None-clause-refused t c = passed c.from_residual-in_err-after-in-None.result c.from_residual-in_err-after-in-None.ensures.1 (λ y e. rw e (for_in_missing c.args.position c.args.left c.args.end _ _ _ _ c.in_ok-variable.ensures.name c.in-None.ensures.mark (c.in_err-after-in-None.ensures.refused _)))

pub repetition::for_loop-returns-in_err-collection-in-None-clause-refused : goal.repetition::for_loop-returns-in_err-collection-in-None-clause-refused
repetition::for_loop-returns-in_err-collection-in-None-clause-refused t c = passed c.from_residual-in_err-collection-in-None.result c.from_residual-in_err-collection-in-None.ensures.1 (λ y e. rw e (for_in_refuses c.args.position _ c.args.left c.args.end _ _ _ _ _ c.in_ok-variable.ensures.name c.in_ok-after-in-None.ensures.mark.1 (headed_first mark.Do_ SomeStatement c.args.left c.args.end _ _ do_heads c.in_err-collection-in-None.ensures.refused)))

pub repetition::for_loop-returns-in_err-rest-in-None-clause-refused : goal.repetition::for_loop-returns-in_err-rest-in-None-clause-refused
repetition::for_loop-returns-in_err-rest-in-None-clause-refused t c = passed c.from_residual-in_err-rest-in-None.result c.from_residual-in_err-rest-in-None.ensures.1 (λ y e. rw e (for_in_refuses c.args.position _ c.args.left c.args.end _ _ _ _ _ c.in_ok-variable.ensures.name c.in_ok-after-in-None.ensures.mark.1 (headed_mark mark.Do_ SomeStatement c.args.left c.args.end _ _ _ _ do_heads c.in_ok-collection-in-None.ensures.whole (c.in_err-rest-in-None.ensures.refused _))))

pub repetition::for_loop-returns-in_err-body-in-None-clause-refused : goal.repetition::for_loop-returns-in_err-body-in-None-clause-refused
repetition::for_loop-returns-in_err-body-in-None-clause-refused t c = passed c.from_residual-in_err-body-in-None.result c.from_residual-in_err-body-in-None.ensures.1 (λ y e. rw e (for_in_refuses c.args.position _ c.args.left c.args.end _ _ _ _ _ c.in_ok-variable.ensures.name c.in_ok-after-in-None.ensures.mark.1 (headed_rest mark.Do_ SomeStatement _ c.args.left c.args.end _ _ _ _ _ c.in_ok-collection-in-None.ensures.whole c.in_ok-rest-in-None.ensures.mark.1 c.in_err-body-in-None.ensures.refused)))

pub repetition::for_loop-returns-in_ok-body-in-None-clause-whole : goal.repetition::for_loop-returns-in_ok-body-in-None-clause-whole
repetition::for_loop-returns-in_ok-body-in-None-clause-whole t c = rw c.for_in_node.ensures (for_in_whole c.args.position _ _ c.args.left _ _ _ _ _ _ _ _ _ c.in_ok-variable.ensures.name c.in_ok-after-in-None.ensures.mark.1 c.in_ok-collection-in-None.ensures.whole c.in_ok-rest-in-None.ensures.mark.1 c.in_ok-body-in-None.ensures.whole)

pub branch::case_statement-returns-in_err-selector-clause-refused : goal.branch::case_statement-returns-in_err-selector-clause-refused
branch::case_statement-returns-in_err-selector-clause-refused t c = passed c.from_residual.result c.from_residual.ensures.1 (λ y e. rw e (case_refuses c.args.position c.args.left c.args.end _ _ (headed_first mark.Of CaseBranches c.args.left c.args.end _ _ of_heads c.in_err-selector.ensures.refused)))

pub branch::case_statement-returns-in_err-rest-clause-refused : goal.branch::case_statement-returns-in_err-rest-clause-refused
branch::case_statement-returns-in_err-rest-clause-refused t c = passed c.from_residual-in_err-rest.result c.from_residual-in_err-rest.ensures.1 (λ y e. rw e (case_refuses c.args.position c.args.left c.args.end _ _ (headed_mark mark.Of CaseBranches c.args.left c.args.end _ _ _ _ of_heads c.in_ok-selector.ensures.whole (c.in_err-rest.ensures.refused _))))

pub branch::case_statement-returns-in_err-branches-clause-refused : goal.branch::case_statement-returns-in_err-branches-clause-refused
branch::case_statement-returns-in_err-branches-clause-refused t c = passed c.from_residual-in_err-branches.result c.from_residual-in_err-branches.ensures.1 (λ y e. rw e (case_refuses c.args.position c.args.left c.args.end _ _ (headed_rest mark.Of CaseBranches _ c.args.left c.args.end _ _ _ _ _ c.in_ok-selector.ensures.whole c.in_ok-rest.ensures.mark.1 (list_first SomeBranches fits_branches c.args.left c.args.end _ _ c.in_err-branches.ensures.refused))))

pub branch::case_statement-returns-in_err-rest-in-None-clause-refused : goal.branch::case_statement-returns-in_err-rest-in-None-clause-refused
branch::case_statement-returns-in_err-rest-in-None-clause-refused t c = passed c.from_residual-in_err-rest-in-None.result c.from_residual-in_err-rest-in-None.ensures.1 (λ y e. rw e (case_refuses c.args.position c.args.left c.args.end _ _ (headed_rest mark.Of CaseBranches _ c.args.left c.args.end _ _ _ _ _ c.in_ok-selector.ensures.whole c.in_ok-rest.ensures.mark.1 (list_end SomeBranches c.args.left c.args.end _ _ _ _ known_branches c.in_ok-branches.ensures.whole c.in-None.ensures.mark (c.in_err-rest-in-None.ensures.refused _)))))

pub branch::case_statement-returns-in_ok-rest-in-None-clause-whole : goal.branch::case_statement-returns-in_ok-rest-in-None-clause-whole
branch::case_statement-returns-in_ok-rest-in-None-clause-whole t c = rw c.case_node.ensures (case_whole c.args.position _ _ c.args.left _ _ _ _ _ _ _ c.in_ok-selector.ensures.whole c.in_ok-rest.ensures.mark.1 c.in_ok-branches.ensures.whole c.in_ok-rest-in-None.ensures.mark.1)

pub branch::case_statement-returns-in_err-otherwise-in-Some-clause-refused : goal.branch::case_statement-returns-in_err-otherwise-in-Some-clause-refused
branch::case_statement-returns-in_err-otherwise-in-Some-clause-refused t c = passed c.from_residual-in_err-otherwise-in-Some.result c.from_residual-in_err-otherwise-in-Some.ensures.1 (λ y e. rw e (case_refuses c.args.position c.args.left c.args.end _ _ (headed_rest mark.Of CaseBranches _ c.args.left c.args.end _ _ _ _ _ c.in_ok-selector.ensures.whole c.in_ok-rest.ensures.mark.1 (list_else SomeBranches _ c.args.left c.args.end _ _ _ _ _ known_branches c.in_ok-branches.ensures.whole c.in-Some.ensures.mark.1 (end_body c.args.left c.args.end _ _ c.in_err-otherwise-in-Some.ensures.refused)))))

pub branch::case_statement-returns-in_err-rest-in-Some-clause-refused : goal.branch::case_statement-returns-in_err-rest-in-Some-clause-refused
branch::case_statement-returns-in_err-rest-in-Some-clause-refused t c = passed c.from_residual-in_err-rest-in-Some.result c.from_residual-in_err-rest-in-Some.ensures.1 (λ y e. rw e (case_refuses c.args.position c.args.left c.args.end _ _ (headed_rest mark.Of CaseBranches _ c.args.left c.args.end _ _ _ _ _ c.in_ok-selector.ensures.whole c.in_ok-rest.ensures.mark.1 (list_else SomeBranches _ c.args.left c.args.end _ _ _ _ _ known_branches c.in_ok-branches.ensures.whole c.in-Some.ensures.mark.1 (end_open c.args.left c.args.end _ _ _ _ c.in_ok-otherwise-in-Some.ensures.whole (c.in_err-rest-in-Some.ensures.refused _))))))

pub branch::case_statement-returns-in_ok-rest-in-Some-clause-whole : goal.branch::case_statement-returns-in_ok-rest-in-Some-clause-whole
branch::case_statement-returns-in_ok-rest-in-Some-clause-whole t c = rw c.case_else_node.ensures (case_else_whole c.args.position _ _ _ c.args.left _ _ _ _ _ _ _ _ _ _ c.in_ok-selector.ensures.whole c.in_ok-rest.ensures.mark.1 c.in_ok-branches.ensures.whole c.in-Some.ensures.mark.1 c.in_ok-otherwise-in-Some.ensures.whole c.in_ok-rest-in-Some.ensures.mark.1)

pub branch::branches-returns-then-ends_list-clause-whole : goal.branch::branches-returns-then-ends_list-clause-whole
branch::branches-returns-then-ends_list-clause-whole t c = rw c.fitted.ensures (led_ends branches_list c.args.left c.args.end _ _ _ c.loop-alloc.invariant.0 (sym c.ends_list.ensures ∙ c.if-ends_list.true))

pub branch::branches-returns-in_err-after-clause-refused : goal.branch::branches-returns-in_err-after-clause-refused
branch::branches-returns-in_err-after-clause-refused t c = passed c.from_residual.result c.from_residual.ensures.1 (λ y e. rw e (led_lead branches_list c.args.left c.args.end _ _ _ _ c.loop-alloc.invariant.0 (sym c.ends_list.ensures ∙ c.if-ends_list.false) c.in_err-after.ensures.refused))

pub branch::branches-returns-in_err-body-clause-refused : goal.branch::branches-returns-in_err-body-clause-refused
branch::branches-returns-in_err-body-clause-refused t c = passed c.from_residual-in_err-body.result c.from_residual-in_err-body.ensures.1 (λ y e. rw e (led_body branches_list c.args.left c.args.end _ _ _ _ _ _ c.loop-alloc.invariant.0 (sym c.ends_list.ensures ∙ c.if-ends_list.false) c.in_ok-after.ensures.whole c.in_err-body.ensures.refused))

pub branch::branches-returns-in_err-push-clause-refused : goal.branch::branches-returns-in_err-push-clause-refused
branch::branches-returns-in_err-push-clause-refused t c = passed c.from_residual-in_err-push.result c.from_residual-in_err-push.ensures.1 (λ y e. out_of_memory e)

pub branch::branches-loop-alloc-preserved : goal.branch::branches-loop-alloc-preserved
branch::branches-loop-alloc-preserved t c = (rw c.in_ok-push.ensures.items (led_more branches_list c.args.left c.args.end _ _ _ _ _ _ _ _ c.loop-alloc.invariant.0 (sym c.ends_list.ensures ∙ c.if-ends_list.false) (rw c.fitted-labels.ensures c.in_ok-after.ensures.whole) c.in_ok-body.ensures.whole c.in-Some.ensures.mark.1), omega (arith, c.loop-alloc.invariant.1, c.in-Some.ensures.shorter, c.in_ok-body.ensures.shorter, c.in_ok-after.ensures.shorter))

pub branch::branches-returns-then-ends_list-2-clause-whole : goal.branch::branches-returns-then-ends_list-2-clause-whole
branch::branches-returns-then-ends_list-2-clause-whole t c = rw (c.fitted-then-ends_list-2.ensures, c.in_ok-push.ensures.items) (led_last branches_list c.args.left c.args.end _ _ _ _ _ _ c.loop-alloc.invariant.0 (rw c.fitted-labels.ensures c.in_ok-after.ensures.whole) c.in_ok-body.ensures.whole (sym c.ends_list-in-None.ensures ∙ c.if-ends_list-2.true))

pub branch::branches-returns-in-None-clause-refused : goal.branch::branches-returns-in-None-clause-refused
branch::branches-returns-in-None-clause-refused t c = led_stops branches_list c.args.left c.args.end _ _ _ _ _ _ _ _ c.loop-alloc.invariant.0 (sym c.ends_list.ensures ∙ c.if-ends_list.false) c.in_ok-after.ensures.whole c.in_ok-body.ensures.whole c.in-None.ensures.mark (sym c.ends_list-in-None.ensures ∙ c.if-ends_list-2.false) c.syntax.ensures

pub handler::handlers-returns-then-ends_list-clause-whole : goal.handler::handlers-returns-then-ends_list-clause-whole
handler::handlers-returns-then-ends_list-clause-whole t c = rw c.fitted.ensures (led_ends handlers_list c.args.left c.args.end _ _ _ c.loop-alloc.invariant.0 (sym c.ends_list.ensures ∙ c.if-ends_list.true))

pub handler::handlers-returns-in_err-variable-clause-refused : goal.handler::handlers-returns-in_err-variable-clause-refused
handler::handlers-returns-in_err-variable-clause-refused t c = passed c.from_residual.result c.from_residual.ensures.1 (λ y e. rw e (led_lead handlers_list c.args.left c.args.end _ _ _ _ c.loop-alloc.invariant.0 (sym c.ends_list.ensures ∙ c.if-ends_list.false) (c.in_err-variable.ensures.refused _)))

pub handler::handlers-returns-in_err-behind-clause-refused : goal.handler::handlers-returns-in_err-behind-clause-refused
handler::handlers-returns-in_err-behind-clause-refused t c = passed c.from_residual-in_err-behind.result c.from_residual-in_err-behind.ensures.1 (λ y e. rw e (made_err c.statement_at.result _ c.in_err-behind.ensures c.statement_at.ensures.refused (λ e h. out_of_memory h) (λ e h. led_body handlers_list c.args.left c.args.end (_, _) _ _ _ _ _ c.loop-alloc.invariant.0 (sym c.ends_list.ensures ∙ c.if-ends_list.false) c.in_ok-variable.ensures.whole h)))

pub handler::handlers-loop-alloc-smaller : goal.handler::handlers-loop-alloc-smaller
handler::handlers-loop-alloc-smaller t c = made_as c.statement_at.result _ c.in_ok-behind.ensures c.statement_at.ensures.shorter (λ f h made. let same = made.1 in omega (arith, h, c.in_ok-variable.ensures.shorter, rw same at c.in-Some.ensures.shorter))

pub handler::handlers-loop-alloc-preserved : goal.handler::handlers-loop-alloc-preserved
handler::handlers-loop-alloc-preserved t c = made_as c.statement_at.result _ c.in_ok-behind.ensures (both_ok _ _ c.statement_at.result c.statement_at.ensures.whole c.statement_at.ensures.shorter) (λ f h made. (rw made.0 (led_more handlers_list c.args.left c.args.end _ _ _ _ _ _ _ _ c.loop-alloc.invariant.0 (sym c.ends_list.ensures ∙ c.if-ends_list.false) c.in_ok-variable.ensures.whole h.0 (rw made.1 at c.in-Some.ensures.mark.1)), omega (arith, c.loop-alloc.invariant.1, rw made.1 at c.in-Some.ensures.shorter, h.1, c.in_ok-variable.ensures.shorter)))

pub handler::handlers-returns-then-ends_list-2-clause-whole : goal.handler::handlers-returns-then-ends_list-2-clause-whole
handler::handlers-returns-then-ends_list-2-clause-whole t c = made_as c.statement_at.result _ c.in_ok-behind.ensures c.statement_at.ensures.whole (λ f h made. rw (c.fitted-then-ends_list-2.ensures, made.0) (led_last handlers_list c.args.left c.args.end _ _ _ _ _ _ c.loop-alloc.invariant.0 c.in_ok-variable.ensures.whole (rw (sym made.1) at h) (sym c.ends_list-in-None.ensures ∙ c.if-ends_list-2.true)))

pub handler::handlers-returns-then-ends_list-2-clause-shorter : goal.handler::handlers-returns-then-ends_list-2-clause-shorter
handler::handlers-returns-then-ends_list-2-clause-shorter t c = made_as c.statement_at.result _ c.in_ok-behind.ensures c.statement_at.ensures.shorter (λ f h made. let same = made.1 in rw same (omega (arith, h, c.loop-alloc.invariant.1, c.in_ok-variable.ensures.shorter)))

pub handler::handlers-returns-in-None-clause-refused : goal.handler::handlers-returns-in-None-clause-refused
handler::handlers-returns-in-None-clause-refused t c = made_as c.statement_at.result _ c.in_ok-behind.ensures c.statement_at.ensures.whole (λ f h made. led_stops handlers_list c.args.left c.args.end (_, _) _ _ _ _ _ _ _ c.loop-alloc.invariant.0 (sym c.ends_list.ensures ∙ c.if-ends_list.false) c.in_ok-variable.ensures.whole h (rw made.1 at c.in-None.ensures.mark) (sym (rw made.1 at c.ends_list-in-None.ensures) ∙ c.if-ends_list-2.false) (rw made.1 at c.syntax.ensures))

pub branch::branches-elements-requires : goal.branch::branches-elements-requires
branch::branches-elements-requires t c = closes_labels

pub handler::try_statement-returns-in_err-body-clause-refused : goal.handler::try_statement-returns-in_err-body-clause-refused
handler::try_statement-returns-in_err-body-clause-refused t c = passed c.from_residual.result c.from_residual.ensures.1 (λ y e. rw e (try_body c.args.position c.args.left c.args.end _ _ c.in_err-body.ensures.refused))

pub handler::try_statement-returns-in_err-finalization-in-Some-clause-refused : goal.handler::try_statement-returns-in_err-finalization-in-Some-clause-refused
handler::try_statement-returns-in_err-finalization-in-Some-clause-refused t c = passed c.from_residual-in_err-finalization-in-Some.result c.from_residual-in_err-finalization-in-Some.ensures.1 (λ y e. rw e (try_finally_refuses c.args.position _ c.args.left c.args.end _ _ _ _ _ c.in_ok-body.ensures.whole c.in-Some.ensures.mark.1 (end_body c.args.left c.args.end _ _ c.in_err-finalization-in-Some.ensures.refused)))

pub handler::try_statement-returns-in_err-rest-in-Some-clause-refused : goal.handler::try_statement-returns-in_err-rest-in-Some-clause-refused
handler::try_statement-returns-in_err-rest-in-Some-clause-refused t c = passed c.from_residual-in_err-rest-in-Some.result c.from_residual-in_err-rest-in-Some.ensures.1 (λ y e. rw e (try_finally_refuses c.args.position _ c.args.left c.args.end _ _ _ _ _ c.in_ok-body.ensures.whole c.in-Some.ensures.mark.1 (end_open c.args.left c.args.end _ _ _ _ c.in_ok-finalization-in-Some.ensures.whole (c.in_err-rest-in-Some.ensures.refused _))))

pub handler::try_statement-returns-in_ok-rest-in-Some-clause-whole : goal.handler::try_statement-returns-in_ok-rest-in-Some-clause-whole
handler::try_statement-returns-in_ok-rest-in-Some-clause-whole t c = rw c.try_node.ensures (try_finally_whole c.args.position _ _ c.args.left _ _ _ _ _ _ _ c.in_ok-body.ensures.whole c.in-Some.ensures.mark.1 c.in_ok-finalization-in-Some.ensures.whole c.in_ok-rest-in-Some.ensures.mark.1)

pub handler::try_statement-returns-in_err-after-in-None-clause-refused : goal.handler::try_statement-returns-in_err-after-in-None-clause-refused
handler::try_statement-returns-in_err-after-in-None-clause-refused t c = passed c.from_residual-in_err-after-in-None.result c.from_residual-in_err-after-in-None.ensures.1 (λ y e. rw e (try_except_missing c.args.position c.args.left c.args.end _ _ _ _ c.in_ok-body.ensures.whole c.in-None.ensures.mark (c.in_err-after-in-None.ensures.refused _)))

pub handler::try_statement-returns-in_err-others-in-None-clause-refused : goal.handler::try_statement-returns-in_err-others-in-None-clause-refused
handler::try_statement-returns-in_err-others-in-None-clause-refused t c = passed c.from_residual-in_err-others-in-None.result c.from_residual-in_err-others-in-None.ensures.1 (λ y e. rw e (try_except_refuses c.args.position _ c.args.left c.args.end _ _ _ _ _ c.in_ok-body.ensures.whole c.in_ok-after-in-None.ensures.mark.1 c.in_err-others-in-None.ensures.refused))

pub handler::try_statement-returns-in_ok-others-in-None-clause-whole : goal.handler::try_statement-returns-in_ok-others-in-None-clause-whole
handler::try_statement-returns-in_ok-others-in-None-clause-whole t c = rw c.try_node-in-None.ensures (try_except_whole c.args.position _ c.args.left _ _ _ _ _ _ c.in_ok-body.ensures.whole c.in_ok-after-in-None.ensures.mark.1 c.in_ok-others-in-None.ensures.whole)

pub handler::except_part-returns-in_err-handler-clause-refused : goal.handler::except_part-returns-in_err-handler-clause-refused
handler::except_part-returns-in_err-handler-clause-refused t c = passed c.from_residual.result c.from_residual.ensures.1 (λ y e. rw e (except_statements c.args.left c.args.end _ _ (sym c.begins_handler.ensures ∙ c.if-not-begins_handler.true) (end_body c.args.left c.args.end _ _ c.in_err-handler.ensures.refused)))

pub handler::except_part-returns-in_err-rest-clause-refused : goal.handler::except_part-returns-in_err-rest-clause-refused
handler::except_part-returns-in_err-rest-clause-refused t c = passed c.from_residual-in_err-rest.result c.from_residual-in_err-rest.ensures.1 (λ y e. rw e (except_statements c.args.left c.args.end _ _ (sym c.begins_handler.ensures ∙ c.if-not-begins_handler.true) (end_open c.args.left c.args.end _ _ _ _ c.in_ok-handler.ensures.whole (c.in_err-rest.ensures.refused _))))

pub handler::except_part-returns-then-not-begins_handler-clause-whole : goal.handler::except_part-returns-then-not-begins_handler-clause-whole
handler::except_part-returns-then-not-begins_handler-clause-whole t c = except_whole _ c.args.left _ _ _ _ c.in_ok-handler.ensures.whole c.in_ok-rest.ensures.mark.1

pub handler::except_part-returns-in_err-handlers-clause-refused : goal.handler::except_part-returns-in_err-handlers-clause-refused
handler::except_part-returns-in_err-handlers-clause-refused t c = passed c.from_residual-in_err-handlers.result c.from_residual-in_err-handlers.ensures.1 (λ y e. rw e (except_handlers c.args.left c.args.end _ _ (sym c.begins_handler.ensures ∙ c.if-not-begins_handler.false) (list_first SomeHandlers fits_handlers c.args.left c.args.end _ _ c.in_err-handlers.ensures.refused)))

pub handler::except_part-returns-in_err-rest-in-None-clause-refused : goal.handler::except_part-returns-in_err-rest-in-None-clause-refused
handler::except_part-returns-in_err-rest-in-None-clause-refused t c = passed c.from_residual-in_err-rest-in-None.result c.from_residual-in_err-rest-in-None.ensures.1 (λ y e. rw e (except_handlers c.args.left c.args.end _ _ (sym c.begins_handler.ensures ∙ c.if-not-begins_handler.false) (list_end SomeHandlers c.args.left c.args.end _ _ _ _ known_handlers c.in_ok-handlers.ensures.whole c.in-None.ensures.mark (c.in_err-rest-in-None.ensures.refused _))))

pub handler::except_part-returns-in_ok-rest-in-None-clause-whole : goal.handler::except_part-returns-in_ok-rest-in-None-clause-whole
handler::except_part-returns-in_ok-rest-in-None-clause-whole t c = except_on_whole _ c.args.left _ _ _ _ (sym c.begins_handler.ensures ∙ c.if-not-begins_handler.false) c.in_ok-handlers.ensures.whole c.in_ok-rest-in-None.ensures.mark.1

pub handler::except_part-returns-in_err-otherwise-in-Some-clause-refused : goal.handler::except_part-returns-in_err-otherwise-in-Some-clause-refused
handler::except_part-returns-in_err-otherwise-in-Some-clause-refused t c = passed c.from_residual-in_err-otherwise-in-Some.result c.from_residual-in_err-otherwise-in-Some.ensures.1 (λ y e. rw e (except_handlers c.args.left c.args.end _ _ (sym c.begins_handler.ensures ∙ c.if-not-begins_handler.false) (list_else SomeHandlers _ c.args.left c.args.end _ _ _ _ _ known_handlers c.in_ok-handlers.ensures.whole c.in-Some.ensures.mark.1 (end_body c.args.left c.args.end _ _ c.in_err-otherwise-in-Some.ensures.refused))))

pub handler::except_part-returns-in_err-rest-in-Some-clause-refused : goal.handler::except_part-returns-in_err-rest-in-Some-clause-refused
handler::except_part-returns-in_err-rest-in-Some-clause-refused t c = passed c.from_residual-in_err-rest-in-Some.result c.from_residual-in_err-rest-in-Some.ensures.1 (λ y e. rw e (except_handlers c.args.left c.args.end _ _ (sym c.begins_handler.ensures ∙ c.if-not-begins_handler.false) (list_else SomeHandlers _ c.args.left c.args.end _ _ _ _ _ known_handlers c.in_ok-handlers.ensures.whole c.in-Some.ensures.mark.1 (end_open c.args.left c.args.end _ _ _ _ c.in_ok-otherwise-in-Some.ensures.whole (c.in_err-rest-in-Some.ensures.refused _)))))

pub handler::except_part-returns-in_ok-rest-in-Some-clause-whole : goal.handler::except_part-returns-in_ok-rest-in-Some-clause-whole
handler::except_part-returns-in_ok-rest-in-Some-clause-whole t c = except_else_whole _ _ c.args.left _ _ _ _ _ _ _ (sym c.begins_handler.ensures ∙ c.if-not-begins_handler.false) c.in_ok-handlers.ensures.whole c.in-Some.ensures.mark.1 c.in_ok-otherwise-in-Some.ensures.whole c.in_ok-rest-in-Some.ensures.mark.1
