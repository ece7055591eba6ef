use Rattle.std.proofs.Common.{sym, ◌∙◌, arith}
use Rattle.op_parse_code.proofs.Calls.{front_begins, front_not}
use Rattle.op_parse_code.proofs.Errors.{passed}
use Rattle.op_parse_code.specs.Refusal.{out_of_memory}
use Rattle.op_parse_decl.specs.Refusal.{by_grammar}
use Rattle.op_parse_decl.proofs.Begins.{block_opens, block_refused, made_refused}
use Rattle.op_parse_decl.proofs.Combining.{repeating_none, repeating_item, repeating_more, repeating_ends, chosen_refused, otherwise_refused, too_deep, deeper_refused, first, after}
use Rattle.op_parse_decl.proofs.Routines.{row_whole, routine_whole, forward_refused, forward_whole, body_declarations, body_block, body_whole}
use Rattle.op_parse_decl.specs.Blocks.{as_all, known_block_declaration}
use Rattle.op_parse_decl.specs.Declarations.{BlockDeclaration, block_data}
use Rattle.op_parse_decl.specs.InterfaceParts.{known_method}
use Rattle.op_parse_decl.proofs.routine.+declaration.Goals as goal

pub declarations-loop-setting-init : goal.declarations-loop-setting-init
declarations-loop-setting-init t c = (rw c.new-items.ensures.items (repeating_none _ _ _ _ _ _), omega arith)

pub declarations-returns-in_err-item-clause-refused : goal.declarations-returns-in_err-item-clause-refused
declarations-returns-in_err-item-clause-refused t c = passed c.from_residual.result c.from_residual.ensures.1 (λ y e. rw e (made_refused (as_all BlockDeclaration) (λ d ks q x. block_opens x) (repeating_item _ _ _ _ _ _ _ _ _ c.loop-setting.invariant.0 (front_begins _ _ (sym c.begins.ensures ∙ c.loop-setting-test.true)) c.in_err-item.ensures.refused)))

pub declarations-returns-in_err-push-clause-refused : goal.declarations-returns-in_err-push-clause-refused
declarations-returns-in_err-push-clause-refused t c = passed c.from_residual-in_err-push.result c.from_residual-in_err-push.ensures.1 (λ y e. by_grammar (out_of_memory e))

pub declarations-loop-setting-preserved : goal.declarations-loop-setting-preserved
declarations-loop-setting-preserved t c = (rw c.in_ok-push.ensures.items (repeating_more _ _ _ _ _ _ _ _ _ _ known_block_declaration c.loop-setting.invariant.0 (front_begins _ _ (sym c.begins.ensures ∙ c.loop-setting-test.true)) c.in_ok-item.ensures.whole), omega (arith, c.loop-setting.invariant.1, c.in_ok-item.ensures.shorter))

pub declarations-returns-clause-whole : goal.declarations-returns-clause-whole
declarations-returns-clause-whole t c = row_whole _ (repeating_ends _ _ _ _ _ _ _ _ c.loop-setting.invariant.0 (front_not _ _ (sym c.begins.ensures ∙ c.loop-setting-test.false)))

pub declaration-returns-in_err-data-clause-refused : goal.declaration-returns-in_err-data-clause-refused
declaration-returns-in_err-data-clause-refused t c = passed c.from_residual.result c.from_residual.ensures.1 (λ y e. rw e (block_refused (front_begins _ _ c.requires.begins) (chosen_refused (front_begins _ _ (sym c.begins.ensures ∙ c.if-begins.true)) c.in_err-data.ensures.refused)))

pub declaration-returns-then-begins-clause-whole : goal.declaration-returns-then-begins-clause-whole
declaration-returns-then-begins-clause-whole t c = block_data c.in_ok-data.ensures.whole

pub declaration-returns-in_err-left-clause-refused : goal.declaration-returns-in_err-left-clause-refused
declaration-returns-in_err-left-clause-refused t c = passed c.from_residual-in_err-left.result c.from_residual-in_err-left.ensures.1 (λ y e. rw e (block_refused (front_begins _ _ c.requires.begins) (otherwise_refused (front_not _ _ (sym c.begins.ensures ∙ c.if-begins.false)) (too_deep c.in_err-left.ensures.refused.0 c.in_err-left.ensures.refused.1))))

pub declaration-returns-in_err-method-clause-refused : goal.declaration-returns-in_err-method-clause-refused
declaration-returns-in_err-method-clause-refused t c = passed c.from_residual-in_err-method.result c.from_residual-in_err-method.ensures.1 (λ y e. rw e (block_refused (front_begins _ _ c.requires.begins) (otherwise_refused (front_not _ _ (sym c.begins.ensures ∙ c.if-begins.false)) (deeper_refused c.in_ok-left.ensures.inside (first c.in_err-method.ensures.refused)))))

pub declaration-returns-in_err-body-clause-refused : goal.declaration-returns-in_err-body-clause-refused
declaration-returns-in_err-body-clause-refused t c = passed c.from_residual-in_err-body.result c.from_residual-in_err-body.ensures.1 (λ y e. rw e (block_refused (front_begins _ _ c.requires.begins) (otherwise_refused (front_not _ _ (sym c.begins.ensures ∙ c.if-begins.false)) (deeper_refused c.in_ok-left.ensures.inside (after known_method c.in_ok-method.ensures.whole c.in_err-body.ensures.refused)))))

pub declaration-returns-clause-whole : goal.declaration-returns-clause-whole
declaration-returns-clause-whole t c = routine_whole c.in_ok-left.ensures.inside c.in_ok-method.ensures.whole c.in_ok-body.ensures.whole

pub body-returns-in_err-rest-clause-refused : goal.body-returns-in_err-rest-clause-refused
body-returns-in_err-rest-clause-refused t c = passed c.from_residual.result c.from_residual.ensures.1 (λ y e. rw e (forward_refused c.in-Some.ensures.word c.in_err-rest.ensures.refused))

pub body-returns-in-Some-clause-whole : goal.body-returns-in-Some-clause-whole
body-returns-in-Some-clause-whole t c = forward_whole c.in-Some.ensures.word c.in_ok-rest.ensures.whole

pub body-returns-in_err-declarations-clause-refused : goal.body-returns-in_err-declarations-clause-refused
body-returns-in_err-declarations-clause-refused t c = passed c.from_residual-in_err-declarations.result c.from_residual-in_err-declarations.ensures.1 (λ y e. rw e (body_declarations c.in_default.ensures.word c.in_err-declarations.ensures.refused))

pub body-returns-in_err-statements-clause-refused : goal.body-returns-in_err-statements-clause-refused
body-returns-in_err-statements-clause-refused t c = passed c.from_residual-in_err-statements.result c.from_residual-in_err-statements.ensures.1 (λ y e. rw e (body_block _ c.in_default.ensures.word c.in_ok-declarations.ensures.whole c.in_err-statements.ensures.refused))

pub body-returns-clause-whole : goal.body-returns-clause-whole
body-returns-clause-whole t c = rw c.block_body.ensures (body_whole c.in_ok-declarations.ensures.whole c.in_ok-statements.ensures.whole)

pub declarations-declaration-requires : goal.declarations-declaration-requires
declarations-declaration-requires t c = (omega arith, sym c.begins.ensures ∙ c.loop-setting-test.true)
