use Rattle.std.proofs.Common.{sym, ◌∙◌, arith}
use Rattle.op_parse_code.proofs.Calls.{front_begins, front_not}
use Rattle.op_parse_code.proofs.Errors.{passed}
use Rattle.op_parse_code.specs.Refusal.{out_of_memory}
use Rattle.op_parse_decl.specs.Refusal.{by_grammar}
use Rattle.op_parse_decl.proofs.Combining.{repeating_none, repeating_item, repeating_more, repeating_ends}
use Rattle.op_parse_decl.proofs.part.RepeatedPart.read.Goals as goal

pub loop-setting-init : goal.loop-setting-init
loop-setting-init g c = (rw c.new-items.ensures.items (repeating_none _ _ _ _ _ _), omega arith)

pub returns-in_err-item-clause-refused : goal.returns-in_err-item-clause-refused
returns-in_err-item-clause-refused g c = passed c.from_residual.result c.from_residual.ensures.1 (λ y e. rw e (repeating_item _ _ _ _ _ _ _ _ _ c.loop-setting.invariant.0 (front_begins _ _ (sym c.begins.ensures ∙ c.loop-setting-test.true)) c.in_err-item.ensures.refused))

pub returns-in_err-push-clause-refused : goal.returns-in_err-push-clause-refused
returns-in_err-push-clause-refused g c = passed c.from_residual-in_err-push.result c.from_residual-in_err-push.ensures.1 (λ y e. by_grammar (out_of_memory e))

pub loop-setting-preserved : goal.loop-setting-preserved
loop-setting-preserved g c = (rw c.in_ok-push.ensures.items (repeating_more _ _ _ _ _ _ _ _ _ _ g.met.A.Part.known c.loop-setting.invariant.0 (front_begins _ _ (sym c.begins.ensures ∙ c.loop-setting-test.true)) c.in_ok-item.ensures.whole), omega (arith, c.loop-setting.invariant.1, c.in_ok-item.ensures.shorter, g.met.A.Item.moves))

pub returns-clause-whole : goal.returns-clause-whole
returns-clause-whole g c = rw c.fitted-items.ensures (repeating_ends _ _ _ _ _ _ _ _ c.loop-setting.invariant.0 (front_not _ _ (sym c.begins.ensures ∙ c.loop-setting-test.false)))
