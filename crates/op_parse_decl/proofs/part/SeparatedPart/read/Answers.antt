use Rattle.std.proofs.Common.{arith}
use Rattle.op_parse_code.proofs.Errors.{passed}
use Rattle.op_parse_code.specs.Refusal.{out_of_memory}
use Rattle.op_parse_decl.specs.Refusal.{by_grammar}
use Rattle.op_parse_decl.proofs.Combining.{repeating_none, separated_item, separated_more, separated_ends}
use Rattle.op_parse_decl.proofs.part.SeparatedPart.read.Goals as goal

pub loop-items-init : goal.loop-items-init
loop-items-init g c = (rw c.new-items.ensures.items (repeating_none _ _ _ _ _ _), omega arith)

pub returns-in_err-part-clause-refused : goal.returns-in_err-part-clause-refused
returns-in_err-part-clause-refused g c = passed c.from_residual.result c.from_residual.ensures.1 (λ y e. rw e (separated_item _ _ _ _ _ _ _ _ _ c.loop-items.invariant.0 c.in_err-part.ensures.refused))

pub returns-in_err-push-clause-refused : goal.returns-in_err-push-clause-refused
returns-in_err-push-clause-refused g c = passed c.from_residual-in_err-push.result c.from_residual-in_err-push.ensures.1 (λ y e. by_grammar (out_of_memory e))

pub loop-items-preserved : goal.loop-items-preserved
loop-items-preserved g c = (rw c.in_ok-push.ensures.items (separated_more _ _ _ _ _ _ _ _ _ _ _ _ g.met.A.Part.known c.loop-items.invariant.0 c.in_ok-part.ensures.whole (rw c.sign.ensures at c.in-Some.ensures.mark.1)), omega (arith, c.loop-items.invariant.1, c.in-Some.ensures.shorter, c.in_ok-part.ensures.shorter))

pub returns-in-None-clause-whole : goal.returns-in-None-clause-whole
returns-in-None-clause-whole g c = rw (c.fitted-items.ensures, c.in_ok-push.ensures.items) (separated_ends _ _ _ _ _ _ _ _ _ _ c.loop-items.invariant.0 c.in_ok-part.ensures.whole (rw c.sign.ensures at c.in-None.ensures.mark))
