use Rattle.std.proofs.Common.{arith}
use Rattle.op_parse_code.proofs.Errors.{passed}
use Rattle.op_parse_code.specs.Refusal.{out_of_memory}
use Rattle.op_parse_decl.proofs.NameLists.{naming_none, naming_item, naming_more, naming_ends}
use Rattle.op_parse_decl.proofs.names.names.Goals as goal

pub loop-names-init : goal.loop-names-init
loop-names-init c = (rw c.new-names.ensures.items (naming_none _), omega arith)

pub returns-in_err-name-clause-refused : goal.returns-in_err-name-clause-refused
returns-in_err-name-clause-refused c = passed c.from_residual.result c.from_residual.ensures.1 (λ y e. λ d. rw e (naming_item d c.args.setting.end _ _ _ _ c.loop-names.invariant.0 (c.in_err-name.ensures.refused d)))

pub returns-in_err-push-clause-refused : goal.returns-in_err-push-clause-refused
returns-in_err-push-clause-refused c = passed c.from_residual-in_err-push.result c.from_residual-in_err-push.ensures.1 (λ y e. λ d. out_of_memory e)

pub loop-names-preserved : goal.loop-names-preserved
loop-names-preserved c = (rw c.in_ok-push.ensures.items (naming_more _ _ _ _ _ _ _ c.loop-names.invariant.0 c.in_ok-name.ensures.name c.in-Some.ensures.mark.1), omega (arith, c.loop-names.invariant.1, c.in-Some.ensures.shorter, c.in_ok-name.ensures.shorter))

pub returns-in-None-clause-whole : goal.returns-in-None-clause-whole
returns-in-None-clause-whole c = λ d. rw (c.from.ensures, c.fitted.ensures, c.in_ok-push.ensures.items) (naming_ends d _ _ _ _ _ c.loop-names.invariant.0 c.in_ok-name.ensures.name c.in-None.ensures.mark)
