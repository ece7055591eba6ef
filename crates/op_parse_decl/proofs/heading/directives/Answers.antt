use Rattle.std.proofs.Common.{arith}
use Rattle.op_parse_code.proofs.Errors.{passed}
use Rattle.op_parse_code.specs.Refusal.{out_of_memory}
use Rattle.op_parse_decl.specs.Refusal.{by_grammar}
use Rattle.op_parse_decl.proofs.Methods.{directing_more, directing_ends}
use Rattle.op_parse_decl.proofs.heading.directives.Goals as goal

pub returns-in_err-push-clause-refused : goal.returns-in_err-push-clause-refused
returns-in_err-push-clause-refused c = passed c.from_residual.result c.from_residual.ensures.1 (λ y e. λ d. by_grammar (out_of_memory e))

pub loop-directive-preserved : goal.loop-directive-preserved
loop-directive-preserved c = (rw c.in_ok-push.ensures.items (directing_more _ _ _ _ _ c.loop-directive.invariant.0 c.in-Some.ensures.stands), omega (arith, c.loop-directive.invariant.1, c.in-Some.ensures.shorter))

pub returns-clause-whole : goal.returns-clause-whole
returns-clause-whole c = λ d. rw c.from.ensures (directing_ends d _ _ _ c.loop-directive.invariant.0 c.in_default.ensures.stands)
