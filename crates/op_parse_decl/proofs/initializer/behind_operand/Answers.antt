use Rattle.op_parse_code.proofs.Errors.{passed}
use Rattle.op_parse_code.proofs.Chains.{chain_operations, chain_whole}
use Rattle.op_parse_code.specs.Refusal.{out_of_memory}
use Rattle.op_parse_decl.proofs.initializer.behind_operand.Goals as goal

pub returns-in_err-others-clause-refused : goal.returns-in_err-others-clause-refused
returns-in_err-others-clause-refused c = passed c.from_residual.result c.from_residual.ensures.1 (λ y e. rw e (λ ks f. chain_operations c.args.level c.args.setting.left c.args.setting.end _ _ _ _ f c.in_err-others.ensures.refused))

pub returns-in_err-chain-clause-refused : goal.returns-in_err-chain-clause-refused
returns-in_err-chain-clause-refused c = passed c.from_residual-in_err-chain.result c.from_residual-in_err-chain.ensures.1 (λ y e. λ ks f. out_of_memory e)

pub returns-clause-whole : goal.returns-clause-whole
returns-clause-whole c = λ ks f. rw c.in_ok-chain.ensures (chain_whole c.args.level c.args.setting.left _ _ _ _ _ f c.in_ok-others.ensures.whole)

pub returns-clause-ends : goal.returns-clause-ends
returns-clause-ends c = c.in_ok-others.ensures.whole.1
