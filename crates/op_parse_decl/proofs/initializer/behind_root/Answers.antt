use Rattle.op_parse_code.proofs.Errors.{passed}
use Rattle.op_parse_code.proofs.Chains.{additive_operand, relational_operand}
use Rattle.op_parse_decl.proofs.Initials.{root_operand, selectors_refuse, simple_refuses, term_refuses, value_chain, value_goes_on}
use Rattle.op_parse_decl.proofs.initializer.behind_root.Goals as goal

pub returns-in_err-selectors-clause-refused : goal.returns-in_err-selectors-clause-refused
returns-in_err-selectors-clause-refused c = passed c.from_residual.result c.from_residual.ensures.1 (λ y e. rw e (λ ks f. selectors_refuse c.args.setting.left c.args.setting.end _ _ _ _ f c.in_err-selectors.ensures.refused))

pub returns-in_err-term-clause-refused : goal.returns-in_err-term-clause-refused
returns-in_err-term-clause-refused c = passed c.from_residual-in_err-term.result c.from_residual-in_err-term.ensures.1 (λ y e. rw e (λ ks f. term_refuses c.args.setting.left c.args.setting.end _ _ (c.in_err-term.ensures.refused _ (rw c.designator_node-factor.ensures (root_operand c.args.setting.left _ _ _ _ _ f c.in_ok-selectors.ensures.whole)))))

pub returns-in_err-simple-clause-refused : goal.returns-in_err-simple-clause-refused
returns-in_err-simple-clause-refused c = passed c.from_residual-in_err-simple.result c.from_residual-in_err-simple.ensures.1 (λ y e. rw e (λ ks f. simple_refuses c.args.setting.left c.args.setting.end _ _ (c.in_err-simple.ensures.refused _ (additive_operand c.args.setting.left _ _ _ (c.in_ok-term.ensures.whole _ (rw c.designator_node-factor.ensures (root_operand c.args.setting.left _ _ _ _ _ f c.in_ok-selectors.ensures.whole)))))))

pub returns-in_err-value-clause-refused : goal.returns-in_err-value-clause-refused
returns-in_err-value-clause-refused c = passed c.from_residual-in_err-value.result c.from_residual-in_err-value.ensures.1 (λ y e. rw e (λ ks f. value_chain c.args.setting.left c.args.setting.end _ _ (c.in_err-value.ensures.refused _ (relational_operand c.args.setting.left _ _ _ (c.in_ok-simple.ensures.whole _ (additive_operand c.args.setting.left _ _ _ (c.in_ok-term.ensures.whole _ (rw c.designator_node-factor.ensures (root_operand c.args.setting.left _ _ _ _ _ f c.in_ok-selectors.ensures.whole)))))))))

pub returns-in_err-stop_expression-clause-refused : goal.returns-in_err-stop_expression-clause-refused
returns-in_err-stop_expression-clause-refused c = passed c.from_residual-in_err-stop_expression.result c.from_residual-in_err-stop_expression.ensures.1 (λ y e. rw e (λ ks f. value_goes_on c.args.setting.left c.args.setting.end _ _ _ _ (c.in_ok-value.ensures.whole _ (relational_operand c.args.setting.left _ _ _ (c.in_ok-simple.ensures.whole _ (additive_operand c.args.setting.left _ _ _ (c.in_ok-term.ensures.whole _ (rw c.designator_node-factor.ensures (root_operand c.args.setting.left _ _ _ _ _ f c.in_ok-selectors.ensures.whole))))))) (c.in_err-stop_expression.ensures.refused _)))

pub returns-clause-whole : goal.returns-clause-whole
returns-clause-whole c = λ ks f. ((c.in_ok-value.ensures.whole _ (relational_operand c.args.setting.left _ _ _ (c.in_ok-simple.ensures.whole _ (additive_operand c.args.setting.left _ _ _ (c.in_ok-term.ensures.whole _ (rw c.designator_node-factor.ensures (root_operand c.args.setting.left _ _ _ _ _ f c.in_ok-selectors.ensures.whole))))))).0, c.in_ok-stop_expression.ensures.stops)

pub behind_operand-requires-2 : goal.behind_operand-requires-2
behind_operand-requires-2 c = record { follows = c.in_ok-term.ensures.ends }

pub behind_operand-requires-3 : goal.behind_operand-requires-3
behind_operand-requires-3 c = record { follows = c.in_ok-simple.ensures.ends }
