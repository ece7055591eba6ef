use Rattle.std.proofs.Common.{sym, ap}
use Rattle.op_parse_code.proofs.Errors.{passed}
use Rattle.op_parse_code.specs.Refusal.{out_of_memory}
use Rattle.op_parse_decl.proofs.Initials.{root_whole, root_refuses, expression_whole, one_refuses, one_whole, not_value}
use Rattle.op_tree.specs.Initial.{initial_of}
use Rattle.op_parse_decl.proofs.initializer.closed.Goals as goal

pub returns-in_err-root-in-Value-clause-refused : goal.returns-in_err-root-in-Value-clause-refused
returns-in_err-root-in-Value-clause-refused c = passed c.from_residual.result c.from_residual.ensures.1 (λ y e. λ k i q ks z f. out_of_memory e)

pub returns-in_err-value-in-Value-clause-refused : goal.returns-in_err-value-in-Value-clause-refused
returns-in_err-value-in-Value-clause-refused c = rw (sym c.replace.ensures.value) (passed c.from_residual-in_err-value-in-Value.result c.from_residual-in_err-value-in-Value.ensures.1 (λ y e. rw e (λ k i q ks z f. root_refuses k c.args.setting.left i _ _ _ _ _ _ c.args.setting.end _ z (ap initial_of c.in-Value.is) f (c.in_err-value-in-Value.ensures.refused _ (rw c.in_ok-root-in-Value.ensures (root_whole k c.args.setting.left i _ _ c.args.position _ _ _ z (ap initial_of c.in-Value.is) f))))))

pub returns-in_ok-value-in-Value-clause-whole : goal.returns-in_ok-value-in-Value-clause-whole
returns-in_ok-value-in-Value-clause-whole c = rw (sym c.replace.ensures.value) (λ k i q ks z f. expression_whole k c.args.setting.left _ _ _ (c.in_ok-value-in-Value.ensures.whole _ (rw c.in_ok-root-in-Value.ensures (root_whole k c.args.setting.left i _ _ c.args.position _ _ _ z (ap initial_of c.in-Value.is) f))))

pub returns-in_err-stop_expression-in_default-clause-refused : goal.returns-in_err-stop_expression-in_default-clause-refused
returns-in_err-stop_expression-in_default-clause-refused c = rw (sym c.replace.ensures.value) (passed c.from_residual-in_err-stop_expression-in_default.result c.from_residual-in_err-stop_expression-in_default.ensures.1 (λ y e. rw e (λ k i q ks z f. one_refuses k c.args.setting.left i _ _ _ _ _ c.args.setting.end _ z f (not_value _ c.in_default.not-Value) c.in_err-stop_expression-in_default.ensures.refused)))

pub returns-in_err-list-in_default-clause-refused : goal.returns-in_err-list-in_default-clause-refused
returns-in_err-list-in_default-clause-refused c = passed c.from_residual-in_err-list-in_default.result c.from_residual-in_err-list-in_default.ensures.1 (λ y e. λ k i q ks z f. out_of_memory e)

pub returns-in_ok-list-in_default-clause-whole : goal.returns-in_ok-list-in_default-clause-whole
returns-in_ok-list-in_default-clause-whole c = rw (sym c.replace.ensures.value) (λ k i q ks z f. rw (c.in_ok-list-in_default.ensures, c.new.ensures.items) (one_whole k c.args.setting.left i _ c.args.position _ _ _ z f (not_value _ c.in_default.not-Value) c.in_ok-stop_expression-in_default.ensures.stops))
