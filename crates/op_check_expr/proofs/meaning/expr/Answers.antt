use Rattle.std.proofs.Common.{◌≡◌, None, Some, Err, sym, ap, subst, ◌∙◌}
use Rattle.std.specs.Option.{option_map}
use Rattle.op_core.proofs.First.{first_is}
use Rattle.op_judgement.specs.Judgement.{Reports, checked}
use Rattle.op_core.specs.Faults.{kept, or_typed}
use Rattle.op_tree.specs.Expression.{expr_of}
use Rattle.op_check_expr.proofs.Answering.{by_failure, by_first}
use Rattle.op_check_expr.proofs.Law.{expr_told, means_law}
use Rattle.op_check_expr.specs.Phrases as means
use Rattle.op_check_expr.specs.Phrases.{ExprIs}
use Rattle.op_check_expr.specs.Scopes.{here_of}
use Rattle.op_check_expr.specs.Values.{tree_of, value_of}
use Rattle.op_check_expr.proofs.meaning.expr.Goals as goal

pub returns-in-Some-clause-exact : goal.returns-in-Some-clause-exact
returns-in-Some-clause-exact c =
    let j = means.value (here_of c.args.scope.now) None (expr_of c.args.e.now) in
    let x = checked j in
    let h = subst (λ q. Reports j c.new-sink.result c.value.new.sink (option_map value_of q)) c.in-Some.is c.in_ok-value.ensures in
    let k : c.value.new.sink.kept ≡ kept None x.faults = h.1 ∙ ap (λ k. kept k x.faults) c.new-sink.ensures in
    by_first x c.into_tree.result c.or_typed.result (kept None x.faults) (first_is x.faults)
    (c.or_typed.ensures ∙ ap (λ k. or_typed k c.into_tree.result) k)
    (ap (option_map tree_of) (sym h.0) ∙ ap Some (sym c.into_tree.ensures))

pub returns-in-None-clause-exact : goal.returns-in-None-clause-exact
returns-in-None-clause-exact c =
    let j = means.value (here_of c.args.scope.now) None (expr_of c.args.e.now) in
    let x = checked j in
    let h = subst (λ q. Reports j c.new-sink.result c.value.new.sink (option_map value_of q)) c.in-None.is c.in_ok-value.ensures in
    let k : c.value.new.sink.kept ≡ kept None x.faults = h.1 ∙ ap (λ k. kept k x.faults) c.new-sink.ensures in
    subst (λ r. ExprIs x (Err r)) (sym (c.failure.ensures ∙ ap means.failure k)) (by_failure x (kept None x.faults) (first_is x.faults))

pub returns-in-Some-clause-law : goal.returns-in-Some-clause-law
returns-in-Some-clause-law c =
    means_law (means.value (here_of c.args.scope.now) None (expr_of c.args.e.now)) c.or_typed.result (returns-in-Some-clause-exact c)

pub returns-in-None-clause-law : goal.returns-in-None-clause-law
returns-in-None-clause-law c =
    means_law (means.value (here_of c.args.scope.now) None (expr_of c.args.e.now)) (Err c.failure.result) (returns-in-None-clause-exact c)

pub returns-in-Some-clause-told : goal.returns-in-Some-clause-told
returns-in-Some-clause-told c =
    expr_told (means.value (here_of c.args.scope.now) None (expr_of c.args.e.now)) c.or_typed.result (returns-in-Some-clause-exact c)

pub returns-in-None-clause-told : goal.returns-in-None-clause-told
returns-in-None-clause-told c =
    expr_told (means.value (here_of c.args.scope.now) None (expr_of c.args.e.now)) (Err c.failure.result) (returns-in-None-clause-exact c)
