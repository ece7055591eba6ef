use Rattle.std.proofs.Common.{subst, sym, ◌∙◌}
use Rattle.std.specs.Option.{option_map}
use Rattle.op_core.specs.Expression.{expr_of}
use Rattle.op_judgement.specs.Judgement.{with_part}
use Rattle.op_tree.specs.Statement.{designator_of}
use Rattle.op_check_expr.proofs.Following.{Answers, answers_through}
use Rattle.op_check_expr.specs.Expressions.{designator_of as designator_means, position_of_designator, settled}
use Rattle.op_check_expr.specs.Naming.{denoted_of}
use Rattle.op_check_expr.specs.Phrases.{target_by, target_means}
use Rattle.op_check_expr.specs.Places.{target_value}
use Rattle.op_check_expr.specs.Scopes.{here_of}
use Rattle.op_check_expr.proofs.scope.Checker.target_of_others.Goals as goal

pub returns-in_ok-designator-in-None : goal.returns-in_ok-designator-in-None
returns-in_ok-designator-in-None c =
    let here = here_of c.args.self.now.scope in
    let called = designator_of c.args.called.now in
    let d = option_map denoted_of c.designator.new.out in
    let at = (position_of_designator called).place in
    let r = c.target_denoted.result in
    let mid = c.designator.new.sink in
    let new = c.target_denoted.new.sink in
    subst (λ o. Answers r expr_of (target_by here called o) c.args.sink.now new) (sym c.in-None.is ∙ c.in_ok-routine_alone.ensures)
    (answers_through r expr_of (designator_means here called) (settled here) (target_value here at) c.args.sink.now mid new d c.in_ok-designator-in-None.ensures
    (subst (λ p. Answers r expr_of (target_means here p.place (with_part (settled here) d)) mid new) c.position_of_designator.ensures c.target_denoted.ensures))
