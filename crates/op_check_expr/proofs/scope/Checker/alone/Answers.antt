use Rattle.std.proofs.Common.{◌≡◌, true, Some, None, ap, subst, ◌∙◌}
use Rattle.std.specs.Option.{option_map}
use Rattle.op_core.specs.Expression.{expr_of}
use Rattle.op_tree.specs.Expression.{root_of}
use Rattle.op_tree.specs.Lists.{arguments_of}
use Rattle.op_tree.specs.Statement.{designator_of, selectors_of}
use Rattle.op_judgement.specs.Judgement.{Reports, followed, with_part}
use Rattle.op_check_expr.proofs.Following.{Answers, answers_followed}
use Rattle.op_check_expr.specs.Calling.{plan_of}
use Rattle.op_check_expr.specs.Expressions.{position_of_designator, root_of as root_means, selected}
use Rattle.op_check_expr.specs.Naming.{denoted_of}
use Rattle.op_check_expr.specs.Phrases.{alone_behind, alone_called, alone_denoted, call_alone, last_call}
use Rattle.op_check_expr.specs.Scopes.{here_of}
use Rattle.op_check_expr.proofs.scope.Checker.alone.Goals as goal

pub returns-in_ok-plan-in-Some : goal.returns-in_ok-plan-in-Some
unfolding call_alone
returns-in_ok-plan-in-Some c =
    let here = here_of c.args.self.now.scope in
    let called = c.args.called.now in
    let ss = selectors_of called.selectors.items in
    let front = selectors_of c.in-Some.front.now in
    let args = arguments_of c.in-Some.arguments.now in
    let d = option_map denoted_of c.root.new.out in
    let b = option_map denoted_of c.selected.new.denoted in
    let plan = c.in_ok-plan-in-Some.plan in
    let start = (position_of_designator (designator_of called)).place in
    let r = c.alone_called.result in
    let mid = c.root.new.sink in
    let far = c.selected.new.sink in
    let last = c.plan_of.new.sink in
    let new = c.alone_called.new.sink in
    let e : Some (front, args) ≡ last_call ss = c.in-Some.ensures ∙ ap (λ xs. last_call (selectors_of xs)) c.deref.ensures.value in
    answers_followed r expr_of (root_means here (root_of called.root)) (λ d. alone_behind here start d ss (last_call ss)) c.args.sink.now mid new d c.in_ok-root.ensures
    (subst (λ l. Answers r expr_of (alone_behind here start d ss l) mid new) e
    (answers_followed r expr_of (selected here d front) (λ c. followed (plan_of here true c args) (λ plan. alone_called here start plan args)) mid far new b c.in_ok-selected-in-Some.ensures
    (answers_followed r expr_of (plan_of here true b args) (λ plan. alone_called here start plan args) far last new plan c.in_ok-plan-in-Some.ensures
    (subst (λ p. Answers r expr_of (alone_called here p.place plan args) last new) c.position_of_designator.ensures c.alone_called.ensures))))

pub returns-in_ok-selected-in-None : goal.returns-in_ok-selected-in-None
unfolding call_alone
returns-in_ok-selected-in-None c =
    let here = here_of c.args.self.now.scope in
    let called = c.args.called.now in
    let ss = selectors_of called.selectors.items in
    let d = option_map denoted_of c.root.new.out in
    let b = option_map denoted_of c.selected-in-None.new.denoted in
    let start = (position_of_designator (designator_of called)).place in
    let r = c.alone_denoted.result in
    let mid = c.root.new.sink in
    let far = c.selected-in-None.new.sink in
    let new = c.alone_denoted.new.sink in
    let e : None ≡ last_call ss = c.in-None.ensures ∙ ap (λ xs. last_call (selectors_of xs)) c.deref.ensures.value in
    answers_followed r expr_of (root_means here (root_of called.root)) (λ d. alone_behind here start d ss (last_call ss)) c.args.sink.now mid new d c.in_ok-root.ensures
    (subst (λ l. Answers r expr_of (alone_behind here start d ss l) mid new) e
    (answers_followed r expr_of (selected here d ss) (with_part (alone_denoted here start)) mid far new b
    (subst (λ xs. Reports (selected here d (selectors_of xs)) mid far b) c.deref-in-None.ensures.value c.in_ok-selected-in-None.ensures)
    (subst (λ p. Answers r expr_of (with_part (alone_denoted here p.place) b) far new) c.position_of_designator.ensures c.alone_denoted.ensures)))
