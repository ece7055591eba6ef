use Rattle.std.proofs.Common.{◌≡◌, ◌+◌, false, [], Some, None, IfOk, drop, map, refl, sym, ap, subst, ◌∙◌}
use Rattle.std.specs.Option.{option_map}
use Rattle.op_base.proofs.Tests.{map_ok}
use Rattle.op_core.specs.Expression as typed
use Rattle.op_tree.proofs.Rows.{call_says, chain_says, designated_says, index_says, literal_says, set_says}
use Rattle.op_tree.specs.Expression.{arguments, argument_of, call, element_of, expr_of, index, literal, no_arguments, prefixed, root_of, selector_of}
use Rattle.op_tree.specs.Lists.{arguments_of, expressions_of, operations_of}
use Rattle.op_tree.specs.Statement.{designator_of, elements_of, selectors_of}
use Rattle.op_judgement.specs.Judgement.{Reports, both_typed, followed, with_part}
use Rattle.op_check_expr.specs.Parts.{standing}
use Rattle.op_check_expr.proofs.Following.{Completes, Puts, behind, behind_both, finished, goes_on, next, puts_followed, reports_followed, reports_of_two, two_steps}
use Rattle.op_check_expr.proofs.Walking.{literal_selected, literal_wanted, still_reports}
use Rattle.op_check_expr.specs.Calling.{call_of, first_of, given_behind, given_first, given_of, others_of, parameters_for, passed, plan_of, type_wanted}
use Rattle.op_check_expr.specs.Constructors.{member_of, members_of, set_of}
use Rattle.op_check_expr.specs.Constructors as member
use Rattle.op_check_expr.specs.Expressions.{argument, bracket_of, called, designator_of as designator_means, elements_at, given, indexed, member_in, members, operations, position_of, range_in, ranged, root_of as root_means, select, selected, set_in, settled, sole, text_denoted, value_in, with_member}
use Rattle.op_check_expr.specs.Naming.{denoted_of, valued}
use Rattle.op_check_expr.specs.Operating.{operation_of, used}
use Rattle.op_check_expr.specs.Scopes.{here_of}
use Rattle.op_check_expr.specs.Values.{in_brackets, value_of}
use Rattle.op_types.proofs.Folding.{one_given}
use Rattle.op_check_expr.proofs.scope.Checker.+walk.Goals as goal

-- ---- arms

pub value_in-returns-in_ok-value_in-in-Chain : goal.value_in-returns-in_ok-value_in-in-Chain
value_in-returns-in_ok-value_in-in-Chain t c =
    let here = here_of c.args.self.now.scope in
    let first = expr_of c.in-Chain.first.value in
    let rest = operations_of c.in-Chain.rest.items in
    let a = option_map value_of c.value_in.new.out in
    let q = option_map value_of c.operations.new.a in
    let r = c.operations.result in
    let mid = c.value_in.new.sink in
    let new = c.operations.new.sink in
    subst (λ e. Puts r (value_in here c.args.wanted e) c.args.sink.now new q) (sym (ap expr_of c.in-Chain.is ∙ chain_says c.in-Chain.first c.in-Chain.rest))
    (puts_followed r (value_in here None first) (λ a. operations here (position_of first).place a rest) c.args.sink.now mid new a q
    (subst (λ e. Reports (value_in here None (expr_of e)) c.args.sink.now mid a) c.deref.ensures c.in_ok-value_in-in-Chain.ensures)
    (subst (λ p. Puts r (operations here p.place a rest) mid new q) (c.position_of.ensures ∙ ap (λ e. position_of (expr_of e)) c.deref-in-Chain.ensures)
    (subst (λ os. Puts r (operations here c.position_of.result.place a (operations_of os)) mid new q) c.deref-in-Chain-2.ensures.value c.operations.ensures)))

pub value_in-returns-in-Prefix : goal.value_in-returns-in-Prefix
value_in-returns-in-Prefix t c =
    let here = here_of c.args.self.now.scope in
    let r = c.prefixed.result in
    let q = option_map value_of c.prefixed.new.out in
    subst (λ e. Puts r (value_in here c.args.wanted (expr_of e)) c.args.sink.now c.prefixed.new.sink q) (sym c.in-Prefix.is)
    (subst (λ e. Puts r (value_in here c.args.wanted (prefixed c.in-Prefix.operator c.in-Prefix.position (expr_of e))) c.args.sink.now c.prefixed.new.sink q) c.deref-in-Prefix.ensures c.prefixed.ensures)

pub value_in-returns-in-Set : goal.value_in-returns-in-Set
value_in-returns-in-Set t c =
    let here = here_of c.args.self.now.scope in
    let r = c.set.result in
    let q = option_map value_of c.set.new.out in
    subst (λ e. Puts r (value_in here c.args.wanted e) c.args.sink.now c.set.new.sink q) (sym (ap expr_of c.in-Set.is ∙ set_says c.in-Set.position c.in-Set.elements))
    (subst (λ es. Puts r (set_in here c.args.wanted (elements_of es)) c.args.sink.now c.set.new.sink q) c.deref-in-Set.ensures.value c.set.ensures)

pub value_in-returns-in-Literal : goal.value_in-returns-in-Literal
value_in-returns-in-Literal t c =
    let here = here_of c.args.self.now.scope in
    let r = c.literal.result in
    let q = option_map value_of c.literal.new.out in
    let p = c.in-Literal.position in
    let ss = selectors_of c.in-Literal.selectors.items in
    subst (λ e. Puts r (value_in here c.args.wanted e) c.args.sink.now c.literal.new.sink q) (sym (ap expr_of c.in-Literal.is ∙ literal_says c.in-Literal.text p c.in-Literal.selectors))
    (subst (λ x. Puts r x c.args.sink.now c.literal.new.sink q) (literal_wanted here c.args.wanted c.in-Literal.text p ss)
    (subst (λ text. Puts r (value_in here None (literal text p ss)) c.args.sink.now c.literal.new.sink q) c.as_slice.ensures
    (subst (λ xs. Puts r (value_in here None (literal c.as_slice.result.now p (selectors_of xs))) c.args.sink.now c.literal.new.sink q) c.deref-in-Literal.ensures.value c.literal.ensures)))

pub value_in-returns-in-Designator : goal.value_in-returns-in-Designator
value_in-returns-in-Designator t c =
    let here = here_of c.args.self.now.scope in
    subst (λ e. Puts c.designated.result (value_in here c.args.wanted e) c.args.sink.now c.designated.new.sink (option_map value_of c.designated.new.out)) (sym (ap expr_of c.in-Designator.is ∙ designated_says c.in-Designator.called)) c.designated.ensures

pub designated-returns : goal.designated-returns
designated-returns t c =
    let here = here_of c.args.self.now.scope in
    let called = c.args.called.now in
    let denoted = option_map denoted_of c.designator-done.new.out in
    let mid = c.designator-done.new.sink in
    let new = c.as_value.new.sink in
    behind c.designator-done.result c.as_value.result c.designator-done.ensures c.as_value.ensures
    (λ h k. reports_followed (designator_means here (designator_of called)) (with_part (settled here)) c.args.sink.now mid new denoted (option_map value_of c.as_value.new.out) h k)

pub designator-returns : goal.designator-returns
designator-returns t c =
    let here = here_of c.args.self.now.scope in
    let called = c.args.called.now in
    let front = option_map denoted_of c.root.new.out in
    let mid = c.root.new.sink in
    let q = option_map denoted_of c.selected.new.denoted in
    puts_followed c.selected.result (root_means here (root_of called.root)) (λ d. selected here d (selectors_of called.selectors.items)) c.args.sink.now mid c.selected.new.sink front q c.in_ok-root.ensures
    (subst (λ xs. Puts c.selected.result (selected here front (selectors_of xs)) mid c.selected.new.sink q) c.deref.ensures.value c.selected.ensures)

pub root-returns-in-Bracketed : goal.root-returns-in-Bracketed
root-returns-in-Bracketed t c =
    let here = here_of c.args.self.now.scope in
    let p = c.in-Bracketed.position in
    let v = option_map value_of c.value_in-done.new.out in
    let new = c.value_in-done.new.sink in
    let d = option_map denoted_of c.bracketed.new.out in
    subst (λ r. Puts c.bracketed.result (root_means here (root_of r)) c.args.sink.now new d) (sym c.in-Bracketed.is)
    (behind c.value_in-done.result c.bracketed.result c.value_in-done.ensures c.bracketed.ensures
    (λ h is. let inside = subst (λ e. Reports (value_in here None (expr_of e)) c.args.sink.now new v) c.deref.ensures h in
    (is ∙ ap (option_map (λ v. valued p (in_brackets v))) inside.0, inside.1)))

pub select-returns-in-Index : goal.select-returns-in-Index
select-returns-in-Index t c =
    let here = here_of c.args.self.now.scope in
    let d = option_map denoted_of c.args.denoted.now in
    let p = c.in-Index.position in
    let r = c.element_of.result in
    let new = c.element_of.new.sink in
    let q = option_map denoted_of c.element_of.new.denoted in
    subst (λ x. Puts r (select here d x) c.args.sink.now new q) (sym (ap selector_of c.in-Index.is ∙ index_says p c.in-Index.indices))
    (subst (λ xs. Puts r (select here d (index p (expressions_of xs))) c.args.sink.now new q) c.deref.ensures.value c.element_of.ensures)

pub element_of-returns : goal.element_of-returns
element_of-returns t c =
    let here = here_of c.args.self.now.scope in
    let d = option_map denoted_of c.args.denoted.now in
    let es = expressions_of c.args.indices.now in
    let p = c.args.position in
    let v = option_map value_of c.elements_behind-done.new.out in
    let new = c.elements_behind-done.new.sink in
    let r = option_map denoted_of c.still_at.new.out in
    behind c.elements_behind-done.result c.still_at.result c.elements_behind-done.ensures c.still_at.ensures
    (λ h k. still_reports d (followed (with_part (settled here) d) (λ a. elements_at here p.place a es)) c.args.sink.now new v c.position_of_denoted-at.result r c.position_of_denoted-at.ensures k h)

pub elements_behind-returns : goal.elements_behind-returns
elements_behind-returns t c =
    let here = here_of c.args.self.now.scope in
    let d = option_map denoted_of c.args.denoted.now in
    let es = expressions_of c.args.indices.now in
    let a = option_map value_of c.as_value.new.out in
    let mid = c.as_value.new.sink in
    puts_followed c.elements_at.result (with_part (settled here) d) (λ a. elements_at here c.args.bracket a es) c.args.sink.now mid c.elements_at.new.sink a (option_map value_of c.elements_at.new.a)
    (subst (λ q. Reports (with_part (settled here) (option_map denoted_of q)) c.args.sink.now mid a) c.take.ensures.value c.in_ok-as_value.ensures) c.elements_at.ensures

pub select-returns-in-Call : goal.select-returns-in-Call
select-returns-in-Call t c =
    let here = here_of c.args.self.now.scope in
    let d = option_map denoted_of c.args.denoted.now in
    let r = c.call.result in
    let new = c.call.new.sink in
    let q = option_map denoted_of c.call.new.denoted in
    subst (λ x. Puts r (select here d x) c.args.sink.now new q) (sym (ap selector_of c.in-Call.is ∙ call_says c.in-Call.arguments))
    (subst (λ xs. Puts r (select here d (call (arguments_of xs))) c.args.sink.now new q) c.deref-in-Call.ensures.value c.call.ensures)

pub call-returns : goal.call-returns
call-returns t c =
    let here = here_of c.args.self.now.scope in
    let d = option_map denoted_of c.args.denoted.now in
    let args = arguments_of c.args.list.now in
    let v = option_map value_of c.called-done.new.out in
    let plan = c.in_ok-plan.plan in
    let mid = c.plan_of.new.sink in
    let new = c.called-done.new.sink in
    let r = option_map denoted_of c.still_at.new.out in
    behind c.called-done.result c.still_at.result c.called-done.ensures c.still_at.ensures
    (λ h k. still_reports d (followed (plan_of here false d args) (λ plan. called here plan args)) c.args.sink.now new v c.position_of_denoted-at.result r c.position_of_denoted-at.ensures k
    (reports_followed (plan_of here false d args) (λ plan. called here plan args) c.args.sink.now mid new plan v c.in_ok-plan.ensures h))

-- ---- loops

pub operations-loop-operation-preserved : goal.operations-loop-operation-preserved
operations-loop-operation-preserved t c =
    let here = here_of c.args.self.now.scope in
    let start = c.args.start in
    let list = c.args.rest.now in
    let k = c.loop-operation.operation-index in
    let x = c.operation-item.result in
    let whole = operations here start (option_map value_of c.args.a.now) (operations_of list) in
    let rest = operations_of (drop (k + 1) list) in
    let a = option_map value_of c.loop-operation.a in
    let b = option_map value_of c.value_in-done.new.out in
    let far = option_map value_of c.operation_of.new.a in
    let mid = c.value_in-done.new.sink in
    let new = c.operation_of.new.sink in
    behind_both c.value_in-done.result c.value_in-done.ensures c.in_ok-operation_of.ensures
    (λ h g. two_steps whole (value_in here None (expr_of x.operand)) (operation_of here.core start x.operator x.position a) (λ q. operations here start q rest) c.args.sink.now c.loop-operation.sink mid new b far
    (subst (λ q. Completes whole q c.args.sink.now c.loop-operation.sink) (next (λ os. operations here start a (operations_of os)) list k x c.loop-operation-test.true c.operation-item.is) c.loop-operation.invariant)
    h
    (subst (λ core. Reports (operation_of core start x.operator x.position a b) mid new far) c.setting.ensures.core g))

pub operations-returns : goal.operations-returns
operations-returns t c =
    let here = here_of c.args.self.now.scope in
    let a = option_map value_of c.loop-operation.a in
    finished (operations here c.args.start (option_map value_of c.args.a.now) (operations_of c.args.rest.now)) (λ os. operations here c.args.start a (operations_of os)) c.args.rest.now c.loop-operation.operation-index c.args.sink.now c.loop-operation.sink a c.loop-operation-test.false refl c.loop-operation.invariant

pub elements_at-loop-e-preserved : goal.elements_at-loop-e-preserved
elements_at-loop-e-preserved t c =
    let here = here_of c.args.self.now.scope in
    let list = c.args.indices.now in
    let k = c.loop-e.e-index in
    let x = c.e-item.result in
    let whole = elements_at here c.args.bracket (option_map value_of c.args.a.now) (expressions_of list) in
    let rest = expressions_of (drop (k + 1) list) in
    let a = option_map value_of c.loop-e.a in
    let v = option_map value_of c.value_in-done.new.out in
    let far = option_map value_of c.indexed.new.a in
    let mid = c.value_in-done.new.sink in
    let new = c.indexed.new.sink in
    behind_both c.value_in-done.result c.value_in-done.ensures c.in_ok-indexed.ensures
    (λ h g. two_steps whole (value_in here None (expr_of x)) (indexed here.core c.args.bracket (position_of (expr_of x)).place a) (λ q. elements_at here c.args.bracket q rest) c.args.sink.now c.loop-e.sink mid new v far
    (subst (λ q. Completes whole q c.args.sink.now c.loop-e.sink) (next (λ es. elements_at here c.args.bracket a (expressions_of es)) list k x c.loop-e-test.true c.e-item.is) c.loop-e.invariant)
    h
    (subst (λ p. Reports (indexed here.core c.args.bracket p.place a v) mid new far) c.position_of.ensures g))

pub elements_at-returns : goal.elements_at-returns
elements_at-returns t c =
    let here = here_of c.args.self.now.scope in
    let a = option_map value_of c.loop-e.a in
    finished (elements_at here c.args.bracket (option_map value_of c.args.a.now) (expressions_of c.args.indices.now)) (λ es. elements_at here c.args.bracket a (expressions_of es)) c.args.indices.now c.loop-e.e-index c.args.sink.now c.loop-e.sink a c.loop-e-test.false refl c.loop-e.invariant

pub selected-loop-selector-preserved : goal.selected-loop-selector-preserved
selected-loop-selector-preserved t c =
    let here = here_of c.args.self.now.scope in
    let list = c.args.selectors.now in
    let k = c.loop-selector.selector-index in
    let x = c.selector-item.result in
    let whole = selected here (option_map denoted_of c.args.denoted.now) (selectors_of list) in
    let rest = selectors_of (drop (k + 1) list) in
    let d = option_map denoted_of c.loop-selector.denoted in
    goes_on whole (select here d (selector_of x)) (λ q. selected here q rest) c.args.sink.now c.loop-selector.sink c.select.new.sink (option_map denoted_of c.select.new.denoted)
    (subst (λ q. Completes whole q c.args.sink.now c.loop-selector.sink) (next (λ xs. selected here d (selectors_of xs)) list k x c.loop-selector-test.true c.selector-item.is) c.loop-selector.invariant)
    c.in_ok-select.ensures

pub selected-returns : goal.selected-returns
selected-returns t c =
    let here = here_of c.args.self.now.scope in
    let d = option_map denoted_of c.loop-selector.denoted in
    finished (selected here (option_map denoted_of c.args.denoted.now) (selectors_of c.args.selectors.now)) (λ xs. selected here d (selectors_of xs)) c.args.selectors.now c.loop-selector.selector-index c.args.sink.now c.loop-selector.sink d c.loop-selector-test.false refl c.loop-selector.invariant

pub members_in-loop-element-preserved : goal.members_in-loop-element-preserved
members_in-loop-element-preserved t c =
    let here = here_of c.args.self.now.scope in
    let list = c.args.elements.now in
    let k = c.loop-element.element-index in
    let x = c.element-item.result in
    let whole = members here (option_map members_of c.args.members.now) (elements_of list) in
    let rest = elements_of (drop (k + 1) list) in
    let ms = option_map members_of c.loop-element.members in
    let m = option_map member_of c.member_in-done.new.out in
    let new = c.member_in-done.new.sink in
    behind_both c.member_in-done.result c.member_in-done.ensures c.in_ok-add_member.ensures
    (λ h is. subst (λ q. Completes whole (members here q rest) c.args.sink.now new) (sym is)
    (goes_on whole (member_in here (element_of x)) (λ m. members here (with_member ms m) rest) c.args.sink.now c.loop-element.sink new m
    (subst (λ q. Completes whole q c.args.sink.now c.loop-element.sink) (next (λ es. members here ms (elements_of es)) list k x c.loop-element-test.true c.element-item.is) c.loop-element.invariant)
    h))

pub members_in-returns : goal.members_in-returns
members_in-returns t c =
    let here = here_of c.args.self.now.scope in
    let all = option_map members_of c.loop-element.members in
    finished (members here (option_map members_of c.args.members.now) (elements_of c.args.elements.now)) (λ es. members here all (elements_of es)) c.args.elements.now c.loop-element.element-index c.args.sink.now c.loop-element.sink all c.loop-element-test.false refl c.loop-element.invariant

pub set-returns : goal.set-returns
set-returns t c =
    let here = here_of c.args.self.now.scope in
    let es = elements_of c.args.elements.now in
    let ms = option_map members_of c.members_in-done.new.members in
    let mid = c.members_in-done.new.sink in
    let new = c.set_of.new.sink in
    let q = option_map value_of c.set_of.new.out in
    behind c.members_in-done.result c.set_of.result c.members_in-done.ensures c.set_of.ensures
    (λ h k. reports_followed (members here (Some []) es) (with_part (set_of here.core c.args.wanted)) c.args.sink.now mid new ms q
    (subst (λ xs. Reports (members here (Some (map member_of xs)) es) c.args.sink.now mid ms) c.new.ensures.items h)
    (subst (λ core. Reports (with_part (set_of core c.args.wanted) ms) mid new q) c.setting.ensures.core k))

pub range_in-returns-in-Range : goal.range_in-returns-in-Range
range_in-returns-in-Range t c =
    let here = here_of c.args.self.now.scope in
    let e = expr_of c.in-Range.e.value in
    let f = expr_of c.in-Range.f.value in
    let a = option_map value_of c.value_in-first.new.out in
    let b = option_map value_of c.value_in-last.new.out in
    let mid = c.value_in-first.new.sink in
    let new = c.value_in-last.new.sink in
    let m = option_map member_of c.ranged.new.out in
    subst (λ x. Puts c.ranged.result (range_in here (element_of x)) c.args.sink.now new m) (sym c.in-Range.is)
    (behind c.value_in-first.result c.ranged.result c.value_in-first.ensures c.ranged.ensures
    (λ h k. behind_both c.value_in-last.result c.value_in-last.ensures k
    (λ g is. reports_of_two (ranged (position_of e).place (position_of f).place) (value_in here None e) (value_in here None f) c.args.sink.now mid new a b m
    (subst (λ x. Reports (value_in here None (expr_of x)) c.args.sink.now mid a) c.deref.ensures h)
    (subst (λ x. Reports (value_in here None (expr_of x)) mid new b) c.deref-in-Range.ensures g)
    (subst (λ q. m ≡ both_typed (ranged (position_of e).place q.place) a b) (c.position_of-in-Range.ensures ∙ ap (λ x. position_of (expr_of x)) c.deref-in-Range-3.ensures)
    (subst (λ p. m ≡ both_typed (ranged p.place c.position_of-in-Range.result.place) a b) (c.position_of.ensures ∙ ap (λ x. position_of (expr_of x)) c.deref-in-Range-2.ensures) is)))))

pub given_in-loop-argument-preserved : goal.given_in-loop-argument-preserved
given_in-loop-argument-preserved t c =
    let here = here_of c.args.self.now.scope in
    let list = c.args.list.now in
    let k = c.loop-argument.argument-index in
    let x = c.argument-item.result in
    let whole = given here c.args.parameters.now (option_map given_of c.args.given.now) (arguments_of list) in
    let rest = arguments_of (drop (k + 1) list) in
    let ps = c.loop-argument.rest.now in
    let so_far = option_map given_of c.loop-argument.given in
    let b = option_map typed.argument_of c.argument-done.new.out in
    let new = c.argument-done.new.sink in
    behind_both c.argument-done.result c.argument-done.ensures c.in_ok-add_given.ensures
    (λ h is. subst (λ q. Completes whole (given here q (option_map given_of c.add_given.new.given) rest) c.args.sink.now new) (sym c.first_of.ensures.others)
    (subst (λ g. Completes whole (given here (others_of ps) g rest) c.args.sink.now new) (sym is)
    (goes_on whole (argument here (first_of ps) (argument_of x)) (λ b. given here (others_of ps) (given_behind so_far b) rest) c.args.sink.now c.loop-argument.sink new b
    (subst (λ q. Completes whole q c.args.sink.now c.loop-argument.sink) (next (λ xs. given here ps so_far (arguments_of xs)) list k x c.loop-argument-test.true c.argument-item.is) c.loop-argument.invariant)
    (subst (λ p. Reports (argument here p (argument_of x)) c.loop-argument.sink new b) c.first_of.ensures.first h))))

pub given_in-returns : goal.given_in-returns
given_in-returns t c =
    let here = here_of c.args.self.now.scope in
    let so_far = option_map given_of c.loop-argument.given in
    finished (given here c.args.parameters.now (option_map given_of c.args.given.now) (arguments_of c.args.list.now)) (λ xs. given here c.loop-argument.rest.now so_far (arguments_of xs)) c.args.list.now c.loop-argument.argument-index c.args.sink.now c.loop-argument.sink so_far c.loop-argument-test.false refl c.loop-argument.invariant

pub given_to-returns : goal.given_to-returns
given_to-returns t c =
    let here = here_of c.args.self.now.scope in
    let plan = c.args.plan in
    let args = arguments_of c.args.list.now in
    let q = option_map value_of c.call_of.new.out in
    let so_far = option_map given_of c.given_in-done.new.given in
    let new = c.given_in-done.new.sink in
    behind c.given_in-done.result c.call_of.result c.given_in-done.ensures c.call_of.ensures
    (λ h is. reports_followed (given here (parameters_for here plan) (given_first plan) args) (λ given. standing (call_of here plan given)) c.args.sink.now new new so_far q
    (subst (λ ps. Reports (given here ps (given_first plan) args) c.args.sink.now new so_far) c.parameters_for.ensures
    (subst (λ g. Reports (given here c.parameters_for.result.now g args) c.args.sink.now new so_far) c.given_first-given.ensures h)) (is, refl))

pub called-returns-in-Routine : goal.called-returns-in-Routine
called-returns-in-Routine t c =
    let here = here_of c.args.self.now.scope in
    subst (λ q. Puts c.given_to-in-Routine.result (called here q (arguments_of c.args.list.now)) c.args.sink.now c.given_to-in-Routine.new.sink (option_map value_of c.given_to-in-Routine.new.out)) (sym (c.in-Some.is ∙ ap Some c.in-Routine.is)) c.given_to-in-Routine.ensures

-- ---- the one argument

pub called-returns-in-None-split_first : goal.called-returns-in-None-split_first
called-returns-in-None-split_first t c =
    let here = here_of c.args.self.now.scope in
    let r = c.sole.result in
    let q = option_map value_of c.sole.new.out in
    subst (λ p. Puts r (called here p (arguments_of c.args.list.now)) c.args.sink.now c.sole.new.sink q) (sym (c.in-Some.is ∙ ap Some c.in-Sole.is))
    (subst (λ xs. Puts r (sole here c.in-Sole.applied c.in-Sole.position xs) c.args.sink.now c.sole.new.sink q)
    (sym (one_given c.args.list.now c.in-Some-split_first.others.now c.in-Some-split_first.first.now c.in-Some-split_first.ensures.cases.0 c.in-None-split_first.ensures.cases)) c.sole.ensures)

pub sole-returns-in_ok-value_in-in-Value : goal.sole-returns-in_ok-value_in-in-Value
sole-returns-in_ok-value_in-in-Value t c =
    let here = here_of c.args.self.now.scope in
    let e = expr_of c.in-Value.e in
    let v = option_map value_of c.value_in.new.out in
    let q = option_map value_of c.used.new.a in
    let r = c.used.result in
    let mid = c.value_in.new.sink in
    let new = c.used.new.sink in
    subst (λ a. Puts r (sole here c.args.what c.args.position (arguments (argument_of a) no_arguments)) c.args.sink.now new q) (sym c.in-Value.is)
    (puts_followed r (value_in here None e) (with_part (used here.core c.args.position c.args.what (position_of e).place)) c.args.sink.now mid new v q
    c.in_ok-value_in-in-Value.ensures
    (subst (λ p. Puts r (with_part (used here.core c.args.position c.args.what p.place) v) mid new q) c.position_of.ensures
    (subst (λ core. Puts r (with_part (used core c.args.position c.args.what c.position_of.result.place) v) mid new q) c.setting.ensures.core c.used.ensures)))

pub literal-returns-in-Some : goal.literal-returns-in-Some
literal-returns-in-Some t c =
    let here = here_of c.args.self.now.scope in
    let list = c.args.selectors.now in
    let text = c.args.text.now in
    let p = c.args.position in
    let d = option_map denoted_of c.text_selected-done.new.out in
    let mid = c.text_selected-done.new.sink in
    let new = c.as_value.new.sink in
    let q = option_map value_of c.as_value.new.out in
    subst (λ x. Puts c.as_value.result x c.args.sink.now new q) (literal_selected here text p list (c.in-Some.ensures.variant.0 refl))
    (behind c.text_selected-done.result c.as_value.result c.text_selected-done.ensures c.as_value.ensures
    (λ h k. reports_followed (selected here (Some (text_denoted p text)) (selectors_of list)) (with_part (settled here)) c.args.sink.now mid new d q h k))
