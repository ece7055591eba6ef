use Rattle.std.proofs.Common.{◌≡◌, ◌+◌, false, IfOk, Some, drop, refl, sym, ap, subst, ◌∙◌, arith}
use Rattle.op_base.proofs.Tests.{map_ok}
use Rattle.op_tree.proofs.Rows.{call_says, chain_says, designated_says, literal_says, set_says}
use Rattle.op_tree.specs.Expression.{call, chain, designator, element_of, expr_of, literal, member, named, no_selectors, selector_of, selectors}
use Rattle.op_tree.specs.Lists.{arguments_of, operations_of}
use Rattle.op_tree.specs.Statement.{elements_of, selectors_of}
use Rattle.op_judgement.specs.Judgement.{Reports, fine, with_part}
use Rattle.op_types.proofs.Folding.{Completes, begins, chained, ends, gathers, goes_on, literal_finds, next_of, next_operation, no_element, no_operand, not_folded, one_given, standing, members_begin, stops}
use Rattle.op_types.specs.ConstantParts.{literal_means, no_members, start_of, type_named, use_of}
use Rattle.op_types.specs.Folding.{Finds, are_constant_elements, are_constant_operands, argument_means, call_means, constant, designated_constant, element, gathered_means, in_brackets, is_constant, is_constant_argument, is_constant_call, is_constant_designator, is_constant_element, members, operations}
use Rattle.op_types.specs.Names.{lower, meaning_of}
use Rattle.op_types.proofs.setting.Setting.+folding.Goals as goal

pub expression-returns-in-Some : goal.expression-returns-in-Some
expression-returns-in-Some t c =
    let core = c.args.self.core.now in
    let names = c.args.self.visible.now in
    let first = expr_of c.in-Chain.first.value in
    let rest = operations_of c.in-Chain.rest.items in
    let a = c.in-Some.a in
    subst (λ e. IfOk c.operations.result (Finds (is_constant core names e) (constant core names e) c.args.sink.now c.operations.new.sink)) (sym (ap expr_of c.in-Chain.is ∙ chain_says c.in-Chain.first c.in-Chain.rest))
    (map_ok {P = Finds (are_constant_operands core names rest) (operations core names (start_of first) (with_part fine a) rest) c.expression.new.sink c.operations.new.sink} {Q = Finds (is_constant core names (chain first rest)) (constant core names (chain first rest)) c.args.sink.now c.operations.new.sink} c.operations.result
    (λ g k. chained core names first rest c.args.sink.now c.expression.new.sink a
    (subst (λ e. Finds (is_constant core names (expr_of e)) (constant core names (expr_of e)) c.args.sink.now c.expression.new.sink (Some a)) c.deref.ensures
    (subst (Finds (is_constant core names (expr_of c.deref.result.now)) (constant core names (expr_of c.deref.result.now)) c.args.sink.now c.expression.new.sink) c.in-Some.is c.in_ok-expression-in-Chain.ensures)) c.operations.new.sink g k)
    (subst (λ s. IfOk c.operations.result (Finds (are_constant_operands core names rest) (operations core names s (with_part fine a) rest) c.expression.new.sink c.operations.new.sink)) (c.start_of.ensures ∙ ap (λ e. start_of (expr_of e)) c.deref-in-Some.ensures)
    (subst (λ os. IfOk c.operations.result (Finds (are_constant_operands core names (operations_of os)) (operations core names c.start_of.result (with_part fine a) (operations_of os)) c.expression.new.sink c.operations.new.sink)) c.deref-in-Some-2.ensures.value c.operations.ensures)))

pub expression-returns-in-Designator : goal.expression-returns-in-Designator
expression-returns-in-Designator t c =
    subst (λ e. IfOk c.designated.result (Finds (is_constant c.args.self.core.now c.args.self.visible.now e) (constant c.args.self.core.now c.args.self.visible.now e) c.args.sink.now c.designated.new.sink))
    (sym (ap expr_of c.in-Designator.is ∙ designated_says c.in-Designator.called)) c.designated.ensures

pub selected-returns-in_ok-meaning-in-Call : goal.selected-returns-in_ok-meaning-in-Call
selected-returns-in_ok-meaning-in-Call t c =
    let core = c.args.self.core.now in
    let names = c.args.self.visible.now in
    let n = c.args.name.now in
    let place = n.position.place in
    let list = arguments_of c.deref.result.now in
    subst (λ s. IfOk c.call.result (Finds (is_constant_designator core names (designator (named n) (selectors s no_selectors))) (designated_constant core names (designator (named n) (selectors s no_selectors))) c.args.sink.now c.call.new.sink))
    ((λ i. call (arguments_of (c.deref.ensures.value i))) ∙ sym (ap selector_of c.in-Call.is ∙ call_says c.in-Call.arguments))
    (subst (λ m. IfOk c.call.result (Finds (is_constant_call (type_named names list) (is_constant_argument core names list) (use_of core m)) (call_means core place (type_named names list) (argument_means core names place list) (use_of core m)) c.args.sink.now c.call.new.sink))
    (c.in_ok-meaning-in-Call.ensures ∙ ap (λ n. meaning_of names (lower n)) c.as_slice.ensures) c.call.ensures)

pub selected_in_unit-returns-in-Call : goal.selected_in_unit-returns-in-Call
selected_in_unit-returns-in-Call t c =
    let core = c.args.self.core.now in
    let names = c.args.self.visible.now in
    subst (λ s. IfOk c.call_in_unit.result (Finds (is_constant_designator core names (designator (named c.args.unit.now) (selectors (member c.args.name.now) (selectors s no_selectors)))) (designated_constant core names (designator (named c.args.unit.now) (selectors (member c.args.name.now) (selectors s no_selectors)))) c.args.sink.now c.call_in_unit.new.sink))
    ((λ i. call (arguments_of (c.deref.ensures.value i))) ∙ sym (ap selector_of c.in-Call.is ∙ call_says c.in-Call.arguments)) c.call_in_unit.ensures

pub expression-returns-in-Literal : goal.expression-returns-in-Literal
expression-returns-in-Literal t c =
    let core = c.args.self.core.now in
    let names = c.args.self.visible.now in
    subst (λ e. IfOk c.literal.result (Finds (is_constant core names e) (constant core names e) c.args.sink.now c.args.sink.now))
    (sym (ap expr_of c.in-Literal.is ∙ literal_says c.in-Literal.text c.in-Literal.position c.in-Literal.selectors))
    (let e = literal c.in-Literal.text c.in-Literal.position (selectors_of c.in-Literal.selectors.items) in
    map_ok {P = λ g. g ≡ literal_means c.as_slice.result.now (selectors_of c.deref-in-Literal.result.now)} {Q = Finds (is_constant core names e) (constant core names e) c.args.sink.now c.args.sink.now} c.literal.result
    (λ g h. literal_finds core names c.in-Literal.text c.in-Literal.position (selectors_of c.in-Literal.selectors.items) c.args.sink.now g (h ∙ (λ i. literal_means (c.as_slice.ensures i) (selectors_of (c.deref-in-Literal.ensures.value i)))))
    c.literal.ensures)

pub operations-loop-operation-init : goal.operations-loop-operation-init
operations-loop-operation-init t c = begins c.args.self.core.now c.args.self.visible.now c.args.start (operations_of c.args.rest.now) c.args.sink.now c.args.first

pub operations-loop-operation-preserved : goal.operations-loop-operation-preserved
operations-loop-operation-preserved t c =
    let core = c.args.self.core.now in
    let names = c.args.self.visible.now in
    let x = c.operation-item.result in
    let others = operations_of (drop (c.loop-operation.operation-index + 1) c.args.rest.now) in
    let f = c.is_folded.ensures in
    let g = c.if-not-is_folded.false in
    record {
      completes = λ new given k. c.loop-operation.invariant.completes new given
          (subst (λ os. Finds (are_constant_operands core names os) (operations core names c.args.start (standing c.loop-operation.a) os) c.loop-operation.sink new given)
          (sym (next_operation c.args.rest.now c.loop-operation.operation-index x c.loop-operation-test.true c.operation-item.is))
          (goes_on core names c.args.start x others c.loop-operation.sink c.expression.new.sink c.operation.new.sink c.loop-operation.a c.in-Some.b c.in_ok-a.a
          (grind (arith, f, g))
          (subst (Finds (is_constant core names (expr_of x.operand)) (constant core names (expr_of x.operand)) c.loop-operation.sink c.expression.new.sink) c.in-Some.is c.in_ok-b.ensures)
          c.in_ok-a.ensures new given k));
    }

pub operations-returns-in_default : goal.operations-returns-in_default
operations-returns-in_default t c =
    let core = c.args.self.core.now in
    let names = c.args.self.visible.now in
    let x = c.operation-item.result in
    let whole = operations_of c.args.rest.now in
    let rest = operations_of (drop c.loop-operation.operation-index c.args.rest.now) in
    let others = operations_of (drop (c.loop-operation.operation-index + 1) c.args.rest.now) in
    stops (are_constant_operands core names whole) (are_constant_operands core names rest) (operations core names c.args.start (with_part fine c.args.first) whole) (operations core names c.args.start (standing c.loop-operation.a) rest) c.args.sink.now c.loop-operation.sink c.loop-operation.invariant
    (subst (λ os. are_constant_operands core names os ≡ false) (sym (next_operation c.args.rest.now c.loop-operation.operation-index x c.loop-operation-test.true c.operation-item.is))
    (no_operand core names x others
    (subst (Finds (is_constant core names (expr_of x.operand)) (constant core names (expr_of x.operand)) c.loop-operation.sink c.expression.new.sink) c.in_default.is c.in_ok-b.ensures)))

pub operations-returns-then-not-is_folded : goal.operations-returns-then-not-is_folded
operations-returns-then-not-is_folded t c =
    let core = c.args.self.core.now in
    let names = c.args.self.visible.now in
    let x = c.operation-item.result in
    let whole = operations_of c.args.rest.now in
    let rest = operations_of (drop c.loop-operation.operation-index c.args.rest.now) in
    let others = operations_of (drop (c.loop-operation.operation-index + 1) c.args.rest.now) in
    let f = c.is_folded.ensures in
    let g = c.if-not-is_folded.true in
    stops (are_constant_operands core names whole) (are_constant_operands core names rest) (operations core names c.args.start (with_part fine c.args.first) whole) (operations core names c.args.start (standing c.loop-operation.a) rest) c.args.sink.now c.loop-operation.sink c.loop-operation.invariant
    (subst (λ os. are_constant_operands core names os ≡ false) (sym (next_operation c.args.rest.now c.loop-operation.operation-index x c.loop-operation-test.true c.operation-item.is))
    (not_folded core names x others (grind (arith, f, g))))

pub operations-returns : goal.operations-returns
operations-returns t c =
    let core = c.args.self.core.now in
    let names = c.args.self.visible.now in
    let whole = operations_of c.args.rest.now in
    let a = c.loop-operation.a in
    ends (are_constant_operands core names whole) (operations core names c.args.start (with_part fine c.args.first) whole) c.args.rest.now c.loop-operation.operation-index (λ os. are_constant_operands core names (operations_of os)) (λ os. operations core names c.args.start (standing a) (operations_of os)) c.args.sink.now c.loop-operation.sink a
    c.loop-operation-test.false refl (refl, (refl, refl)) c.loop-operation.invariant

pub members-returns-in_default : goal.members-returns-in_default
members-returns-in_default t c =
    let core = c.args.self.core.now in
    let names = c.args.self.visible.now in
    let list = c.args.elements.now in
    let k = c.loop-element.element-index in
    let x = c.element-item.result in
    let rest = elements_of (drop k list) in
    stops (are_constant_elements core names (elements_of list)) (are_constant_elements core names rest) (members core names (fine no_members) (elements_of list)) (members core names (standing c.loop-element.set) rest) c.args.sink.now c.loop-element.sink c.loop-element.invariant
    (subst (λ es. are_constant_elements core names (elements_of es) ≡ false) (sym (next_of list k x c.loop-element-test.true c.element-item.is))
    (no_element core names x (drop (k + 1) list)
    (subst (Finds (is_constant_element core names (element_of x)) (element core names (element_of x)) c.loop-element.sink c.element.new.sink) c.in_default.is c.in_ok-more.ensures)))

pub members-returns : goal.members-returns
members-returns t c =
    let core = c.args.self.core.now in
    let names = c.args.self.visible.now in
    let list = c.args.elements.now in
    let set = c.loop-element.set in
    ends (are_constant_elements core names (elements_of list)) (members core names (fine no_members) (elements_of list)) list c.loop-element.element-index (λ es. are_constant_elements core names (elements_of es)) (λ es. members core names (standing set) (elements_of es)) c.args.sink.now c.loop-element.sink set
    c.loop-element-test.false refl (refl, (refl, refl)) c.loop-element.invariant

pub call-returns-in-None-split_first-2 : goal.call-returns-in-None-split_first-2
call-returns-in-None-split_first-2 t c =
    let core = c.args.self.core.now in
    let names = c.args.self.visible.now in
    let place = c.args.place in
    let list = arguments_of c.args.list.now in
    subst (λ u. IfOk c.argument.result (Finds (is_constant_call (type_named names list) (is_constant_argument core names list) u) (call_means core place (type_named names list) (argument_means core names place list) u) c.args.sink.now c.argument.new.sink))
    (sym (c.in-Some-Apply.is ∙ ap Some c.in-Some-Apply.field-0-is) ∙ c.use_of.ensures)
    (subst (λ given. IfOk c.argument.result (Finds (is_constant_argument core names given) (argument_means core names place given c.in-Some-Apply.what) c.args.sink.now c.argument.new.sink))
    (sym (one_given c.args.list.now c.in-Some-split_first.others.now c.in-Some-split_first.first.now c.in-Some-split_first.ensures.cases.0 c.in-None-split_first-2.ensures.cases))
    c.argument.ensures)

pub expression-returns-in-Set : goal.expression-returns-in-Set
expression-returns-in-Set t c =
    let core = c.args.self.core.now in
    let names = c.args.self.visible.now in
    subst (λ e. IfOk c.set.result (Finds (is_constant core names e) (constant core names e) c.args.sink.now c.set.new.sink)) (sym (ap expr_of c.in-Set.is ∙ set_says c.in-Set.position c.in-Set.elements))
    (subst (λ es. IfOk c.set.result (Finds (are_constant_elements core names (elements_of es)) (in_brackets (members core names (fine no_members) (elements_of es))) c.args.sink.now c.set.new.sink)) c.deref-in-Set.ensures.value c.set.ensures)

pub members-loop-element-init : goal.members-loop-element-init
members-loop-element-init t c =
    let core = c.args.self.core.now in
    let names = c.args.self.visible.now in
    let es = elements_of c.args.elements.now in
    let s = c.args.sink.now in
    subst (λ n. Completes (are_constant_elements core names es) (members core names (fine no_members) es) (are_constant_elements core names es) (members core names (standing (Some n)) es) s s) (sym c.no_members.ensures)
    (members_begin core names es s)

pub members-loop-element-preserved : goal.members-loop-element-preserved
members-loop-element-preserved t c =
    let core = c.args.self.core.now in
    let names = c.args.self.visible.now in
    let list = c.args.elements.now in
    let k = c.loop-element.element-index in
    let x = c.element-item.result in
    record {
      completes = λ new given h. c.loop-element.invariant.completes new given
          (subst (λ es. Finds (are_constant_elements core names (elements_of es)) (members core names (standing c.loop-element.set) (elements_of es)) c.loop-element.sink new given)
          (sym (next_of list k x c.loop-element-test.true c.element-item.is))
          (gathers core names x (drop (k + 1) list) c.loop-element.sink c.element.new.sink c.gather.new.sink c.loop-element.set c.in-Some.more c.in_ok-set.set
          (subst (Finds (is_constant_element core names (element_of x)) (element core names (element_of x)) c.loop-element.sink c.element.new.sink) c.in-Some.is c.in_ok-more.ensures)
          (subst (λ p. Reports (gathered_means core p c.loop-element.set c.in-Some.more) c.element.new.sink c.gather.new.sink c.in_ok-set.set) c.start_of_element.ensures c.in_ok-set.ensures)
          new given h));
    }
