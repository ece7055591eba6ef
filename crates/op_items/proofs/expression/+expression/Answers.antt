use Rattle.std.proofs.Common.{ap, refl, subst, sym, ◌∙◌}
use Rattle.op_base.proofs.Tests.{map_ok}
use Rattle.op_core.proofs.Nodes.{list_nodes}
use Rattle.op_core.specs.Expression.{action_of, argument_of, call, construct, element_of, expr_of, range, root_of, set}
use Rattle.op_core.specs.Nodes.{arguments_of, elements_of, expressions_of}
use Rattle.op_core.specs.Sizes.{type_at}
use Rattle.op_items.proofs.Finding.{acts_gives, find_begins, find_ends, find_goes_on, index_gives, makes, stands, step_gives, step_ok, two_gives}
use Rattle.op_items.proofs.Productions.{call_found, construct_found, gather_ends, gather_goes_on, listed_given, one_gathered, pass_adds, pass_ends, pass_given, range_gathered, root_gives, set_found, two_alike, two_made}
use Rattle.op_items.specs.Adding.{Adds, Gives, env_view, found_view, two_on}
use Rattle.op_items.specs.Setting.{here_view}
use Rattle.op_meaning.specs.Expressions.{at_path, converted, found, make, past, prefix}
use Rattle.op_meaning.specs.Items.{acts, by_copy, none}
use Rattle.op_items.proofs.expression.+expression.Goals as goal

pub find-loop-each-init : goal.find-loop-each-init
find-loop-each-init t c = find_begins c.args.setting c.args.items.now.items c.root.new.items.items c.in_ok-found.found (here_view c.args.here) c.args.e.now c.deref-each-items.result.now c.deref-each-items.ensures.value c.in_ok-found.ensures

pub find-loop-each-preserved : goal.find-loop-each-preserved
find-loop-each-preserved t c = find_goes_on c.args.setting c.loop-each.items.items c.step.new.items.items c.loop-each.found c.in_ok-found-2.found (here_view c.args.here) c.loop-each.of c.deref-each-items.result.now c.loop-each.each-index c.each-item.result _ c.loop-each-test.true c.each-item.is c.in_ok-found-2.ensures c.loop-each.invariant

pub find-returns : goal.find-returns
find-returns t c = find_ends c.args.setting c.args.items.now.items c.loop-each.items.items c.loop-each.found (here_view c.args.here) c.loop-each.of c.deref-each-items.result.now c.loop-each.each-index _ c.loop-each-test.false c.loop-each.invariant

pub gather-loop-each-preserved : goal.gather-loop-each-preserved
gather-loop-each-preserved t c = gather_goes_on c.args.setting c.loop-each.items.items c.gather_one.new.items.items c.compute.new.items.items (here_view c.args.here) c.args.elements.now c.loop-each.each-index c.each-item.result c.first-to.result.0 c.in_ok-right.right.0 _ c.loop-each-test.true c.each-item.is c.first-to.ensures c.in_ok-right.ensures c.in_ok-gather_one.ensures c.in_ok-compute.ensures c.loop-each.invariant

pub gather-returns : goal.gather-returns
gather-returns t c = gather_ends c.args.setting c.args.items.now.items c.loop-each.items.items (here_view c.args.here) c.args.elements.now c.loop-each.each-index _ c.loop-each-test.false c.loop-each.invariant

pub gather_one-returns-in_ok-make-in-One : goal.gather_one-returns-in_ok-make-in-One
gather_one-returns-in_ok-make-in-One t c = one_gathered c.args.setting c.args.items.now.items c.make.new.items.items c.compute.new.items.items c.compute.result (here_view c.args.here) (here_view c.in_ok-past-in-One.field-0) (element_of c.args.element.now) (expr_of c.in-One.value) c.in_ok-to.to.0 (ap element_of c.in-One.is) c.in_ok-past-in-One.ensures c.in_ok-to.ensures c.in_ok-make-in-One.ensures c.compute.ensures

pub gather_one-returns-in_ok-last-in-Range : goal.gather_one-returns-in_ok-last-in-Range
gather_one-returns-in_ok-last-in-Range t c =
    range_gathered c.args.setting c.args.items.now.items c.make-in-Range.new.items.items c.make-in-Range-2.new.items.items c.compute-in-Range.new.items.items c.compute-in-Range.result (here_view c.args.here) (here_view c.in_ok-past-in-Range.field-0) (here_view c.in_ok-past-in-Range-2.field-0)
    (element_of c.args.element.now) (expr_of c.deref.result.now) (expr_of c.deref-in-Range.result.now) c.in_ok-to.to.0 c.in_ok-last-in-Range.last.0
    (ap element_of c.in-Range.is ∙ ap (λ x. range (expr_of x) (expr_of c.in-Range.last.value)) (sym c.deref.ensures) ∙ ap (λ x. range (expr_of c.deref.result.now) (expr_of x)) (sym c.deref-in-Range.ensures))
    c.in_ok-past-in-Range.ensures c.in_ok-past-in-Range-2.ensures c.in_ok-to.ensures c.in_ok-last-in-Range.ensures c.in_ok-make-in-Range.ensures c.in_ok-make-in-Range-2.ensures c.compute-in-Range.ensures

pub make-returns : goal.make-returns
make-returns t c = makes c.args.setting c.args.items.now.items c.find.new.items.items c.make.new.items.items c.in_ok-found.found c.make.result (here_view c.args.here) (expr_of c.args.e.now) c.type_of.result c.type_of.ensures c.in_ok-found.ensures c.make.ensures

pub pass-loop-each-preserved : goal.pass-loop-each-preserved
pass-loop-each-preserved t c = record {
  adds = pass_adds c.args.setting c.loop-each.items.items c.pass_one.new.items.items (here_view c.loop-each.here) (here_view c.in_ok-past_whole.field-0) (here_view c.in_ok-here.here) c.args.arguments.now c.loop-each.each-index c.each-item.result c.in_ok-passed.passed _ c.loop-each-test.true c.each-item.is c.in_ok-past_whole.ensures c.in_ok-here.ensures c.in_ok-passed.ensures c.loop-each.invariant.adds;
  given = pass_given c.args.setting c.loop-each.items.items c.pass_one.new.items.items (here_view c.loop-each.here) (here_view c.in_ok-past_whole.field-0) (here_view c.in_ok-here.here) c.args.arguments.now c.loop-each.each-index c.each-item.result c.in_ok-passed.passed c.loop-each.given.items c.push.new.self.items _ c.loop-each-test.true c.each-item.is c.in_ok-past_whole.ensures c.in_ok-here.ensures c.in_ok-passed.ensures c.in_ok-push.ensures.items c.loop-each.invariant.given;
}

pub pass-returns : goal.pass-returns
pass-returns t c = pass_ends c.args.setting c.args.items.now.items c.loop-each.items.items (here_view c.args.here) (here_view c.loop-each.here) c.args.arguments.now c.loop-each.each-index c.loop-each.given _ c.loop-each-test.false c.loop-each.invariant.adds c.loop-each.invariant.given

pub pass_one-returns-in-Elements : goal.pass_one-returns-in-Elements
pass_one-returns-in-Elements t c = listed_given c.args.setting c.args.items.now.items (here_view c.args.here) (argument_of c.args.argument.now) c.in-Elements.of (expressions_of c.in-Elements.values.items) _ (ap argument_of c.in-Elements.is ∙ list_nodes.listed_says c.in-Elements.of c.in-Elements.values) (ap (by_copy c.in-Elements.of) c.whole_path-path.ensures) refl

pub root-returns-in-Variable : goal.root-returns-in-Variable
root-returns-in-Variable t c = root_gives c.args.setting c.args.items.now.items c.args.items.now.items c.at.result (here_view c.args.here) c.args.of (ap root_of c.in-Variable.is) (stands c.args.setting c.args.items.now.items c.at.result _ (c.at.ensures ∙ ap (λ p. found none (at_path p)) c.variable.ensures))

pub root-returns-in-Object : goal.root-returns-in-Object
root-returns-in-Object t c = root_gives c.args.setting c.args.items.now.items c.args.items.now.items c.at-in-Object.result (here_view c.args.here) c.args.of (ap root_of c.in-Object.is) (stands c.args.setting c.args.items.now.items c.at-in-Object.result _ (c.at-in-Object.ensures ∙ ap (λ p. found none (at_path p)) c.variable-in-Object.ensures))

pub root-returns-in_ok-enter-in-Call : goal.root-returns-in_ok-enter-in-Call
root-returns-in_ok-enter-in-Call t c =
    call_found c.args.setting c.args.items.now.items c.pass.new.items.items c.enter.new.items.items c.ready.result (here_view c.args.here) (here_view c.in_ok-past_whole-in-Call.field-0) c.args.of (root_of c.args.root.now) c.in-Call.routine (arguments_of c.deref.result.now) c.in_ok-given-in-Call.given
    (ap root_of c.in-Call.is ∙ list_nodes.call_says c.in-Call.routine c.in-Call.arguments ∙ ap (λ xs. call c.in-Call.routine (arguments_of xs)) (sym c.deref.ensures.value))
    c.in_ok-past_whole-in-Call.ensures c.in_ok-given-in-Call.ensures c.in_ok-enter-in-Call.ensures c.ready.ensures

pub root-returns-in_ok-construct-in-Construct : goal.root-returns-in_ok-construct-in-Construct
root-returns-in_ok-construct-in-Construct t c =
    construct_found c.args.setting c.args.items.now.items c.pass-in-Construct.new.items.items c.construct.new.items.items c.ready-in-Construct.result (here_view c.args.here) (here_view c.in_ok-past_whole-in-Construct.field-0) c.args.of (root_of c.args.root.now) c.in-Construct.class c.in-Construct.constructor (arguments_of c.deref-in-Construct.result.now) c.in_ok-given-in-Construct.given
    (ap root_of c.in-Construct.is ∙ list_nodes.construct_says c.in-Construct.class c.in-Construct.constructor c.in-Construct.arguments ∙ ap (λ xs. construct c.in-Construct.class c.in-Construct.constructor (arguments_of xs)) (sym c.deref-in-Construct.ensures.value))
    c.in_ok-past_whole-in-Construct.ensures c.in_ok-given-in-Construct.ensures c.in_ok-construct-in-Construct.ensures c.ready-in-Construct.ensures

pub root-returns-in_ok-gather-in-Set : goal.root-returns-in_ok-gather-in-Set
root-returns-in_ok-gather-in-Set t c =
    set_found c.args.setting c.args.items.now.items c.number.new.items.items c.gather.new.items.items c.ready-in-Set.result (here_view c.args.here) c.args.of (root_of c.args.root.now) (elements_of c.deref-in-Set.result.now) c.first.result.0
    (ap root_of c.in-Set.is ∙ list_nodes.set_says c.in-Set.elements ∙ ap (λ xs. set (elements_of xs)) (sym c.deref-in-Set.ensures.value))
    c.first.ensures c.in_ok-number-in-Set.ensures c.in_ok-gather-in-Set.ensures c.ready-in-Set.ensures

pub root-returns-in-Eof : goal.root-returns-in-Eof
root-returns-in-Eof t c = root_gives c.args.setting c.args.items.now.items c.args.items.now.items c.ready-in-Eof.result (here_view c.args.here) c.args.of (ap root_of c.in-Eof.is) (stands c.args.setting c.args.items.now.items c.ready-in-Eof.result _ c.ready-in-Eof.ensures)

pub root-returns-in-Eoln : goal.root-returns-in-Eoln
root-returns-in-Eoln t c = root_gives c.args.setting c.args.items.now.items c.args.items.now.items c.ready-in-Eoln.result (here_view c.args.here) c.args.of (ap root_of c.in-Eoln.is) (stands c.args.setting c.args.items.now.items c.ready-in-Eoln.result _ c.ready-in-Eoln.ensures)

pub second-returns-in_ok-operate-in-None : goal.second-returns-in_ok-operate-in-None
second-returns-in_ok-operate-in-None t c =
    subst (λ of. Gives c.args.setting c.args.items.now.items c.operate.new.items.items c.ready.result (two_on (env_view c.args.setting) (here_view c.args.here) c.args.operator c.args.checked of (expr_of c.args.operand.now))) c.type_at-of.ensures
    (two_made c.args.setting c.args.items.now.items c.make.new.items.items c.operate.new.items.items c.ready.result (here_view c.args.here) (here_view c.in_ok-past-in-None.field-0) c.args.operator c.args.checked c.type_at-of.result (expr_of c.args.operand.now) c.first.result.0 c.in-None.ensures c.in_ok-past-in-None.ensures c.first.ensures c.in_ok-make-in-None.ensures c.in_ok-operate-in-None.ensures c.ready.ensures)

pub second-returns-in_ok-also-in-Some : goal.second-returns-in_ok-also-in-Some
second-returns-in_ok-also-in-Some t c =
    subst (λ of. Gives c.args.setting c.args.items.now.items c.also.new.items.items c.ready-in-Some.result (two_on (env_view c.args.setting) (here_view c.args.here) c.args.operator c.args.checked of (expr_of c.args.operand.now))) c.type_at-of.ensures
    (two_alike c.args.setting c.args.items.now.items c.also.new.items.items c.new-second.result.items c.make-in-Some.new.items.items c.ready-in-Some.result (here_view c.args.here) c.args.operator c.args.checked c.type_at-of.result (expr_of c.args.operand.now) c.in-Some.truth c.first-in-Some.result.0 c.in-Some.ensures c.first-in-Some.ensures c.new-second.ensures.items c.in_ok-make-in-Some.ensures c.in_ok-also-in-Some.ensures c.ready-in-Some.ensures)

pub step-returns-in_ok-convert-in-Convert : goal.step-returns-in_ok-convert-in-Convert
step-returns-in_ok-convert-in-Convert t c = step_gives c.args.setting c.args.items.now.items c.convert.new.items.items c.in_ok-found-in-Convert.found (here_view c.args.here) c.args.of c.args.to (found_view c.args.found) (ap action_of c.in-Convert.is) (acts_gives c.args.setting c.args.items.now.items c.own.new.items.items c.convert.new.items.items c.in_ok-found-in-Convert.found _ (converted c.args.setting.core.now c.in-Convert.conversion c.args.to) c.first.result.0 _ c.first.ensures c.in_ok-found-in-Convert.ensures c.in_ok-convert-in-Convert.ensures)

pub step-returns-in-Field : goal.step-returns-in-Field
step-returns-in-Field t c = step_ok c.args.setting c.args.items.now.items c.args.items.now.items c.field.result (here_view c.args.here) c.args.of c.args.to (found_view c.args.found) (ap action_of c.in-Field.is) (map_ok c.field.result (λ f e. stands c.args.setting c.args.items.now.items f _ e) c.field.ensures)

pub step-returns-in_ok-make-in-Index : goal.step-returns-in_ok-make-in-Index
step-returns-in_ok-make-in-Index t c =
    step_ok c.args.setting c.args.items.now.items c.indexed.new.items.items c.indexed.result (here_view c.args.here) c.args.of c.args.to (found_view c.args.found) (ap action_of c.in-Index.is)
    (index_gives c.args.setting c.args.items.now.items c.make.new.items.items c.indexed.new.items.items c.args.found c.indexed.result c.args.of (here_view c.args.here) _
    (subst (λ h. Adds c.args.setting c.args.items.now.items c.make.new.items.items (make (env_view c.args.setting) h (expr_of c.in-Index.at)).items) (c.in_ok-past-in-Index.ensures ∙ ap (past c.args.found.used) c.in_ok-past_whole-in-Index.ensures) c.in_ok-make-in-Index.ensures)
    c.indexed.ensures)

pub step-returns-in_ok-prefix-in-Prefix : goal.step-returns-in_ok-prefix-in-Prefix
step-returns-in_ok-prefix-in-Prefix t c =
    step_gives c.args.setting c.args.items.now.items c.prefix.new.items.items c.in_ok-found-in-Prefix.found (here_view c.args.here) c.args.of c.args.to (found_view c.args.found) (ap action_of c.in-Prefix.is)
    (acts_gives c.args.setting c.args.items.now.items c.own-in-Prefix.new.items.items c.prefix.new.items.items c.in_ok-found-in-Prefix.found _ (prefix c.in-Prefix.operator c.in-Prefix.checked (type_at c.args.setting.core.now c.args.of)) c.first-in-Prefix.result.0 _ c.first-in-Prefix.ensures c.in_ok-found-in-Prefix.ensures
    (subst (λ t. Adds c.args.setting c.own-in-Prefix.new.items.items c.prefix.new.items.items (acts (prefix c.in-Prefix.operator c.in-Prefix.checked t c.first-in-Prefix.result.0))) c.type_at-of.ensures c.in_ok-prefix-in-Prefix.ensures))

pub step-returns-in_ok-make-in-Operate : goal.step-returns-in_ok-make-in-Operate
step-returns-in_ok-make-in-Operate t c =
    step_ok c.args.setting c.args.items.now.items c.second.new.items.items c.second.result (here_view c.args.here) c.args.of c.args.to (found_view c.args.found) (ap action_of c.in-Operate.is)
    (two_gives c.args.setting c.args.items.now.items c.make-in-Operate.new.items.items c.second.new.items.items c.second.result (here_view c.args.here) c.in-Operate.operator c.in-Operate.checked (type_at c.args.setting.core.now c.args.of) (expr_of c.in-Operate.operand) _ c.in_ok-make-in-Operate.ensures c.second.ensures)

pub step-returns-in-Call : goal.step-returns-in-Call
step-returns-in-Call t c = step_gives c.args.setting c.args.items.now.items c.args.items.now.items c.args.found (here_view c.args.here) c.args.of c.args.to (found_view c.args.found) (ap action_of c.in-Call.is) (stands c.args.setting c.args.items.now.items c.args.found (found_view c.args.found) refl)

pub step-returns-in-Is : goal.step-returns-in-Is
step-returns-in-Is t c = step_gives c.args.setting c.args.items.now.items c.args.items.now.items c.args.found (here_view c.args.here) c.args.of c.args.to (found_view c.args.found) (ap action_of c.in-Is.is) (stands c.args.setting c.args.items.now.items c.args.found (found_view c.args.found) refl)

pub step-returns-in-Copy : goal.step-returns-in-Copy
step-returns-in-Copy t c = step_gives c.args.setting c.args.items.now.items c.args.items.now.items c.args.found (here_view c.args.here) c.args.of c.args.to (found_view c.args.found) (ap action_of c.in-Copy.is) (stands c.args.setting c.args.items.now.items c.args.found (found_view c.args.found) refl)
