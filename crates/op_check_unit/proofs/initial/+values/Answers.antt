use Rattle.std.proofs.Common.{◌∷◌, [], IfOk, ap, drop, refl, subst, sym, ◌+◌, ◌∙◌}
use Rattle.std.proofs.lemmas.List.{at_drop_all, nil_from_length}
use Rattle.std.specs.Option.{option_map}
use Rattle.op_judgement.proofs.Computed.{Reports}
use Rattle.op_check_stmt.proofs.Parts.{Completes, ends, next, seen}
use Rattle.op_check_stmt.specs.Parts.{items_of}
use Rattle.op_check_unit.proofs.Beginning.{all_values, next_field, other_field, refused_at}
use Rattle.op_check_unit.specs.Initials.{by_elements, by_fields, counted, elements, fields, first, shape_of, starts, values_in}
use Rattle.op_core.specs.Initial.{first_value_of, no_values, parts, values}
use Rattle.op_core.specs.Nodes.{first_values_of}
use Rattle.op_core.specs.Rows.{rows}
use Rattle.op_judgement.specs.Judgement.{changed, checked}
use Rattle.op_tree.proofs.Rows.{list_value_says, record_value_says}
use Rattle.op_tree.specs.Initial.{initial_of, no_field_initials}
use Rattle.op_tree.specs.Lists.{field_initials_of, initials_of}
use Rattle.op_check_unit.proofs.initial.+values.Goals as goal
use Rattle.op_judgement.specs.declared.rules.LanguageRule.TheVariants.{NoMember, NotAssignable}
use Rattle.op_types.proofs.Folding.{next_of}

pub first-returns-in-List : goal.first-returns-in-List
first-returns-in-List t c =
    let core = c.args.setting.core.now in
    let names = c.args.setting.visible.now in
    let a = c.in-List in
    let place = a.position.place in
    subst (λ i. IfOk c.list.result (λ v. Reports (checked (first core names c.args.of i)) c.args.sink.now c.list.new.sink (option_map first_value_of v))) (sym (ap initial_of a.is ∙ list_value_says a.position a.items))
    (subst (λ is. IfOk c.list.result (λ v. Reports (checked (by_elements place (λ count element. counted place count (starts (initials_of is)) (elements core names element (initials_of is))) (shape_of core c.args.of))) c.args.sink.now c.list.new.sink (option_map first_value_of v)))
    c.deref.ensures.value c.list.ensures)

pub first-returns-in-Record : goal.first-returns-in-Record
first-returns-in-Record t c =
    let core = c.args.setting.core.now in
    let names = c.args.setting.visible.now in
    let a = c.in-Record in
    let place = a.position.place in
    subst (λ i. IfOk c.record.result (λ v. Reports (checked (first core names c.args.of i)) c.args.sink.now c.record.new.sink (option_map first_value_of v))) (sym (ap initial_of a.is ∙ record_value_says a.position a.fields))
    (subst (λ is. IfOk c.record.result (λ v. Reports (checked (by_fields place (λ run. changed parts (fields core names place (rows core.fields run) (field_initials_of is))) (shape_of core c.args.of))) c.args.sink.now c.record.new.sink (option_map first_value_of v)))
    c.deref-in-Record.ensures.value c.record.ensures)

pub elements-loop-item-preserved : goal.elements-loop-item-preserved
elements-loop-item-preserved t c =
    let list = c.args.items.now in
    let l = c.loop-item in
    let x = c.item-item.result in
    let core = c.args.setting.core.now in
    let names = c.args.setting.visible.now in
    let whole = checked (elements core names c.args.of (initials_of list)) in
    next first_value_of values (items_of l.typed) (items_of c.collect.new.list) c.in_ok-part.part (option_map first_value_of c.in_ok-part.part) whole (checked (first core names c.args.of (initial_of x))) (checked (elements core names c.args.of (initials_of (drop (l.item-index + 1) list)))) c.args.sink.now l.sink c.first.new.sink
    (subst (λ r. Completes first_value_of values (items_of l.typed) whole (checked (elements core names c.args.of (initials_of r))) c.args.sink.now l.sink) (next_of list l.item-index x c.loop-item-test.true c.item-item.is) l.invariant)
    c.in_ok-part.ensures refl c.in_ok-collect.ensures

pub elements-returns : goal.elements-returns
elements-returns t c =
    let list = c.args.items.now in
    let l = c.loop-item in
    let core = c.args.setting.core.now in
    let names = c.args.setting.visible.now in
    let whole = checked (elements core names c.args.of (initials_of list)) in
    subst (Reports whole c.args.sink.now l.sink) (seen first_values_of l.typed)
    (ends first_value_of values no_values first_values_of all_values (items_of l.typed) whole c.args.sink.now l.sink
    (subst (λ r. Completes first_value_of values (items_of l.typed) whole r c.args.sink.now l.sink) (at_drop_all (λ is. checked (elements core names c.args.of (initials_of is))) list l.item-index c.loop-item-test.false) l.invariant))

pub fields-returns-in_default : goal.fields-returns-in_default
fields-returns-in_default t c =
    let list = c.args.items.now in
    let l = c.loop-item in
    let x = c.item-item.result in
    let parts = fields c.args.setting.core.now c.args.setting.visible.now c.args.bracket in
    let whole = checked (parts c.args.declared.now (field_initials_of list)) in
    subst (Reports whole c.args.sink.now c.refuse.new.sink) (sym (ap values_in c.refuse.ensures.0))
    (refused_at first_value_of values (items_of l.typed) whole (checked (parts l.left.now (field_initials_of (drop l.item-index list)))) NoMember x.name.position.place c.args.sink.now l.sink c.refuse.new.sink l.invariant
    (ap (λ fs. checked (parts fs (field_initials_of (drop l.item-index list)))) (nil_from_length l.left.now c.in_default.ensures.cases) ∙ ap (λ is. checked (parts [] (field_initials_of is))) (next_of list l.item-index x c.loop-item-test.true c.item-item.is))
    c.refuse.ensures.1)

pub fields-returns-then-not-is_name : goal.fields-returns-then-not-is_name
fields-returns-then-not-is_name t c =
    let list = c.args.items.now in
    let l = c.loop-item in
    let x = c.item-item.result in
    let f = c.in-Some.field.now in
    let fs = c.in-Some.others.now in
    let core = c.args.setting.core.now in
    let names = c.args.setting.visible.now in
    let parts = fields core names c.args.bracket in
    let whole = checked (parts c.args.declared.now (field_initials_of list)) in
    let new = c.refuse-then-not-is_name.new.sink in
    subst (Reports whole c.args.sink.now new) (sym (ap values_in c.refuse-then-not-is_name.ensures.0))
    (refused_at first_value_of values (items_of l.typed) whole (checked (parts l.left.now (field_initials_of (drop l.item-index list)))) NoMember x.name.position.place c.args.sink.now l.sink new l.invariant
    (ap (λ fs. checked (parts fs (field_initials_of (drop l.item-index list)))) c.in-Some.ensures.cases.0 ∙ ap (λ is. checked (parts (f ∷ fs) (field_initials_of is))) (next_of list l.item-index x c.loop-item-test.true c.item-item.is)
    ∙ other_field core names c.args.bracket f fs x.name (initial_of x.value) (field_initials_of (drop (l.item-index + 1) list)) (sym c.is_name.ensures ∙ c.if-not-is_name.true))
    c.refuse-then-not-is_name.ensures.1)

pub fields-loop-item-preserved : goal.fields-loop-item-preserved
fields-loop-item-preserved t c =
    let list = c.args.items.now in
    let l = c.loop-item in
    let x = c.item-item.result in
    let f = c.in-Some.field.now in
    let fs = c.in-Some.others.now in
    let core = c.args.setting.core.now in
    let names = c.args.setting.visible.now in
    let parts = fields core names c.args.bracket in
    let whole = checked (parts c.args.declared.now (field_initials_of list)) in
    let others = field_initials_of (drop (l.item-index + 1) list) in
    next first_value_of values (items_of l.typed) (items_of c.collect.new.list) c.in_ok-part.part (option_map first_value_of c.in_ok-part.part) whole (checked (first core names f.of (initial_of x.value))) (checked (parts fs others)) c.args.sink.now l.sink c.first.new.sink
    (subst (λ r. Completes first_value_of values (items_of l.typed) whole r c.args.sink.now l.sink)
    (ap (λ fs. checked (parts fs (field_initials_of (drop l.item-index list)))) c.in-Some.ensures.cases.0 ∙ ap (λ is. checked (parts (f ∷ fs) (field_initials_of is))) (next_of list l.item-index x c.loop-item-test.true c.item-item.is)
    ∙ next_field core names c.args.bracket f fs x.name (initial_of x.value) others (sym c.is_name.ensures ∙ c.if-not-is_name.false)) l.invariant)
    c.in_ok-part.ensures refl c.in_ok-collect.ensures

pub fields-returns-in-None : goal.fields-returns-in-None
fields-returns-in-None t c =
    let list = c.args.items.now in
    let l = c.loop-item in
    let parts = fields c.args.setting.core.now c.args.setting.visible.now c.args.bracket in
    let whole = checked (parts c.args.declared.now (field_initials_of list)) in
    subst (Reports whole c.args.sink.now l.sink) (seen first_values_of l.typed)
    (ends first_value_of values no_values first_values_of all_values (items_of l.typed) whole c.args.sink.now l.sink
    (subst (λ r. Completes first_value_of values (items_of l.typed) whole r c.args.sink.now l.sink)
    (at_drop_all (λ is. checked (parts l.left.now (field_initials_of is))) list l.item-index c.loop-item-test.false ∙ ap (λ fs. checked (parts fs no_field_initials)) (nil_from_length l.left.now c.in-None.ensures.cases)) l.invariant))

pub fields-returns-in-Some-split_first : goal.fields-returns-in-Some-split_first
fields-returns-in-Some-split_first t c =
    let list = c.args.items.now in
    let l = c.loop-item in
    let parts = fields c.args.setting.core.now c.args.setting.visible.now c.args.bracket in
    let whole = checked (parts c.args.declared.now (field_initials_of list)) in
    let new = c.refuse-in-Some-split_first.new.sink in
    subst (Reports whole c.args.sink.now new) (sym (ap values_in c.refuse-in-Some-split_first.ensures.0))
    (refused_at first_value_of values (items_of l.typed) whole (checked (parts l.left.now (field_initials_of (drop l.item-index list)))) NotAssignable c.args.bracket c.args.sink.now l.sink new l.invariant
    (at_drop_all (λ is. checked (parts l.left.now (field_initials_of is))) list l.item-index c.loop-item-test.false ∙ ap (λ fs. checked (parts fs no_field_initials)) c.in-Some-split_first.ensures.cases.0)
    c.refuse-in-Some-split_first.ensures.1)
