use Rattle.std.proofs.Common.{true, false, [], Some, reverse, arith, ap, subst, ◌∙◌}
use Rattle.std.specs.Option.{option_copied}
use Rattle.op_check_unit.proofs.Going.{array_denoted, indices_done, indices_more, lists_done, lists_more, record_denoted, set_denoted}
use Rattle.op_check_unit.specs.Steps.{Leaves, here_of}
use Rattle.op_check_unit.specs.Types.{index_over, start_of_denoter}
use Rattle.op_judgement.specs.Judgement.{with_part}
use Rattle.op_tree.proofs.Rows.{array_says, record_type_says}
use Rattle.op_tree.specs.Denoter.{denoter_of}
use Rattle.op_tree.specs.Lists.{denoters_of, field_lists_of}
use Rattle.op_check_unit.proofs.declarer.Declarer.+denoting.Goals as goal
use Rattle.op_check_unit.specs.Denoting.{denoted, field_lists, indices}
use Rattle.op_check_unit.specs.Records.{some_fields}
use Rattle.op_judgement.specs.Steps.{done, judged}

pub denoted-returns-in_ok-of-in-Set : goal.denoted-returns-in_ok-of-in-Set
denoted-returns-in_ok-of-in-Set t c =
    let own = (option_copied c.args.own) in
    let old = c.args.self.now in
    let mid = c.denoted.new.self in
    let far = c.set_over-of.new.self in
    let a = c.in-Set in
    let of = c.in_ok-of-in-Set.of in
    set_denoted own c.args.inside (denoter_of c.args.denoter.now) (denoter_of a.base.value) a.position of c.set_over-of.result c.start_of_denoter.result old mid far c.row_of-in-Set.new.self c.row_of-in-Set.result
    (ap denoter_of a.is)
    (subst (λ d. Leaves (denoted own false (denoter_of d) (here_of old)) old mid of) c.deref-in-Set.ensures c.in_ok-of-in-Set.ensures)
    (c.start_of_denoter.ensures ∙ ap (λ d. start_of_denoter (denoter_of d)) c.deref-in-Set-2.ensures)
    c.set_over-of.ensures
    c.row_of-in-Set.ensures

pub denoted-returns-in_ok-of-in-Array : goal.denoted-returns-in_ok-of-in-Array
denoted-returns-in_ok-of-in-Array t c =
    let own = (option_copied c.args.own) in
    let old = c.args.self.now in
    let mid = c.indices.new.self in
    let far = c.denoted-in-Array.new.self in
    let a = c.in-Array in
    let is = reverse c.in_ok-types-in-Array.types.items in
    array_denoted own c.args.inside (denoter_of c.args.denoter.now) (denoter_of a.element.value) a.position a.packed (denoters_of a.indices.items) is c.in_ok-of-in-Array.of old mid far c.array_of.new.self c.array_of.result
    (ap denoter_of a.is ∙ array_says a.position a.packed a.indices a.element)
    (subst (λ ds. Leaves (indices own [] (denoters_of ds) (here_of old)) old mid (Some is)) c.deref-in-Array.ensures.value c.in_ok-types-in-Array.ensures)
    (subst (λ d. Leaves (denoted own true (denoter_of d) (here_of mid)) mid far c.in_ok-of-in-Array.of) c.deref-in-Array-2.ensures c.in_ok-of-in-Array.ensures)
    c.array_of.ensures

pub denoted-returns-in_ok-field_lists-in-Record : goal.denoted-returns-in_ok-field_lists-in-Record
denoted-returns-in_ok-field_lists-in-Record t c =
    let own = (option_copied c.args.own) in
    let old = c.args.self.now in
    let mid = c.field_lists.new.self in
    let a = c.in-Record in
    let rows = c.field_lists.new.rows in
    record_denoted own c.args.inside (denoter_of c.args.denoter.now) a.position a.packed (field_lists_of a.fields.items) c.new-rows.result rows old mid c.record_of.new.self c.record_of.result
    (ap denoter_of a.is ∙ record_type_says a.position a.packed a.fields)
    c.new-rows.ensures
    (subst (λ fs. Leaves (field_lists own (field_lists_of fs) c.new-rows.result (here_of old)) old mid (Some rows)) c.deref-in-Record.ensures.value c.in_ok-field_lists-in-Record.ensures)
    c.record_of.ensures

pub field_lists-loop-list-preserved : goal.field_lists-loop-list-preserved
field_lists-loop-list-preserved t c =
    let x = c.list-item.result in
    let l = c.loop-list in
    let far = c.denoted.new.self in
    let of = c.in_ok-of.of in
    lists_more (option_copied c.args.own) c.args.lists.now l.list-index x l.rows c.some_fields.new.rows (done (field_lists (option_copied c.args.own) (field_lists_of c.args.lists.now) c.args.rows.now (here_of c.args.self.now))) c.args.self.now l.self far c.some_fields.new.self of
    c.loop-list-test.true c.list-item.is l.invariant c.in_ok-of.ensures
    (subst (λ ns. Leaves (some_fields of ns l.rows (here_of far)) far c.some_fields.new.self (Some c.some_fields.new.rows)) c.as_slice.ensures c.in_ok-some_fields.ensures)

pub field_lists-returns : goal.field_lists-returns
field_lists-returns t c =
    let h = c.loop-list-test.false in
    lists_done (option_copied c.args.own) c.args.lists.now c.loop-list.list-index c.loop-list.rows (done (field_lists (option_copied c.args.own) (field_lists_of c.args.lists.now) c.args.rows.now (here_of c.args.self.now))) c.args.self.now c.loop-list.self (omega (arith, h)) c.loop-list.invariant

pub indices-loop-denoter-preserved : goal.indices-loop-denoter-preserved
indices-loop-denoter-preserved t c =
    let x = c.denoter-item.result in
    let l = c.loop-denoter in
    let far = c.denoted.new.self in
    let of = c.in_ok-of.of in
    let more = c.index_over-of.result in
    indices_more (option_copied c.args.own) c.args.list.now l.denoter-index x l.types.items c.push.new.self.items (done (indices (option_copied c.args.own) [] (denoters_of c.args.list.now) (here_of c.args.self.now))) c.args.self.now l.self far c.index_over-of.new.self of more
    c.loop-denoter-test.true c.denoter-item.is c.in_ok-push.ensures.items l.invariant c.in_ok-of.ensures
    (subst (λ p. Leaves (judged (here_of far) (with_part (index_over far.core p) of)) far c.index_over-of.new.self more) c.start_of_denoter.ensures c.index_over-of.ensures)

pub indices-returns : goal.indices-returns
indices-returns t c =
    let h = c.loop-denoter-test.false in
    indices_done (option_copied c.args.own) c.args.list.now c.loop-denoter.denoter-index (reverse c.loop-denoter.types.items) (done (indices (option_copied c.args.own) [] (denoters_of c.args.list.now) (here_of c.args.self.now))) c.args.self.now c.loop-denoter.self (omega (arith, h)) c.loop-denoter.invariant
