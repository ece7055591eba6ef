use Rattle.std.proofs.Common.{◌∷◌, [], ◌++◌, ◌+◌, List, drop, ap, sym, subst, ◌∙◌}
use Rattle.std.specs.Option.{option_to_list}
use Rattle.op_check_expr.specs.Scopes.{here_of}
use Rattle.op_judgement.specs.Judgement.{Reports, changed, checked}
use Rattle.op_check_stmt.proofs.Parts.{Completes, ends, next, noted, one, same}
use Rattle.op_check_stmt.proofs.Rows.{all_labels, next_element, none_left}
use Rattle.op_check_stmt.specs.Case.{label, labels, spots}
use Rattle.op_check_stmt.specs.Parts.{items_of}
use Rattle.op_check_stmt.specs.declared.case.Spot.{Spot}
use Rattle.op_core.specs.declared.statement.Label.{Label}
use Rattle.op_tree.specs.Expression.{element_of}
use Rattle.op_tree.specs.Statement.{elements_of}
use Rattle.op_check_stmt.proofs.case.labels.Goals as goal

pub loop-element-preserved : goal.loop-element-preserved
loop-element-preserved c =
    let here = here_of c.args.here.scope in
    let of = c.args.of in
    let list = c.args.elements.now in
    let k = c.loop-element.element-index in
    let x = c.element-item.result in
    let s = c.loop-element.sink in
    let rest = elements_of (drop (k + 1) list) in
    let e = next_element list k x c.loop-element-test.true c.element-item.is in
    record {
      typed = next (λ (y : Label). y) (λ y ys. y ∷ ys) (items_of c.loop-element.typed) (items_of c.collect.new.list) c.label_of.result c.label_of.result (checked (labels here of (elements_of list))) (checked (changed (λ (y : Spot). y.label) (label here of (element_of x)))) (checked (labels here of rest)) c.args.sink.now s c.label.new.sink
          (subst (λ r. Completes (λ (y : Label). y) (λ y ys. y ∷ ys) (items_of c.loop-element.typed) (checked (labels here of (elements_of list))) (checked (labels here of r)) c.args.sink.now s) e c.loop-element.invariant.typed)
          (one (λ (y : Spot). y.label) (checked (label here of (element_of x))) s c.label.new.sink c.in_ok-spot.spot c.label_of.result c.in_ok-spot.ensures c.label_of.ensures)
          (same c.label_of.result) c.in_ok-collect.ensures;
      noted = noted c.loop-element.others.items c.note.new.others.items (c.args.others.now.items ++ spots here of (elements_of list)) (option_to_list c.in_ok-spot.spot) (spots here of rest) (spots here of (elements_of (drop k list)))
          c.in_ok-note.ensures (ap (spots here of) e ∙ ap (λ y. option_to_list y ++ spots here of rest) (sym c.in_ok-spot.ensures.0)) c.loop-element.invariant.noted;
    }

pub returns-clause-reports : goal.returns-clause-reports
returns-clause-reports c =
    let here = here_of c.args.here.scope in
    let of = c.args.of in
    let list = c.args.elements.now in
    let typed = items_of c.loop-element.typed in
    let whole = labels here of (elements_of list) in
    subst (Reports whole c.args.sink.now c.loop-element.sink) (sym (same typed))
    (ends (λ (y : Label). y) (λ y ys. y ∷ ys) [] (λ (xs : List Label). xs) all_labels typed (checked whole) c.args.sink.now c.loop-element.sink
    (subst (λ r. Completes (λ (y : Label). y) (λ y ys. y ∷ ys) typed (checked whole) r c.args.sink.now c.loop-element.sink) (none_left (λ xs. checked (labels here of (elements_of xs))) list c.loop-element.element-index c.loop-element-test.false) c.loop-element.invariant.typed))
