use Rattle.std.proofs.Common.{ap, sym, ◌∙◌}
use Rattle.std.proofs.lemmas.List.{nil_from_length}
use Rattle.op_check_unit.specs.Initials.{is_bracketed}
use Rattle.op_tree.proofs.Rows.{designated_says}
use Rattle.op_tree.specs.Expression.{designated, designator, bracketed, expr_of, root_of}
use Rattle.op_tree.specs.Statement.{selectors_of}
use Rattle.op_check_unit.proofs.initial.is_bracketed.Goals as goal

pub returns-in-Bracketed-None : goal.returns-in-Bracketed-None
returns-in-Bracketed-None c =
    let a = c.in-Designator in
    let b = c.in-Bracketed-None in
    sym (ap is_bracketed (ap expr_of a.is ∙ designated_says a.called ∙ ap (λ r. designated (designator (root_of r) (selectors_of a.called.selectors.items))) b.is-0)
    ∙ ap (λ ss. is_bracketed (designated (designator (bracketed b.position-0 (expr_of b.inside-0.value)) (selectors_of ss)))) (sym c.deref.ensures.value ∙ nil_from_length c.deref.result.now b.ensures.cases))

pub returns-in_default-2 : goal.returns-in_default-2
returns-in_default-2 c =
    let a = c.in-Designator in
    let b = c.in_default-2 in
    sym (ap is_bracketed (ap expr_of a.is ∙ designated_says a.called ∙ ap (λ r. designated (designator (root_of r) (selectors_of a.called.selectors.items))) b.is-0)
    ∙ ap (λ ss. is_bracketed (designated (designator (bracketed b.field-0-0 (expr_of b.field-1-0.value)) (selectors_of ss)))) (sym c.deref.ensures.value ∙ b.ensures.cases.0))
