use Rattle.std.proofs.Common.{◌≡◌, IfOk, sym, ap, ◌∙◌, subst, arith}
use Rattle.std.specs.Option.{option_map}
use Rattle.std.proofs.lemmas.Bool.Decides.{nat_tests}
use Rattle.op_parse_decl.proofs.Denoted.{bracketed_more, none_selected, string_alone, string_more}
use Rattle.op_parse_decl.specs.Types.{denoted}
use Rattle.op_tree.proofs.Rows.{designated_says}
use Rattle.op_tree.specs.Denoter.{denoter_of}
use Rattle.op_tree.specs.Expression.{bracketed, designated, designator, expr_of, root_of}
use Rattle.op_tree.specs.Statement.{selectors_of}
use Rattle.op_parse_decl.proofs.nodes.denoted.Goals as goal

pub returns-then-is_empty : goal.returns-then-is_empty
returns-then-is_empty c =
    let d = c.in-Designator.designator in
    let says = ap expr_of c.in-Designator.is ∙ designated_says d ∙ ap (λ r. designated (designator (root_of r) (selectors_of d.selectors.items))) c.in-String.is in
    sym (ap denoted says ∙ string_alone c.in-String.position d.selectors.items (grind (arith, nat_tests)))

pub returns-else-is_empty : goal.returns-else-is_empty
returns-else-is_empty c =
    let d = c.in-Designator.designator in
    let says = ap expr_of c.in-Designator.is ∙ designated_says d ∙ ap (λ r. designated (designator (root_of r) (selectors_of d.selectors.items))) c.in-String.is in
    sym (ap denoted says ∙ string_more c.in-String.position d.selectors.items (grind (arith, nat_tests)))

pub returns-in-Named : goal.returns-in-Named
returns-in-Named c =
    let d = c.in-Designator.designator in
    let says = ap expr_of c.in-Designator.is ∙ designated_says d ∙ ap (λ r. designated (designator (root_of r) (selectors_of d.selectors.items))) c.in-Named.is in
    c.named.ensures ∙ sym (ap denoted says)

pub returns-then-not-is_empty : goal.returns-then-not-is_empty
returns-then-not-is_empty c =
    let d = c.in-Designator.designator in
    let says = ap expr_of c.in-Designator.is ∙ designated_says d ∙ ap (λ r. designated (designator (root_of r) (selectors_of d.selectors.items))) c.in-Bracketed.is in
    sym (ap denoted says ∙ bracketed_more c.in-Bracketed.position (expr_of c.in-Bracketed.inside.value) d.selectors.items (grind (arith, nat_tests)))

pub returns-else-not-is_empty : goal.returns-else-not-is_empty
returns-else-not-is_empty c =
    let d = c.in-Designator.designator in
    let says = ap expr_of c.in-Designator.is ∙ designated_says d ∙ ap (λ r. designated (designator (root_of r) (selectors_of d.selectors.items))) c.in-Bracketed.is in
    let none = none_selected d.selectors.items (grind (arith, nat_tests)) in
    let same = ap denoted (says ∙ ap (λ z. designated (designator (bracketed c.in-Bracketed.position (expr_of c.in-Bracketed.inside.value)) z)) none) in
    subst (λ z. IfOk c.enumeration_of_one.result (λ t. option_map denoter_of t ≡ z)) (sym same) (rw c.into_inner.ensures at c.enumeration_of_one.ensures)
