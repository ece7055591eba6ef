use Rattle.std.proofs.Common.{sym, ap, ◌∙◌, arith}
use Rattle.std.proofs.lemmas.Bool.Decides.{nat_tests}
use Rattle.op_parse_decl.proofs.Initials.{alone, not_alone}
use Rattle.op_parse_decl.specs.Initials.{name_alone}
use Rattle.op_tree.proofs.Rows.{designated_says}
use Rattle.op_tree.specs.Expression.{designated, designator, expr_of, root_of}
use Rattle.op_tree.specs.Initial.{initial_of, value}
use Rattle.op_tree.specs.Statement.{selectors_of}
use Rattle.op_parse_decl.proofs.nodes.name_alone.Goals as goal

pub returns-then-is_empty : goal.returns-then-is_empty
returns-then-is_empty c =
    let d = c.in-Designator.designator in
    let says = ap initial_of c.in-Value.is ∙ ap value (ap expr_of c.in-Designator.is ∙ designated_says d ∙ ap (λ r. designated (designator (root_of r) (selectors_of d.selectors.items))) c.in-Named.is) in
    rw (sym c.replace.ensures.value) (sym (ap name_alone says ∙ alone _ d.selectors.items (grind (arith, nat_tests))))

pub returns : goal.returns
returns c =
    let d = c.in-Designator.designator in
    let says = ap initial_of c.in-Value.is ∙ ap value (ap expr_of c.in-Designator.is ∙ designated_says d ∙ ap (λ r. designated (designator (root_of r) (selectors_of d.selectors.items))) c.in-Named.is) in
    rw (sym c.replace.ensures.value) (sym (ap name_alone says ∙ not_alone _ d.selectors.items (grind (arith, nat_tests))))
