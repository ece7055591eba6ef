use Rattle.std.proofs.Common.{sym, ap, ◌∙◌, arith}
use Rattle.std.proofs.lemmas.Bool.Decides.{nat_tests}
use Rattle.op_parse_decl.proofs.Denoted.{none_selected, one_more}
use Rattle.op_parse_decl.specs.Types.{denoted}
use Rattle.op_tree.proofs.Rows.{designated_says}
use Rattle.op_tree.specs.Expression.{bracketed, designated, designator, expr_of, named as named_root, no_selectors, root_of}
use Rattle.op_tree.specs.Statement.{selectors_of}
use Rattle.op_parse_decl.proofs.nodes.enumeration_of_one.Goals as goal

pub returns-then-not-is_empty : goal.returns-then-not-is_empty
returns-then-not-is_empty c =
    let d = c.in-Designator.designator in
    let says = ap expr_of c.in-Designator.is ∙ designated_says d ∙ ap (λ r. designated (designator (root_of r) (selectors_of d.selectors.items))) c.in-Named.is in
    sym (ap (λ z. denoted (designated (designator (bracketed c.args.position z) no_selectors))) says ∙ one_more c.args.position c.in-Named.name d.selectors.items (grind (arith, nat_tests)))

pub returns : goal.returns
returns c =
    let d = c.in-Designator.designator in
    let says = ap expr_of c.in-Designator.is ∙ designated_says d ∙ ap (λ r. designated (designator (root_of r) (selectors_of d.selectors.items))) c.in-Named.is in
    let none = none_selected d.selectors.items (grind (arith, nat_tests)) in
    rw (c.from.ensures, c.in_ok-push.ensures.items, c.new-names.ensures.items) (sym (ap (λ z. denoted (designated (designator (bracketed c.args.position z) no_selectors))) (says ∙ ap (λ z. designated (designator (named_root c.in-Named.name) z)) none)))
