use Rattle.std.proofs.Common.{◌≡◌, ◌∷◌, Some, sym, ap, ◌∙◌, rules}
use Rattle.op_parse_code.specs.Opening.{mark_of}
use Rattle.op_parse_code.proofs.Marks.{mark_kind}
use Rattle.op_tree.specs.Terminal.{terminal_of, terminals, ◌at◌}
use Rattle.op_parse_code.proofs.mark.behind_mark.Goals as goal

pub returns-then-eq-clause-mark : goal.returns-then-eq-clause-mark
returns-then-eq-clause-mark c =
    let first = c.in_ok-first.first.now in
    let rest = terminals c.in_ok-first.rest.now in
    let same : c.in_ok-found.found ≡ c.args.mark = search rules in
    let found : mark_of first.kind ≡ Some c.args.mark = sym c.mark_of.ensures ∙ (c.in_ok-found.was ∙ ap Some same) in
    ((terminal_of first).position, ap terminals c.in_ok-first.ensures.cases.0 ∙ ap (λ k. k at (terminal_of first).position ∷ rest) (mark_kind first.kind c.args.mark found))
