use Rattle.std.proofs.Common.{◌≡◌, ◌∷◌, true, ap, ◌∙◌, rules}
use Rattle.op_scan.specs.Directive.{is_switch, switched}
use Rattle.op_scan.proofs.Directives.{switched_more}
use Rattle.op_scan.proofs.directive.switched.Goals as goal

pub loop-letter-preserved : goal.loop-letter-preserved
loop-letter-preserved c =
    let first = c.in-Some in
    let second = c.in-Some-split_first in
    let third = c.in-Some-split_first-2 in
    let s = c.loop-letter.after in
    let is : is_switch first.letter.now second.sign.now ≡ true = search rules in
    let front = first.ensures.cases.0 ∙ ap (λ xs. first.letter.now ∷ xs) (second.ensures.cases.0 ∙ ap (λ xs. second.sign.now ∷ xs) third.ensures.cases.0) in
    let step = switched_more s first.letter.now second.sign.now third.comma.now third.next.now is c.if-comma-ne44.false in
    c.loop-letter.invariant ∙ ap (switched s) front ∙ rw c.with_switch-after.ensures step
