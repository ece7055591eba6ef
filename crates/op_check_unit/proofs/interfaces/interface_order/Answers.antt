use Rattle.std.proofs.Common.{ap, drop, length, map, sym, ◌+◌, ◌∙◌}
use Rattle.op_check_unit.proofs.Visiting.{next_visit}
use Rattle.op_check_unit.specs.Interfaces.{visited, visited_from}
use Rattle.op_tree.specs.File.{file_of}
use Rattle.op_check_unit.proofs.interfaces.interface_order.Goals as goal

pub loop-number-preserved : goal.loop-number-preserved
loop-number-preserved c =
    let order = c.args.order.now in
    let fs = map file_of c.args.files.now.trees.now in
    let visit = visited (length order) order fs in
    let k = c.loop-number.number in
    ap (visited_from visit (k + 1) (drop (k + 1) order)) (c.in_ok-visit.ensures ∙ ap (λ names. visited (length order) names fs k c.loop-number.numbers) c.in_ok-names.ensures) ∙ sym (next_visit visit order k c.loop-number.numbers c.loop-number-test.true) ∙ c.loop-number.invariant
