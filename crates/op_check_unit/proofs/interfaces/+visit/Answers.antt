use Rattle.std.proofs.Common.{◌∷◌, [], ◌++◌, ap, arith, map, sym, ◌∙◌}
use Rattle.op_check_unit.proofs.Visiting.{all_done, reached_already, reached_now}
use Rattle.op_check_unit.specs.Interfaces.{interface_uses, unit_at, visited}
use Rattle.op_tree.specs.File.{file_of}
use Rattle.op_check_unit.proofs.interfaces.+visit.Goals as goal

pub returns-then-contains : goal.returns-then-contains
returns-then-contains t c =
    reached_already c.args.depth c.in-Some.less c.args.order.now (map file_of c.args.files.now.trees.now) c.args.number c.args.so_far.now (let less = c.in-Some.ensures in omega (arith, less.0, less.1)) (sym c.contains.ensures ∙ c.if-contains.true)

pub returns : goal.returns
returns t c =
    let order = c.args.order.now in
    let fs = map file_of c.args.files.now.trees.now in
    let h = c.loop-name-test.false in
    c.in_ok-push.ensures
    ∙ ap (λ ns. ns ++ c.args.number ∷ []) (all_done (visited c.in-Some.less order fs) order c.interface_uses-name-items.result.now _ c.loop-name.name-index c.loop-name.so_far c.args.so_far.now (omega (arith, h)) (c.interface_uses-name-items.ensures ∙ ap interface_uses c.in_ok-unit.ensures ∙ ap (λ names. interface_uses (unit_at names fs c.args.number)) c.as_slice.ensures) c.loop-name.invariant)
    ∙ reached_now c.args.depth c.in-Some.less order fs c.args.number c.args.so_far.now (let less = c.in-Some.ensures in omega (arith, less.0, less.1)) (sym c.contains.ensures ∙ c.if-contains.false)
