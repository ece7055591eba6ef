use Rattle.std.proofs.Common.{arith}
use Rattle.op_check_expr.proofs.Arguments.{all_plain, counted}
use Rattle.op_check_expr.proofs.call.are_given.Goals as goal

pub returns-then-parameters-list : goal.returns-then-parameters-list
returns-then-parameters-list c =
    let e = counted c.args.list.now in
    let f = all_plain c.args.list.now in
    let g = c.all_plain-plain.ensures in
    let h = c.if-parameters-list.true in grind (arith, e, f, g, h)

pub returns-else-parameters-list : goal.returns-else-parameters-list
returns-else-parameters-list c =
    let e = counted c.args.list.now in
    let f = all_plain c.args.list.now in
    let g = c.all_plain-plain.ensures in
    let h = c.if-parameters-list.false in grind (arith, e, f, g, h)
