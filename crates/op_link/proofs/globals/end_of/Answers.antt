use Rattle.std.proofs.Common.{arith}
use Rattle.op_link.proofs.GlobalPlaces.{begins}
use Rattle.op_link.proofs.globals.end_of.Goals as goal

pub overflow_add-end : goal.overflow_add-end
overflow_add-end c =
    let begin = begins c.args.from (record { initial = c.as_slice-initial.result.now; zeros = c.args.global.now.zeros }) in
    omega (arith, begin.most, c.requires, c.begin_by.ensures, c.if-initial.false, c.if-global-gt-MOST_GLOBALS.false)
