use Rattle.std.proofs.Common.{false, arith, sym, ◌∙◌}
use Rattle.op_link.proofs.GlobalPlaces.{begins, behind_there, in_own}
use Rattle.op_link.proofs.globals.push_global.Goals as goal

pub begin_of-requires : goal.begin_of-requires
begin_of-requires c =
    let there = behind_there false c.args.from c.args.global.now (in_own c.args.global.now false (sym c.begins_as_zero.ensures ∙ c.if-begins_as_zero.false)) in
    omega (arith, there, c.requires)

pub overflow_sub-begin_of : goal.overflow_sub-begin_of
overflow_sub-begin_of c = let begin = begins c.args.from c.args.global.now in omega (arith, begin.least, c.begin_of.ensures.is)
