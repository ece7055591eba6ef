use Rattle.std.proofs.Common.{true, false, arith, sym, ◌∙◌}
use Rattle.op_link.proofs.GlobalPlaces.{behind_there, in_own, in_zeros}
use Rattle.op_link.proofs.globals.offset_of.Goals as goal

pub begin_of-requires : goal.begin_of-requires
begin_of-requires c =
    let there = behind_there true c.args.other c.args.global.now (in_zeros c.args.global.now true (sym c.begins_as_zero.ensures ∙ c.if-begins_as_zero.true)) in
    omega (arith, there, c.requires.other)

pub begin_of-requires-2 : goal.begin_of-requires-2
begin_of-requires-2 c =
    let there = behind_there false c.args.own c.args.global.now (in_own c.args.global.now false (sym c.begins_as_zero.ensures ∙ c.if-begins_as_zero.false)) in
    omega (arith, there, c.requires.own)
