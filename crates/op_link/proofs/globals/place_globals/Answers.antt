use Rattle.std.proofs.Common.{true, false, arith}
use Rattle.op_link.proofs.GlobalPlaces.{next_least}
use Rattle.op_link.proofs.globals.place_globals.Goals as goal

pub offset_of-requires-clause-own : goal.offset_of-requires-clause-own
offset_of-requires-clause-own c =
    let next = next_least false c.loop-global.own c.args.globals.now c.loop-global.global-index c.global-item.result c.loop-global-test.true c.global-item.is in
    omega (arith, next, c.loop-global.invariant.own)

pub offset_of-requires-clause-other : goal.offset_of-requires-clause-other
offset_of-requires-clause-other c =
    let next = next_least true c.loop-global.other c.args.globals.now c.loop-global.global-index c.global-item.result c.loop-global-test.true c.global-item.is in
    omega (arith, next, c.loop-global.invariant.other)

pub behind-own-requires : goal.behind-own-requires
behind-own-requires c =
    let next = next_least false c.loop-global.own c.args.globals.now c.loop-global.global-index c.global-item.result c.loop-global-test.true c.global-item.is in
    omega (arith, next, c.loop-global.invariant.own)

pub behind-other-requires : goal.behind-other-requires
behind-other-requires c =
    let next = next_least true c.loop-global.other c.args.globals.now c.loop-global.global-index c.global-item.result c.loop-global-test.true c.global-item.is in
    omega (arith, next, c.loop-global.invariant.other)
