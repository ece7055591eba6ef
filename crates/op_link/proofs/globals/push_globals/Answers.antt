use Rattle.std.proofs.Common.{true, false, arith, refl}
use Rattle.op_link.specs.Memory.{initial_size}
use Rattle.op_link.proofs.GlobalPlaces.{globals_least, next_least}
use Rattle.op_link.proofs.globals.push_globals.Goals as goal

pub loop-global-init : goal.loop-global-init
loop-global-init c =
    let globals = c.args.globals.now in
    let least = globals_least true (initial_size globals) globals in
    record { rest = refl; few = omega (arith, least, c.requires) }

pub push_global-requires : goal.push_global-requires
push_global-requires c =
    let next = next_least false c.loop-global.from c.args.globals.now c.loop-global.global-index c.global-item.result c.loop-global-test.true c.global-item.is in
    omega (arith, next, c.loop-global.invariant.few)

pub behind-from-requires : goal.behind-from-requires
behind-from-requires c =
    let next = next_least false c.loop-global.from c.args.globals.now c.loop-global.global-index c.global-item.result c.loop-global-test.true c.global-item.is in
    omega (arith, next, c.loop-global.invariant.few)
