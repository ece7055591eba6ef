use Rattle.std.proofs.Common.{true, arith, sym, ◌∙◌}
use Rattle.op_link.specs.Memory.{initial_size}
use Rattle.op_link.proofs.GlobalPlaces.{globals_least, small_is, small_some}
use Rattle.op_link.proofs.globals.initial_size.Goals as goal

pub unreachable-requires : goal.unreachable-requires
unreachable-requires c =
    let globals = c.args.globals.now in
    let least = globals_least true (initial_size globals) globals in
    small_is (initial_size globals) (omega (arith, least, c.requires)) (sym c.in-None.is ∙ c.end_within.ensures)

pub returns-clause-bound : goal.returns-clause-bound
returns-clause-bound c =
    let globals = c.args.globals.now in
    let least = globals_least true (initial_size globals) globals in
    let is = small_some (initial_size globals) c.in-Some.size (sym c.in-Some.is ∙ c.end_within.ensures) in
    omega (arith, least, is)
