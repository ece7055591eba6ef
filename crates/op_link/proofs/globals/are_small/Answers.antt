use Rattle.std.proofs.Common.{true, sym, ◌∙◌}
use Rattle.op_link.specs.Memory.{globals_size, initial_size}
use Rattle.op_link.proofs.GlobalPlaces.{globals_least, not_small}
use Rattle.op_link.proofs.globals.are_small.Goals as goal

pub returns-in-None : goal.returns-in-None
returns-in-None c =
    let globals = c.args.globals.now in
    not_small (initial_size globals) (globals_size globals) (globals_least true (initial_size globals) globals) (sym c.in-None.is ∙ c.end_within.ensures)
