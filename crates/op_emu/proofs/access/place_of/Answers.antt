use Rattle.std.proofs.Common.{sym}
use Rattle.op_emu.proofs.Writing.{has_address}
use Rattle.op_emu.proofs.access.place_of.Goals as goal

pub returns-in-Some : goal.returns-in-Some
returns-in-Some c = has_address c.args.segments.now c.args.at c.in-Some.k (sym c.in-Some.ensures)
