use Rattle.std.proofs.Common.{arith}
use Rattle.op_link.proofs.GlobalPlaces.{begins}
use Rattle.op_link.proofs.globals.begin_of.Goals as goal

pub begin_by-requires : goal.begin_by-requires
begin_by-requires c = let begin = begins c.args.from c.args.global.now in omega (arith, begin.least, c.requires)
