use Rattle.std.proofs.Common.{arith}
use Rattle.op_link.proofs.GlobalPlaces.{behind_least}
use Rattle.op_link.proofs.globals.behind.Goals as goal

pub behind_within-requires : goal.behind_within-requires
behind_within-requires c = let least = behind_least c.args.as_zero c.args.from c.args.global.now in omega (arith, least, c.requires)
