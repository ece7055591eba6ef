use Rattle.std.proofs.Common.{refl}
use Rattle.op_check_unit.proofs.Placing.{finishes}
use Rattle.op_check_unit.proofs.declarer.Declarer.finish.Goals as goal

pub returns : goal.returns
returns c = finishes c.args.self c.in_ok-core.core c.args.self.sink.kept c.or_typed.result refl c.in_ok-core.ensures c.or_typed.ensures
