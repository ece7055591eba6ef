use Rattle.op_operators.proofs.Following.{acts_gives}
use Rattle.op_semantics.specs.Expressions.{converted}
use Rattle.op_operators.proofs.conversions.as_number.Goals as goal

pub returns : goal.returns
returns c = acts_gives c.args.setting c.args.items.now.items c.own.new.items.items c.converted.new.items.items c.in_ok-found.found _ (converted c.args.setting.core.now c.args.conversion c.args.to) c.first.result.0 _ c.first.ensures c.in_ok-found.ensures c.in_ok-converted.ensures
