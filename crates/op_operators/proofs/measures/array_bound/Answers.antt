use Rattle.op_operators.proofs.Following.{acts_gives}
use Rattle.op_semantics.specs.Expressions.{last_index}
use Rattle.op_operators.proofs.measures.array_bound.Goals as goal

pub returns : goal.returns
returns c = acts_gives c.args.setting c.args.items.now.items c.length.new.items.items c.last_index.new.items.items c.in_ok-found.found _ (last_index c.args.function) c.first.result.0 _ c.first.ensures c.in_ok-found.ensures c.in_ok-last_index.ensures
