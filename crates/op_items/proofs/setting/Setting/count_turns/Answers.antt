use Rattle.op_items.proofs.Works.{counted_turns}
use Rattle.op_items.specs.Adding.{view_in}
use Rattle.op_items.specs.Setting.{here_view}
use Rattle.op_items.proofs.setting.Setting.count_turns.Goals as goal

pub returns : goal.returns
returns c =
    counted_turns c.args.self c.args.items.now.items c.compare.new.items.items c.choose.new.items.items c.choose.result (here_view c.args.here) c.args.variable c.args.direction (view_in c.args.self c.args.body.items) c.has_turn.result c.first-counter.result.0 c.in_ok-temporary.temporary.0 c.in_ok-first.first.items c.new.result.items
    c.has_turn.ensures c.first-counter.ensures c.in_ok-temporary.ensures c.in_ok-first.ensures c.new.ensures.items c.in_ok-compare.ensures c.choose.ensures
