use Rattle.op_items.proofs.Storing.{write_ends, write_goes_on}
use Rattle.op_items.specs.Setting.{here_view}
use Rattle.op_items.proofs.setting.Setting.write_all.Goals as goal

pub loop-each-preserved : goal.loop-each-preserved
loop-each-preserved c = write_goes_on c.args.self c.loop-each.items.items c.write_one.new.items.items (here_view c.args.here) c.args.written.now c.loop-each.each-index c.each-item.result _ c.loop-each-test.true c.each-item.is c.in_ok-write_one.ensures c.loop-each.invariant

pub returns : goal.returns
returns c = write_ends c.args.self c.args.items.now.items c.loop-each.items.items (here_view c.args.here) c.args.written.now c.loop-each.each-index _ c.loop-each-test.false c.loop-each.invariant
