use Rattle.std.proofs.Common.{arith, ◌∙◌}
use Rattle.op_units.proofs.Gathering.{list_more, lists_more, names_more}
use Rattle.op_units.proofs.interfaces.Interfaces.push.Goals as goal

pub loop-used-preserved : goal.loop-used-preserved
loop-used-preserved c =
    let inside = c.loop-used.self-inside in
    let used = c.used-item.result in
    let names = c.add.new.self in
    let kept = c.loop-used.invariant in (
      list_more c.loop-used.list.items c.push.new.self.items c.in_ok-copy_of.field-0 c.args.uses.now c.loop-used.used-index used kept.0 c.loop-used-test.true c.used-item.is (c.in_ok-copy_of.ensures ∙ c.as_slice-in-loop-used.ensures) c.in_ok-push.ensures.items,
      names_more c.loop-used.list.items c.push.new.self.items inside.names names used.name c.as_slice.result.now c.in_ok-copy_of.field-0 kept.1 c.in_ok-add.ensures.stay c.in_ok-add.ensures.after c.as_slice.ensures (c.in_ok-copy_of.ensures ∙ c.as_slice-in-loop-used.ensures) c.in_ok-push.ensures.items,
      (λ name h. c.in_ok-add.ensures.stay name (kept.2 name h)),
      kept.3,
    )

pub returns : goal.returns
returns c = lists_more c.loop-used.self-inside.lists.items c.args.self.now c.push-2.new.self.items c.loop-used.list.items c.from.result c.args.uses.now c.loop-used.used-index c.loop-used.invariant.0 (omega (arith, c.loop-used-test.false)) c.loop-used.invariant.3 c.from.ensures c.in_ok-push-2.ensures.items
