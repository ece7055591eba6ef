use Rattle.std.proofs.Common.{sym, ap, ◌∙◌}
use Rattle.op_units.specs.Walk.{walked_of}
use Rattle.op_units.proofs.Gathering.{lacked_open}
use Rattle.op_units.proofs.Reaching.{closes_here, none_closes_yet}
use Rattle.op_units.proofs.walk.Walk.closing.Goals as goal

pub returns-then-lack : goal.returns-then-lack
returns-then-lack c = lacked_open (walked_of c.args.self.now) c.args.unit.now c.args.interface.now (c.lack.ensures c.if-lack.true)

pub returns-then-contains : goal.returns-then-contains
returns-then-contains c = closes_here (walked_of c.args.self.now) c.args.unit.now c.args.interface.now c.loop-number.number c.loop-number.seen c.reach.new.seen c.as_slice.result.now c.index-interface-number.result c.loop-number.invariant c.in_ok-reach.ensures c.loop-number-test.true c.index-interface-number.is (c.as_slice.ensures ∙ sym (ap (λ u. u.name) c.index-interface-number.is)) (sym c.contains.ensures ∙ c.if-contains.true)

pub loop-number-preserved : goal.loop-number-preserved
loop-number-preserved c = none_closes_yet (walked_of c.args.self.now) c.args.unit.now c.args.interface.now c.loop-number.number c.loop-number.seen c.reach.new.seen c.as_slice.result.now c.index-interface-number.result c.loop-number.invariant c.in_ok-reach.ensures c.loop-number-test.true c.index-interface-number.is (c.as_slice.ensures ∙ sym (ap (λ u. u.name) c.index-interface-number.is)) (sym c.contains.ensures ∙ c.if-contains.false)
