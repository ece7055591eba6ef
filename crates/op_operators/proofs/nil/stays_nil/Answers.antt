use Rattle.std.proofs.Common.{sym, ◌∙◌}
use Rattle.op_operators.proofs.Nils.{all_stay, ends_there, stays_on}
use Rattle.op_operators.proofs.nil.stays_nil.Goals as goal

pub loop-each-preserved : goal.loop-each-preserved
loop-each-preserved c = stays_on c.args.steps.now c.loop-each.each-index c.each-item.result _ c.loop-each-test.true c.each-item.is (sym c.stays.ensures ∙ c.if-not-stays.false) c.loop-each.invariant

pub returns-then-not-stays : goal.returns-then-not-stays
returns-then-not-stays c = ends_there c.args.steps.now c.loop-each.each-index c.each-item.result _ c.loop-each-test.true c.each-item.is (sym c.stays.ensures ∙ c.if-not-stays.true) c.loop-each.invariant

pub returns : goal.returns
returns c = all_stay c.args.steps.now c.loop-each.each-index _ c.loop-each-test.false c.loop-each.invariant
