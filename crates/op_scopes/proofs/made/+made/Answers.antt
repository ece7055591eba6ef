use Rattle.std.proofs.Common.{ap, arith, map}
use Rattle.op_scopes.proofs.Making.{also_makes, goes_on, last_makes}
use Rattle.op_scopes.proofs.Sizes.{also_size, last_size, size}
use Rattle.op_semantics.specs.Candidates.{made_by}
use Rattle.op_values.specs.View.{items_view, view_temporary}
use Rattle.op_scopes.proofs.made.+made.Goals as goal

pub add-add_all-requires : goal.add-add_all-requires
add-add_all-requires t c = (omega (arith, also_size c.args.item.now c.in-Also.truth c.in-Also.temporary c.in-Also.items c.in-Also.is, ap size c.deref.ensures.value), tt)

pub add-returns-in-Also : goal.add-returns-in-Also
add-returns-in-Also t c = also_makes c.args.item.now c.in-Also.truth c.in-Also.temporary c.in-Also.items c.deref.result.now c.add_all.result (map view_temporary c.add_all.new.made.items) (map view_temporary c.args.made.now.items) c.in-Also.is c.deref.ensures.value c.add_all.ensures

pub add_all-add-requires : goal.add_all-add-requires
add_all-add-requires t c = (omega (arith, last_size c.loop-last.rest.now c.in-Some.front.now c.in-Some.last.now c.in-Some.ensures.cases.0, c.loop-last.invariant.smaller), tt)

pub add_all-loop-last-preserved : goal.add_all-loop-last-preserved
add_all-loop-last-preserved t c = record {
  completes = λ core r. goes_on (map view_temporary c.loop-last.made.items) (map view_temporary c.add.new.made.items) _ (made_by (items_view core r c.in-Some.front.now)) (made_by (items_view core r c.loop-last.rest.now)) _ (last_makes core r c.loop-last.rest.now c.in-Some.front.now c.in-Some.last.now c.in-Some.ensures.cases.0) (c.in_ok-add.ensures core r) (c.loop-last.invariant.completes core r);
  smaller = omega (arith, last_size c.loop-last.rest.now c.in-Some.front.now c.in-Some.last.now c.in-Some.ensures.cases.0, c.loop-last.invariant.smaller);
}
