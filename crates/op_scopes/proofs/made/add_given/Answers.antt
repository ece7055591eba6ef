use Rattle.std.proofs.Common.{map}
use Rattle.op_scopes.proofs.Making.{goes_on, last_holds}
use Rattle.op_semantics.specs.Candidates.{made_with_all}
use Rattle.op_values.specs.View.{view_given, view_temporary}
use Rattle.op_scopes.proofs.made.add_given.Goals as goal

pub loop-last-preserved : goal.loop-last-preserved
loop-last-preserved c = goes_on (map view_temporary c.loop-last.made.items) (map view_temporary c.add_with.new.made.items) _ (made_with_all (map view_given c.in-Some.front.now)) (made_with_all (map view_given c.loop-last.rest.now)) _ (last_holds c.loop-last.rest.now c.in-Some.front.now c.in-Some.last.now c.in-Some.ensures.cases.0) c.in_ok-add_with.ensures c.loop-last.invariant
