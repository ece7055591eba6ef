use Rattle.std.proofs.Common.{get_or, take}
use Rattle.std.specs.Prelude.{pos}
use Rattle.op_check_stmt.proofs.Apart.{go_on, hold_on, kept_more}
use Rattle.op_check_stmt.specs.declared.case.Spot.{Spot}
use Rattle.op_check_stmt.proofs.repeated.repeated.Goals as goal

abbrev zero : Spot
zero = record { label = record { first = pos 0; last = pos 0; nodes = 0; words = 0 }; place = record { file = 0; line = 0; col = 0 } }

pub loop-spot-preserved : goal.loop-spot-preserved
loop-spot-preserved c =
    let labels = c.args.labels.now in
    let k = c.loop-spot.spot-index in
    let seen = c.loop-spot.last_by_first in
    let unmet = c.meets.ensures.apart c.if-meets.false in
    record {
      held = hold_on c.keep.new.last_by_first labels k zero c.loop-spot-test.true (kept_more seen c.keep.new.last_by_first (take k labels) (get_or labels k zero) c.loop-spot.invariant.held unmet c.in_ok-keep.ensures);
      rest = go_on seen labels k zero c.loop-spot-test.true c.loop-spot.invariant.held unmet c.loop-spot.invariant.rest;
    }
