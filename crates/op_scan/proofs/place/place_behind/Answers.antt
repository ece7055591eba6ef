use Rattle.op_scan.proofs.Places.{places_begin, places_more}
use Rattle.op_scan.proofs.place.place_behind.Goals as goal

pub loop-byte-init : goal.loop-byte-init
loop-byte-init c = places_begin _ _

pub loop-byte-preserved : goal.loop-byte-preserved
loop-byte-preserved c =
    let e = c.next_place-here.ensures in
    places_more _ _ _ _ _ 0 c.loop-byte-test.true c.loop-byte.invariant e.file e.line_bound e.column_bound e.follows
