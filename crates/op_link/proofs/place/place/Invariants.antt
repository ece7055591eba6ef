use Rattle.std.proofs.Common.{◌≡◌, ◌+◌, ◌*◌, ◌≤◌, ◌++◌, drop}
use Rattle.op_link.specs.Placing.{behind_routines, routine_places, items_in_routines, first_spot}
use Rattle.op_link.proofs.place.place.Given as goal

abbrev pub invariant-loop-r : goal.invariant-loop-r
invariant-loop-r l =
    record {
      placed : l.places.items ++ routine_places l.known l.r l.spot (drop l.r l.routines) ≡ routine_places l.known 0 first_spot l.routines;
      rest : behind_routines l.known l.r l.spot (drop l.r l.routines) ≡ behind_routines l.known 0 first_spot l.routines;
      longest : l.spot.longest + 12 * items_in_routines (drop l.r l.routines) ≤ 0x00010048 + 12 * items_in_routines l.routines;
      address : l.spot.address + 12 * items_in_routines (drop l.r l.routines) ≤ 0x00010048 + 12 * items_in_routines l.routines;
    }
