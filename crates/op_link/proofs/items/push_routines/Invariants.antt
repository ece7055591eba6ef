use Rattle.std.proofs.Common.{◌≡◌, ◌+◌, ◌*◌, ◌≤◌, IsTrue, drop}
use Rattle.std.specs.List.{list_all}
use Rattle.op_link.specs.Code.{written, routines_code, routine_has_fields}
use Rattle.op_link.specs.Placing.{first_spot, items_in_routines}
use Rattle.op_link.proofs.items.push_routines.Given as goal

abbrev pub invariant-loop-r : goal.invariant-loop-r
invariant-loop-r l =
    record {
      code : written l.code.items (routines_code l.layout l.addresses l.r l.spot (drop l.r l.routines)) ≡ written l.fn.code.items (routines_code l.layout l.addresses 0 first_spot l.routines);
      fields : IsTrue (list_all routine_has_fields (drop l.r l.routines));
      longest : l.spot.longest + 12 * items_in_routines (drop l.r l.routines) ≤ 0x00010048 + 12 * items_in_routines l.routines;
      address : l.spot.address + 12 * items_in_routines (drop l.r l.routines) ≤ 0x00010048 + 12 * items_in_routines l.routines;
    }
