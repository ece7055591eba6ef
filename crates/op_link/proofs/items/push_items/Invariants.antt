use Rattle.std.proofs.Common.{◌≡◌, ◌+◌, ◌*◌, ◌-◌, ◌≤◌, IsTrue, length, drop}
use Rattle.op_link.specs.Code.{written, items_code, have_fields}
use Rattle.op_link.specs.Placing.{behind_items}
use Rattle.op_link.proofs.items.push_items.Given as goal

abbrev pub invariant-loop-item : goal.invariant-loop-item
invariant-loop-item l =
    record {
      code : written l.code.items (items_code l.layout l.addresses l.r l.spot (drop l.item-index l.items)) ≡ written l.fn.code.items (items_code l.layout l.addresses l.r l.fn.spot l.items);
      fields : IsTrue (have_fields (drop l.item-index l.items));
      rest : behind_items l.addresses.known l.r l.spot (drop l.item-index l.items) ≡ behind_items l.addresses.known l.r l.fn.spot l.items;
      longest : l.spot.longest + 12 * (length l.items - l.item-index) ≤ l.fn.spot.longest + 12 * length l.items;
      address : l.spot.address + 12 * (length l.items - l.item-index) ≤ l.fn.spot.address + 12 * length l.items;
    }
