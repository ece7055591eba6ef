use Rattle.std.proofs.Common.{◌≡◌, ◌+◌, ◌*◌, ◌-◌, ◌≤◌, length, drop}
use Rattle.op_link.specs.Placing.{behind_items}
use Rattle.op_link.proofs.place.behind_items.Given as goal

abbrev pub invariant-loop-item : goal.invariant-loop-item
invariant-loop-item l =
    record {
      rest : behind_items l.known l.r l.spot (drop l.item-index l.items) ≡ behind_items l.known l.r l.fn.spot l.items;
      longest : l.spot.longest + 12 * (length l.items - l.item-index) ≤ l.fn.spot.longest + 12 * length l.items;
      address : l.spot.address + 12 * (length l.items - l.item-index) ≤ l.fn.spot.address + 12 * length l.items;
    }
