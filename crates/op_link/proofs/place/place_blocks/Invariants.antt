use Rattle.std.proofs.Common.{◌≡◌, ◌+◌, ◌*◌, ◌≤◌, ◌++◌, drop}
use Rattle.op_link.specs.Placing.{behind_blocks, block_addresses, items_in_blocks}
use Rattle.op_link.proofs.place.place_blocks.Given as goal

abbrev pub invariant-loop-block : goal.invariant-loop-block
invariant-loop-block l =
    record {
      placed : l.addresses.items ++ block_addresses l.known l.r l.spot (drop l.block-index l.blocks) ≡ block_addresses l.known l.r l.fn.spot l.blocks;
      rest : behind_blocks l.known l.r l.spot (drop l.block-index l.blocks) ≡ behind_blocks l.known l.r l.fn.spot l.blocks;
      longest : l.spot.longest + 12 * items_in_blocks (drop l.block-index l.blocks) ≤ l.fn.spot.longest + 12 * items_in_blocks l.blocks;
      address : l.spot.address + 12 * items_in_blocks (drop l.block-index l.blocks) ≤ l.fn.spot.address + 12 * items_in_blocks l.blocks;
    }
