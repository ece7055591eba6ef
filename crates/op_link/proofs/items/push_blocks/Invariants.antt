use Rattle.std.proofs.Common.{◌≡◌, ◌+◌, ◌*◌, ◌≤◌, IsTrue, drop}
use Rattle.std.specs.List.{list_all}
use Rattle.op_link.specs.Code.{written, blocks_code, have_fields}
use Rattle.op_link.specs.Placing.{behind_blocks, items_in_blocks}
use Rattle.op_link.proofs.items.push_blocks.Given as goal

abbrev pub invariant-loop-block : goal.invariant-loop-block
invariant-loop-block l =
    record {
      code : written l.code.items (blocks_code l.layout l.addresses l.r l.spot (drop l.block-index l.blocks)) ≡ written l.fn.code.items (blocks_code l.layout l.addresses l.r l.fn.spot l.blocks);
      fields : IsTrue (list_all (λ block. have_fields block.items) (drop l.block-index l.blocks));
      rest : behind_blocks l.addresses.known l.r l.spot (drop l.block-index l.blocks) ≡ behind_blocks l.addresses.known l.r l.fn.spot l.blocks;
      longest : l.spot.longest + 12 * items_in_blocks (drop l.block-index l.blocks) ≤ l.fn.spot.longest + 12 * items_in_blocks l.blocks;
      address : l.spot.address + 12 * items_in_blocks (drop l.block-index l.blocks) ≤ l.fn.spot.address + 12 * items_in_blocks l.blocks;
    }
