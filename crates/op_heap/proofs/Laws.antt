-- The laws of heaps.
use Rattle.std.proofs.Common.{◌≡◌, ℕ, ◌+◌, ◌*◌, ◌%◌, ◌<◌, ◌≤◌, Some, length, map, arith}
use Rattle.op_heap.proofs.Blocks.{fits_in}
use Rattle.op_heap.proofs.Gaps.{blocks_outside, gives_up, holes_spread, places}
use Rattle.op_heap.proofs.ReadBlocks.{reads, sized_of}
use Rattle.op_heap.specs.Claims.{GivesUp, IsSize, Places, SizesAreLeast}
use Rattle.op_heap.specs.Heap.{Block, Heap, IsHeap, block_named, heap_address, holes, place}
use Rattle.op_heap.specs.Memory.{HeapLies, first_hole}
use Rattle.op_heap.specs.Reading.{AreKinds, found_of, read_blocks}
use Rattle.op_heap.specs.Sizes.{sixteens}

-- where the bytes of a heap end
abbrev pub past_of : Heap → ℕ
past_of h = heap_address + h.bytes

pub block_placed : (h : Heap) (b : Block) → IsHeap h → 16 ≤ b.size → b.size % 16 ≡ 0 → place h b.size ≡ Some b.address → Places h b
block_placed h b heap large whole found =
    let bytes_whole = heap.whole in
    let spread = holes_spread h.blocks heap_address (past_of h) (omega arith) (omega arith) heap.placed in
    let fit = fits_in (holes h) heap_address (past_of h) b.size b.address spread found in
    let it = places b.name b.slot b.size (past_of h) large whole (omega arith) h.blocks heap_address b.address (omega arith) heap.placed found in
    record {
      heap = record { whole = heap.whole; small = heap.small; placed = it.are };
      left = it.holes;
      behind = fit.behind;
      within = fit.within;
      apart = λ x inside. fit.inside x (blocks_outside h.blocks heap_address (past_of h) x (omega arith) (omega arith) heap.placed inside);
    }

pub block_given_up : (h : Heap) (b : Block) → IsHeap h → block_named b.name h.blocks ≡ Some b → GivesUp h b
block_given_up h b heap found =
    let bytes_whole = heap.whole in
    let it = gives_up (past_of h) b.name (omega arith) h.blocks heap_address b (omega arith) heap.placed found in
    record { heap = record { whole = heap.whole; small = heap.small; placed = it.are }; left = it.holes }

pub blocks_read : (memory kinds : ℕ → ℕ) (h : Heap) (more : ℕ) → HeapLies kinds memory h → AreKinds kinds h.blocks → read_blocks memory (2 * length h.blocks + 1 + more) heap_address (past_of h) ≡ map (found_of kinds) h.blocks
blocks_read memory kinds h more lies all =
    let bytes_whole = lies.heap.whole in
    reads memory kinds (past_of h) (omega arith) h.blocks more heap_address (omega arith) lies.heap.placed (sized_of (holes h) memory (first_hole memory) lies.linked) lies.headed all

-- ---- sizes

least : (bytes : ℕ) → 1 ≤ bytes → IsSize (sixteens bytes) × (bytes ≤ sixteens bytes) × (sixteens bytes < bytes + 16)
least bytes some = (record { some = omega arith; whole = omega arith }, omega arith, omega arith)

pub sizes_least : SizesAreLeast
sizes_least =
    record {
      string = λ n. let it = least (n + 17) (omega arith) in (it.0, it.1, let less = it.2 in omega arith);
      array = λ count element. let it = least (count * element + 16) (omega arith) in (it.0, it.1, let less = it.2 in omega arith);
      instance = λ fields. let it = least (fields + 16) (omega arith) in (it.0, it.1, let less = it.2 in omega arith);
    }
