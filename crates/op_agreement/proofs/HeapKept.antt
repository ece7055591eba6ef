-- Memory has the heap still where the heap's own bytes are as they were.
use Rattle.std.proofs.Common.{◌≡◌, ◌<◌, ℕ, arith}
use Rattle.op_heap.proofs.Stays.{heap_same}
use Rattle.op_heap.proofs.Tables.{table_same}
use Rattle.op_agreement.specs.Fitting.{HasHeap, IsFitting, IsOwned}
use Rattle.op_agreement.specs.Settings.{Setting}

module _ (g : Setting) (fit : IsFitting g) (old new : ℕ → ℕ) where
  pub heap_stays : ((x : ℕ) → IsOwned g x → new x ≡ old x) → HasHeap g old → HasHeap g new
  heap_stays same is =
      let placed = fit.placed.heap in
      record {
        lies = heap_same g.kinds old new g.heap (λ x from before. same x (placed.control x from (omega arith))) (λ x from before. same x (placed.heap x from before)) is.lies;
        table = table_same old new g.heap (λ x from before. same x (placed.control x (omega arith) before)) is.table;
      }

  -- memory changes from the bottom of the stack on
  pub heap_below : ((x : ℕ) → x < g.bottom → new x ≡ old x) → HasHeap g old → HasHeap g new
  heap_below same = heap_stays (λ x owned. same x owned.below)
