-- Memory that has the bytes of the control region and of the heap as they begin has a heap without a block.
use Rattle.std.proofs.Common.{◌≡◌, ◌≤◌, ◌<◌, ℕ, ◌+◌, ◌*◌, Bool, true, false, ◌&&◌, ◌||◌, nat_eq, nat_le, nat_lt, List, [], refl, sym, ap, ◌∙◌, subst, arith}
use Rattle.std.proofs.lemmas.Bool.{and_from}
use Rattle.std.proofs.lemmas.Bool.Decides.{nat_tests}
use Rattle.std.specs.List.{list_any}
use Rattle.op_heap.proofs.Stays.{heap_same}
use Rattle.op_heap.proofs.Tables.{table_same}
use Rattle.op_heap.specs.Demands.{first_heap}
use Rattle.op_image.specs.Means.{HeapStands, is_of_heap}
use Rattle.op_link.specs.Memory.{control_address, heap_address, heap_size}
use Rattle.op_link.specs.declared.memory_map.Settings.{Settings}
use Rattle.op_meaning.specs.Demands.{standing}
use Rattle.op_meaning.specs.Frames.{State}
use Rattle.op_select.specs.Going.{Setting as Placed}
use Rattle.op_correctness.proofs.Nameless.{IsNameless}
use Rattle.op_correctness.proofs.Serving.{stand_none}
use Rattle.op_correctness.specs.Heaped.{Held}

-- ---- bytes of the two regions

in_control : (settings : Settings) (x : ℕ) → control_address ≤ x → x < control_address + 524312 → is_of_heap settings x ≡ true
in_control settings x from before =
    let lower : nat_le control_address x ≡ true = grind (arith, nat_tests) in
    let upper : nat_lt x (control_address + 524312) ≡ true = grind (arith, nat_tests) in
    ap (λ b. b || (nat_le heap_address x && nat_lt x (heap_address + heap_size settings))) (and_from (nat_le control_address x) (nat_lt x (control_address + 524312)) lower upper)

either_true : (b : Bool) → (b || true) ≡ true
either_true true = refl
either_true false = refl

in_heap : (settings : Settings) (x : ℕ) → heap_address ≤ x → x < heap_address + heap_size settings → is_of_heap settings x ≡ true
in_heap settings x from before =
    let lower : nat_le heap_address x ≡ true = grind (arith, nat_tests) in
    let upper : nat_lt x (heap_address + heap_size settings) ≡ true = grind (arith, nat_tests) in
    let control = nat_le control_address x && nat_lt x (control_address + 524312) in
    ap (λ b. control || b) (and_from (nat_le heap_address x) (nat_lt x (heap_address + heap_size settings)) lower upper) ∙ either_true control

-- ---- what memory has

module _ (w : Placed) (memory after : ℕ → ℕ) (settings : Settings) (image : List ℕ) (stands : HeapStands w memory settings image) (same : (x : ℕ) → is_of_heap settings x ≡ true → after x ≡ memory x) where
  pub held_still : (s : State) → IsNameless s.world → Held s (first_heap (heap_size settings)) after
  held_still s nameless =
      let kept : (x : ℕ) → control_address ≤ x → x < control_address + 524312 → after x ≡ memory x = λ x from before. same x (in_control settings x from before) in
      record {
        names = λ name. sym (ap (list_any (nat_eq name)) (stand_none s nameless));
        lies = heap_same _ memory after (first_heap (heap_size settings)) (λ x from before. kept x from (omega arith)) (λ x from before. same x (in_heap settings x from before)) (stands.lies _);
        table = table_same memory after (first_heap (heap_size settings)) (λ x from before. kept x (omega arith) before) stands.table;
      }
