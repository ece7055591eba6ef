-- No word is issued twice.
use Rattle.std.proofs.Common.{◌≡◌, ℕ, ◌+◌, ◌<◌, ◌≤◌, Bool, true, false, nat_eq, List, [], ◌∷◌, refl, ap, sym, arith, ◌≢◌}
use Rattle.std.proofs.lemmas.Bool.{cond-false, cond-true}
use Rattle.std.proofs.lemmas.Bool.Decides.{nat_tests}
use Rattle.op_heap.specs.Heap.{Heap}
use Rattle.op_heap.specs.Slots.{AreIssued, Lacks, freed, issued, raised, word_of}

-- the next word of a slot is none of those that were issued
pub next_is_new : (ws : List ℕ) (h : Heap) (s : ℕ) → s < 65536 → AreIssued h ws → Lacks (word_of (h.generation s + 1) s) ws
next_is_new [] h s small are = tt
next_is_new (w ∷ ws) h s small are = (differ are.0, next_is_new ws h s small are.1)
  where
    differ : ((t : ℕ) × (g : ℕ) × (w ≡ word_of g t) × (t < 65536) × (g ≤ h.generation t)) → word_of (h.generation s + 1) s ≢ w
    differ (t, g, is, less, reached) same =
        let slots : s ≡ t = omega arith in
        let generations : g ≡ h.generation s + 1 = omega arith in
        let there : h.generation t ≡ h.generation s = ap h.generation (sym slots) in
        omega arith

raised_more : (slot s : ℕ) (generation : ℕ → ℕ) → generation s ≤ raised slot generation s
raised_more slot s generation = by_test (nat_eq s slot) refl
  where
    by_test : (test : Bool) → nat_eq s slot ≡ test → generation s ≤ raised slot generation s
    by_test true is = let at = cond-true (nat_eq s slot) (generation s + 1) (generation s) is in omega arith
    by_test false is = let at = cond-false (nat_eq s slot) (generation s + 1) (generation s) is in omega arith

still_issued : (ws : List ℕ) (h : Heap) (slot : ℕ) → AreIssued h ws → AreIssued (issued h slot) ws
still_issued [] h slot are = tt
still_issued (w ∷ ws) h slot are = (reaches are.0, still_issued ws h slot are.1)
  where
    reaches : ((s : ℕ) × (g : ℕ) × (w ≡ word_of g s) × (s < 65536) × (g ≤ h.generation s)) → (s : ℕ) × (g : ℕ) × (w ≡ word_of g s) × (s < 65536) × (g ≤ raised slot h.generation s)
    reaches (s, g, is, less, reached) = let more = raised_more slot s h.generation in (s, g, is, less, omega arith)

-- it is one of them from then on
pub issued_then : (ws : List ℕ) (h : Heap) (s : ℕ) → s < 65536 → AreIssued h ws → AreIssued (issued h s) (word_of (h.generation s + 1) s ∷ ws)
issued_then ws h s small are =
    let same : nat_eq s s ≡ true = grind (arith, nat_tests) in
    let at = cond-true (nat_eq s s) (h.generation s + 1) (h.generation s) same in
    ((s, h.generation s + 1, refl, small, omega arith), still_issued ws h s are)

-- giving a slot back changes none of them
pub freed_then : (ws : List ℕ) (h : Heap) (s : ℕ) → AreIssued h ws → AreIssued (freed h s) ws
freed_then [] h s are = tt
freed_then (w ∷ ws) h s are = (are.0, freed_then ws h s are.1)
