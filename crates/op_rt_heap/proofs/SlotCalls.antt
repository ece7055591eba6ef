-- Calls of the routines of slots.
use Rattle.std.proofs.Common.{◌≡◌, ℕ, ◌+◌, ◌^◌, ◌<◌, ◌≤◌, inl, inr, true, false, nat_lt, Some, None, List, [], ◌∷◌, slice_index, refl, ap, sym, subst, ◌∙◌, arith}
use Rattle.std.proofs.lemmas.Bool.{cases_lt, cond-false, cond-true}
use Rattle.std.proofs.lemmas.Bool.Decides.{nat_tests}
use Rattle.op_heap.proofs.Holes.{some_is}
use Rattle.op_heap.proofs.SlotRows.{Freed, Issued, freed_first, freed_retired, issued_free, issued_new, row_memory}
use Rattle.op_heap.proofs.Stays.{heap_of, heap_same, slots_within}
use Rattle.op_heap.proofs.Words.{with_word, word_above}
use Rattle.op_heap.specs.Frames.{IsBesideSlot}
use Rattle.op_heap.specs.Heap.{Heap}
use Rattle.op_heap.specs.Memory.{AreListed, HeapLies, SlotsLie, control_address, row_of}
use Rattle.op_heap.specs.Slots.{AreFree, Lacks, freed, issued, next_slot, word_of}
use Rattle.op_low.specs.State.{Placement, State, space}
use Rattle.op_low.specs.declared.code.Low.{Low}
use Rattle.op_low.specs.declared.code.Routine.{Routine}
use Rattle.op_low.specs.declared.instruction.Call.{Call as Operands}
use Rattle.op_low.specs.declared.instruction.Instruction.{Instruction}
use Rattle.op_rt_heap.proofs.Calling.{call_comes, nothing_cleared, room_of}
use Rattle.op_rt_heap.proofs.CallFails.{call_fails, failed, tells}
use Rattle.op_rt_heap.proofs.SlotRun.{at_unused, finds_free, finds_none, finds_unused, issues_free, issues_new, links, retires}
use Rattle.op_rt_heap.proofs.Walks.{cleared, walk_then}
use Rattle.op_rt_heap.specs.Running.{Comes, Fails, Frees, HasControl, HasErrorText, HasNext, IsCalled, Issues}
use Rattle.op_rt_heap.specs.Slots.{free_slot, frees, issue_slot, issues, looks, test_slot}
use Rattle.op_rv.specs.State.{word_at}

none_some : (s : ℕ) → None ≡ Some s → ⊥
none_some s is = cc

-- blocks stay where a row changes, and the words that tell which slot is next
blocks_stay : (kinds memory after : ℕ → ℕ) (h : Heap) (slot : ℕ) → 1 ≤ slot → slot < 65536 → ((x : ℕ) → IsBesideSlot slot x → after x ≡ memory x) → h.bytes ≤ 0x10000000 → HeapLies kinds memory h → HeapLies kinds after h
blocks_stay kinds memory after h slot some small kept bytes lies =
    heap_same kinds memory after h
    (λ x from before. kept x (λ at under. omega arith, λ at under. omega arith, λ at under. omega arith))
    (λ x from before. kept x (λ at under. omega arith, λ at under. omega arith, λ at under. omega arith))
    lies

module _ (low : Low) (p : Placement) (m : State) (r : ℕ) (operands : Operands) (rest : List Instruction) (h : Heap) (control : HasControl p m) (lies : SlotsLie m.memory h) where
  abbrev memory : ℕ → ℕ
  memory = cleared low m r

  has : (routine : Routine) (arguments : List ℕ) → routine.locals ≡ 0 → IsCalled low p m r routine arguments operands rest → space low p r ≤ m.room
  has routine arguments none called = room_of low p m r routine arguments operands rest none called

  -- ---- it is tested that there is one

  module _ (called : IsCalled low p m r test_slot [] operands rest) where
    as_it_was : (x : ℕ) → memory x ≡ m.memory x
    as_it_was = nothing_cleared low m r (ap (λ (x : Routine). x.locals) called.is)

    tested_lies : SlotsLie memory h
    tested_lies = slots_within m.memory memory h (λ x from before. as_it_was x) lies

    abbrev registers : ℕ → ℕ
    registers = slice_index []

    has_next : Comes low p m operands rest 0 memory 96 → HasNext low p m operands rest
    has_next comes = record { memory = memory; kept = as_it_was; comes = comes }

    pub finds_it : (s : ℕ) → next_slot h.free h.unused ≡ Some s → HasNext low p m operands rest
    finds_it s next = by_free h.free refl next
      where
        by_free : (free : List ℕ) → h.free ≡ free → next_slot free h.unused ≡ Some s → HasNext low p m operands rest
        by_free [] none next =
            elim (cases_lt h.unused 65536) [
              | inl room ↦
                  has_next
                  (call_comes low p m r test_slot [] operands rest looks 0 memory 7 96 called refl refl (omega arith) refl (omega arith)
                  (finds_unused low p m r operands rest control (has test_slot [] refl called) called.is registers memory h.unused room refl (subst (AreListed memory (word_at memory (control_address + 4))) none tested_lies.listed) tested_lies.unused))
              | inr full ↦
                  let more : nat_lt h.unused 65536 ≡ false = grind (arith, nat_tests) in
                  absurd (none_some s (sym (cond-false (nat_lt h.unused 65536) (Some h.unused) None more) ∙ next))
            ]
        by_free (t ∷ ts) is next =
            let are = subst (AreFree h.unused h.generation) is lies.slots.free in
            let listed = subst (AreListed memory (word_at memory (control_address + 4))) is tested_lies.listed in
            has_next
            (call_comes low p m r test_slot [] operands rest looks 0 memory 4 96 called refl refl (omega arith) refl (omega arith)
            (finds_free low p m r operands rest control (has test_slot [] refl called) called.is registers memory t are.0 refl listed.0))

    pub refuses_it : (line : List ℕ) → HasErrorText p m line → next_slot h.free h.unused ≡ None → Fails low p m line 96
    refuses_it line stands next = by_free h.free refl next
      where
        some_none : (s : ℕ) → Some s ≡ None → ⊥
        some_none s is = cc

        by_free : (free : List ℕ) → h.free ≡ free → next_slot free h.unused ≡ None → Fails low p m line 96
        by_free [] none next =
            elim (cases_lt h.unused 65536) [
              | inl room ↦
                  let less : nat_lt h.unused 65536 ≡ true = grind (arith, nat_tests) in
                  absurd (some_none h.unused (sym (cond-true (nat_lt h.unused 65536) (Some h.unused) None less) ∙ next))
              | inr full ↦
                  call_fails low p m r operands rest line stands as_it_was test_slot [] looks (failed low p m r operands rest line stands as_it_was (at_unused low p m r operands rest control (has test_slot [] refl called) called.is registers h.unused)) 12 96 called refl refl (omega arith) refl (omega arith)
                  (walk_then
                  (finds_none low p m r operands rest control (has test_slot [] refl called) called.is registers memory h.unused full refl (subst (AreListed memory (word_at memory (control_address + 4))) none tested_lies.listed) tested_lies.unused)
                  (tells low p m r operands rest line stands as_it_was (at_unused low p m r operands rest control (has test_slot [] refl called) called.is registers h.unused)))
            ]
        by_free (t ∷ ts) is next = absurd (some_none t next)

  -- ---- a slot is issued

  module _ (s a : ℕ) (called : IsCalled low p m r issue_slot (a ∷ []) operands rest) (fits : a < 2 ^ 32) where
    unchanged : (x : ℕ) → memory x ≡ m.memory x
    unchanged = nothing_cleared low m r (ap (λ (x : Routine). x.locals) called.is)

    here_lies : SlotsLie memory h
    here_lies = slots_within m.memory memory h (λ x from before. unchanged x) lies

    issued_by : (after : ℕ → ℕ) → 1 ≤ s → s < 65536 → Issued memory after h s a → Comes low p m operands rest (word_of (h.generation s + 1) s) after 96 → Issues low p m operands rest h s a
    issued_by after some small it comes =
        record {
          memory = after;
          lie = it.lie;
          leads = it.leads;
          kept = λ x beside. it.kept x beside ∙ unchanged x;
          heap = λ kinds lies.
              heap_of kinds after h (issued h s).free (issued h s).unused (issued h s).generation
              (blocks_stay kinds m.memory after h s some small (λ x beside. it.kept x beside ∙ unchanged x) lies.heap.small lies);
          bytes = λ x old. it.bytes x (subst (λ b. b < 2 ^ 8) (sym (unchanged x)) old);
          comes = comes;
        }

    new_issued : h.free ≡ [] → h.unused ≡ s → s < 65536 → Issues low p m operands rest h s a
    new_issued none same room =
        let some = lies.slots.some in
        let zero : h.generation s ≡ 0 = lies.slots.never s (omega arith) in
        let listed = subst (AreListed memory (word_at memory (control_address + 4))) none here_lies.listed in
        let first = with_word memory (control_address + 16) (s + 1) in
        let after = row_memory first s a (h.generation s + 1) in
        let generation : word_at (with_word first (row_of s) a) (row_of s + 4) ≡ h.generation s = word_above first (row_of s) a (row_of s + 4) (omega arith) ∙ word_above memory (control_address + 16) (s + 1) (row_of s + 4) (omega arith) ∙ here_lies.generations s (omega arith) room in
        let it : Issued memory after h s a = subst (λ s. Issued memory (row_memory (with_word memory (control_address + 16) (s + 1)) s a (h.generation s + 1)) h s a) same (issued_of same room) in
        issued_by after (omega arith) room it
        (call_comes low p m r issue_slot (a ∷ []) operands rest issues (word_of (h.generation s + 1) s) after 16 96 called refl refl (omega arith) refl (omega arith)
        (issues_new low p m r operands rest control (has issue_slot (a ∷ []) refl called) called.is (slice_index (a ∷ [])) memory s a (h.generation s) (omega arith) room refl refl listed (here_lies.unused ∙ same) generation (omega arith)))
      where
        issued_of : h.unused ≡ s → s < 65536 → Issued memory (row_memory (with_word memory (control_address + 16) (h.unused + 1)) h.unused a (h.generation h.unused + 1)) h h.unused a
        issued_of same room = issued_new memory h a none (omega arith) fits here_lies

    free_issued : (ts : List ℕ) → h.free ≡ s ∷ ts → Issues low p m operands rest h s a
    free_issued ts is =
        let are = subst (AreFree h.unused h.generation) is lies.slots.free in
        let some = are.0 in
        let used = are.1 in
        let most = lies.slots.most in
        let listed = subst (AreListed memory (word_at memory (control_address + 4))) is here_lies.listed in
        let next = word_at memory (row_of s) in
        let first = with_word memory (control_address + 4) next in
        let after = row_memory first s a (h.generation s + 1) in
        let generation : word_at (with_word first (row_of s) a) (row_of s + 4) ≡ h.generation s = word_above first (row_of s) a (row_of s + 4) (omega arith) ∙ word_above memory (control_address + 4) next (row_of s + 4) (omega arith) ∙ here_lies.generations s some (omega arith) in
        issued_by after some (omega arith) (issued_free memory h s ts a is fits here_lies)
        (call_comes low p m r issue_slot (a ∷ []) operands rest issues (word_of (h.generation s + 1) s) after 15 96 called refl refl (omega arith) refl (omega arith)
        (issues_free low p m r operands rest control (has issue_slot (a ∷ []) refl called) called.is (slice_index (a ∷ [])) memory s a (h.generation s) next some (omega arith) refl refl listed.0 refl generation are.2))

    pub issues_it : next_slot h.free h.unused ≡ Some s → Issues low p m operands rest h s a
    issues_it next = by_free h.free refl next
      where
        by_free : (free : List ℕ) → h.free ≡ free → next_slot free h.unused ≡ Some s → Issues low p m operands rest h s a
        by_free [] none next =
            elim (cases_lt h.unused 65536) [
              | inl room ↦
                  let less : nat_lt h.unused 65536 ≡ true = grind (arith, nat_tests) in
                  let same : h.unused ≡ s = some_is h.unused s (sym (cond-true (nat_lt h.unused 65536) (Some h.unused) None less) ∙ next) in
                  new_issued none same (omega arith)
              | inr full ↦
                  let more : nat_lt h.unused 65536 ≡ false = grind (arith, nat_tests) in
                  absurd (none_some s (sym (cond-false (nat_lt h.unused 65536) (Some h.unused) None more) ∙ next))
            ]
        by_free (t ∷ ts) is next =
            let same : t ≡ s = some_is t s next in
            free_issued ts (is ∙ ap (λ t. t ∷ ts) same)

  -- ---- a slot is given back

  pub frees_it : (s : ℕ) → IsCalled low p m r free_slot (s ∷ []) operands rest → 1 ≤ s → s < h.unused → Lacks s h.free → Frees low p m operands rest h s
  frees_it s called some used lacks =
      let most = lies.slots.most in
      let small = lies.slots.generations s in
      let unchanged = nothing_cleared low m r (ap (λ (x : Routine). x.locals) called.is) in
      let here = slots_within m.memory memory h (λ x from before. unchanged x) lies in
      let room = has free_slot (s ∷ []) refl called in
      let generation = here.generations s some (omega arith) in
      elim (cases_lt (h.generation s) 65535) [
        | inl less ↦
            let next = word_at memory (control_address + 4) in
            let after = with_word (with_word memory (control_address + 4) s) (row_of s) next in
            let it = freed_first memory h s some used lacks less here in
            record {
              memory = after;
              lie = it.lie;
              leads = it.leads;
              retires = λ last. (it.retires last, it.lie.generations s some (omega arith) ∙ last);
              kept = λ x beside. it.kept x beside ∙ unchanged x;
              heap = freed_heap unchanged after it;
              bytes = λ x old. it.bytes x (subst (λ b. b < 2 ^ 8) (sym (unchanged x)) old);
              comes =
                  call_comes low p m r free_slot (s ∷ []) operands rest frees 0 after 11 96 called refl refl (omega arith) refl (omega arith)
                  (links low p m r operands rest control room called.is (slice_index (s ∷ [])) memory s (h.generation s) next some (omega arith) refl refl generation less refl);
            }
        | inr more ↦
            let last : h.generation s ≡ 65535 = omega arith in
            let after = with_word memory (row_of s) 0 in
            let it = freed_retired memory h s some lacks last here in
            record {
              memory = after;
              lie = it.lie;
              leads = it.leads;
              retires = λ last. (it.retires last, it.lie.generations s some (omega arith) ∙ last);
              kept = λ x beside. it.kept x beside ∙ unchanged x;
              heap = freed_heap unchanged after it;
              bytes = λ x old. it.bytes x (subst (λ b. b < 2 ^ 8) (sym (unchanged x)) old);
              comes =
                  call_comes low p m r free_slot (s ∷ []) operands rest frees 0 after 8 96 called refl refl (omega arith) refl (omega arith)
                  (retires low p m r operands rest control room called.is (slice_index (s ∷ [])) memory s some (omega arith) refl refl refl (generation ∙ last));
            }
      ]
    where
      freed_heap : ((x : ℕ) → memory x ≡ m.memory x) → (after : ℕ → ℕ) → Freed memory after h s → (kinds : ℕ → ℕ) → HeapLies kinds m.memory h → HeapLies kinds after (freed h s)
      freed_heap unchanged after it kinds lying =
          let most = lies.slots.most in
          heap_of kinds after h (freed h s).free h.unused h.generation
          (blocks_stay kinds m.memory after h s some (omega arith) (λ x beside. it.kept x beside ∙ unchanged x) lying.heap.small lying)
