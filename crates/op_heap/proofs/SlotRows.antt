-- Memory in which a slot was issued or given back.
use Rattle.std.proofs.Common.{◌≡◌, ℕ, ◌+◌, ◌^◌, ◌<◌, ◌≤◌, ◌⊎◌, inl, inr, Bool, true, false, nat_eq, List, [], ◌∷◌, refl, ap, sym, subst, ◌∙◌, arith, drop, ◌≢◌}
use Rattle.std.proofs.lemmas.Bool.{cases_lt, cond-false, cond-true}
use Rattle.std.proofs.lemmas.Bool.Decides.{nat_tests}
use Rattle.op_heap.proofs.Words.{byte_apart, byte_small, with_word, word_above, word_below, word_there}
use Rattle.op_heap.specs.Frames.{IsBesideSlot}
use Rattle.op_heap.specs.Heap.{Heap}
use Rattle.op_heap.specs.Memory.{AreListed, SlotsLie, control_address, row_of}
use Rattle.op_heap.specs.Slots.{AreFree, Lacks, freed, issued, raised, unused_then}
use Rattle.op_rv.specs.State.{word_at}

-- ---- rows

-- a word outside of a row
pub beside_word : (memory : ℕ → ℕ) (a v b : ℕ) → (b + 4 ≤ a) ⊎ (a + 4 ≤ b) → word_at (with_word memory a v) b ≡ word_at memory b
beside_word memory a v b (inl below) = word_below memory a v b below
beside_word memory a v b (inr above) = word_above memory a v b above

-- words of another row
pub other_row : (memory : ℕ → ℕ) (s t i j v : ℕ) → s ≢ t → i + 4 ≤ 8 → j + 4 ≤ 8 → word_at (with_word memory (row_of s + i) v) (row_of t + j) ≡ word_at memory (row_of t + j)
other_row memory s t i j v differ one two =
    elim (cases_lt s t) [
      | inl less ↦ word_above memory (row_of s + i) v (row_of t + j) (omega arith)
      | inr more ↦ word_below memory (row_of s + i) v (row_of t + j) (not_less (cases_lt t s) more differ)
    ]
  where
    not_less : (t < s) ⊎ (s ≤ t) → t ≤ s → s ≢ t → row_of t + j + 4 ≤ row_of s + i
    not_less (inl less) more differ = omega arith
    not_less (inr same) more differ = absurd (differ (omega arith))

-- ---- the list of free slots

pub listed_same : (ss : List ℕ) (memory after : ℕ → ℕ) (next slot : ℕ) → Lacks slot ss → ((t : ℕ) → slot ≢ t → word_at after (row_of t) ≡ word_at memory (row_of t)) → AreListed memory next ss → AreListed after next ss
listed_same [] memory after next slot lacks same listed = listed
listed_same (t ∷ ts) memory after next slot lacks same listed =
    (listed.0, subst (λ next. AreListed after next ts) (sym (same t lacks.0)) (listed_same ts memory after (word_at memory (row_of t)) slot lacks.1 same listed.1))

pub listed_word : (ss : List ℕ) (memory : ℕ → ℕ) (next unused : ℕ) (generation : ℕ → ℕ) → AreFree unused generation ss → unused ≤ 65536 → AreListed memory next ss → next < 65536
listed_word [] memory next unused generation free most listed = omega arith
listed_word (s ∷ ss) memory next unused generation free most listed =
    let is = listed.0 in
    let less = free.1 in
    omega arith

-- free slots of a heap in which another one's generation has risen
free_raised : (ss : List ℕ) (slot unused later : ℕ) (generation : ℕ → ℕ) → unused ≤ later → Lacks slot ss → AreFree unused generation ss → AreFree later (raised slot generation) ss
free_raised [] slot unused later generation more lacks free = tt
free_raised (s ∷ ss) slot unused later generation more lacks free =
    let some = free.0 in
    let less = free.1 in
    let differ : nat_eq s slot ≡ false = other s lacks.0 in
    (some, omega arith, subst (λ n. n < 65535) (sym (cond-false (nat_eq s slot) (generation s + 1) (generation s) differ)) free.2, free.3, free_raised ss slot unused later generation more lacks.1 free.4)
  where
    other : (s : ℕ) → slot ≢ s → nat_eq s slot ≡ false
    other s differ = by_order (cases_lt s slot) (cases_lt slot s)
      where
        by_order : (s < slot) ⊎ (slot ≤ s) → (slot < s) ⊎ (s ≤ slot) → nat_eq s slot ≡ false
        by_order (inl less) more = grind (arith, nat_tests)
        by_order (inr more) (inl less) = grind (arith, nat_tests)
        by_order (inr more) (inr same) = absurd (differ (omega arith))

-- a slot that was never used is not free
pub unused_lacks : (ss : List ℕ) (slot unused : ℕ) (generation : ℕ → ℕ) → unused ≤ slot → AreFree unused generation ss → Lacks slot ss
unused_lacks [] slot unused generation more free = tt
unused_lacks (s ∷ ss) slot unused generation more free =
    let less = free.1 in
    (λ same. omega arith, unused_lacks ss slot unused generation more free.4)

-- ---- a slot is issued

abbrev pub row_memory : (ℕ → ℕ) → (slot address generation : ℕ) → ℕ → ℕ
row_memory memory slot address generation = with_word (with_word memory (row_of slot) address) (row_of slot + 4) generation

-- what is where one control word and a row were written
pub record Issued (memory after : ℕ → ℕ) (h : Heap) (slot address : ℕ) : Type 0 where
  pub lie : SlotsLie after (issued h slot)
  pub leads : word_at after (row_of slot) ≡ address
  pub kept : (x : ℕ) → IsBesideSlot slot x → after x ≡ memory x
  pub bytes : (x : ℕ) → memory x < 2 ^ 8 → after x < 2 ^ 8

raised_at : (slot : ℕ) (generation : ℕ → ℕ) → raised slot generation slot ≡ generation slot + 1
raised_at slot generation =
    let same : nat_eq slot slot ≡ true = grind (arith, nat_tests) in
    cond-true (nat_eq slot slot) (generation slot + 1) (generation slot) same

raised_other : (slot s : ℕ) (generation : ℕ → ℕ) → nat_eq s slot ≡ false → raised slot generation s ≡ generation s
raised_other slot s generation differ = cond-false (nat_eq s slot) (generation s + 1) (generation s) differ

-- rows after a row was written, over memory that has the same rows
rows_are : (memory first : ℕ → ℕ) (slot address : ℕ) (generation : ℕ → ℕ) → generation slot < 65535 → ((s : ℕ) → 1 ≤ s → word_at first (row_of s + 4) ≡ word_at memory (row_of s + 4)) → ((s : ℕ) → 1 ≤ s → s < 65536 → word_at memory (row_of s + 4) ≡ generation s) → (s : ℕ) → 1 ≤ s → s < 65536 → word_at (row_memory first slot address (generation slot + 1)) (row_of s + 4) ≡ raised slot generation s
rows_are memory first slot address generation less same are s some most = by_test (nat_eq s slot) refl
  where
    by_test : (test : Bool) → nat_eq s slot ≡ test → word_at (row_memory first slot address (generation slot + 1)) (row_of s + 4) ≡ raised slot generation s
    by_test true is =
        let it : s ≡ slot = grind (arith, nat_tests) in
        ap (λ s. word_at (row_memory first slot address (generation slot + 1)) (row_of s + 4)) it
        ∙ word_there (with_word first (row_of slot) address) (row_of slot + 4) (generation slot + 1) (omega arith)
        ∙ sym (raised_at slot generation) ∙ ap (raised slot generation) (sym it)
    by_test false is =
        let differ : slot ≢ s = λ it. let e : s ≡ slot = sym it in grind (arith, nat_tests) in
        other_row (with_word first (row_of slot) address) slot s 4 4 (generation slot + 1) differ (omega arith) (omega arith)
        ∙ row_zero differ
        ∙ same s some ∙ are s some most ∙ sym (raised_other slot s generation is)
      where
        row_zero : slot ≢ s → word_at (with_word first (row_of slot) address) (row_of s + 4) ≡ word_at first (row_of s + 4)
        row_zero differ =
            let zero : row_of slot + 0 ≡ row_of slot = omega arith in
            ap (λ a. word_at (with_word first a address) (row_of s + 4)) (sym zero) ∙ other_row first slot s 0 4 address differ (omega arith) (omega arith)

-- words of the control region in front of all rows
pub control_same : (first : ℕ → ℕ) (slot address generation a : ℕ) → 1 ≤ slot → a + 4 ≤ control_address + 32 → word_at (row_memory first slot address generation) a ≡ word_at first a
control_same first slot address generation a some before =
    word_below (with_word first (row_of slot) address) (row_of slot + 4) generation a (omega arith) ∙ word_below first (row_of slot) address a (omega arith)

-- the row itself
row_leads : (first : ℕ → ℕ) (slot address generation : ℕ) → address < 2 ^ 32 → word_at (row_memory first slot address generation) (row_of slot) ≡ address
row_leads first slot address generation fits =
    word_below (with_word first (row_of slot) address) (row_of slot + 4) generation (row_of slot) (omega arith) ∙ word_there first (row_of slot) address fits

-- first words of other rows
firsts_same : (memory first : ℕ → ℕ) (slot address generation : ℕ) → ((t : ℕ) → word_at first (row_of t) ≡ word_at memory (row_of t)) → (t : ℕ) → slot ≢ t → word_at (row_memory first slot address generation) (row_of t) ≡ word_at memory (row_of t)
firsts_same memory first slot address generation same t differ =
    let none : row_of t + 0 ≡ row_of t = omega arith in
    let zero : row_of slot + 0 ≡ row_of slot = omega arith in
    ap (word_at (row_memory first slot address generation)) (sym none)
    ∙ other_row (with_word first (row_of slot) address) slot t 4 0 generation differ (omega arith) (omega arith)
    ∙ ap (λ a. word_at (with_word first a address) (row_of t + 0)) (sym zero)
    ∙ other_row first slot t 0 0 address differ (omega arith) (omega arith)
    ∙ ap (word_at first) none ∙ same t

generations_small : (slot : ℕ) (generation : ℕ → ℕ) → generation slot < 65535 → ((s : ℕ) → generation s ≤ 65535) → (s : ℕ) → raised slot generation s ≤ 65535
generations_small slot generation less small s = by_test (nat_eq s slot) refl
  where
    by_test : (test : Bool) → nat_eq s slot ≡ test → raised slot generation s ≤ 65535
    by_test true is =
        let it : s ≡ slot = grind (arith, nat_tests) in
        let at = raised_at slot generation in
        subst (λ s. raised slot generation s ≤ 65535) (sym it) (omega arith)
    by_test false is =
        let old = small s in
        let at = raised_other slot s generation is in
        omega arith

-- a freed slot
pub issued_free : (memory : ℕ → ℕ) (h : Heap) (s : ℕ) (ss : List ℕ) (address : ℕ) → h.free ≡ s ∷ ss → address < 2 ^ 32 → SlotsLie memory h → Issued memory (row_memory (with_word memory (control_address + 4) (word_at memory (row_of s))) s address (h.generation s + 1)) h s address
issued_free memory h s ss address is fits lie =
    let slots = lie.slots in
    let are = subst (AreFree h.unused h.generation) is slots.free in
    let listed = subst (AreListed memory (word_at memory (control_address + 4))) is lie.listed in
    let some = are.0 in
    let less = are.1 in
    let most = slots.most in
    let next = word_at memory (row_of s) in
    let next_word = listed_word ss memory next h.unused h.generation are.4 slots.most listed.1 in
    let first = with_word memory (control_address + 4) next in
    let after = row_memory first s address (h.generation s + 1) in
    let rows = λ (t : ℕ). word_above memory (control_address + 4) next (row_of t) (omega arith) in
    let left : issued h s ≡ record h { free = ss; generation = raised s h.generation } = ap (λ free. record h { free = drop 1 free; unused = unused_then free h.unused; generation = raised s h.generation }) is in
    record {
      lie =
          subst (SlotsLie after) (sym left)
          (record {
            slots = record {
              some = slots.some;
              most = slots.most;
              free = free_raised ss s h.unused h.unused h.generation (omega arith) are.3 are.4;
              generations = generations_small s h.generation are.2 slots.generations;
              never = λ t more. raised_other s t h.generation (grind (arith, nat_tests)) ∙ slots.never t more;
            };
            listed =
                subst (λ next. AreListed after next ss) (sym (control_same first s address (h.generation s + 1) (control_address + 4) some (omega arith) ∙ word_there memory (control_address + 4) next (omega arith)))
                (listed_same ss memory after next s are.3 (firsts_same memory first s address (h.generation s + 1) rows) listed.1);
            unused = control_same first s address (h.generation s + 1) (control_address + 16) some (omega arith) ∙ word_above memory (control_address + 4) next (control_address + 16) (omega arith) ∙ lie.unused;
            generations = rows_are memory first s address h.generation are.2 (λ t one. word_above memory (control_address + 4) next (row_of t + 4) (omega arith)) lie.generations;
          });
      leads = row_leads first s address (h.generation s + 1) fits;
      kept = λ x beside.
          byte_apart (with_word first (row_of s) address) (row_of s + 4) (h.generation s + 1) x (λ at before. beside.2 (omega arith) (omega arith))
          ∙ byte_apart first (row_of s) address x (λ at before. beside.2 at (omega arith))
          ∙ byte_apart memory (control_address + 4) next x beside.0;
      bytes = λ x old. byte_small (with_word first (row_of s) address) (row_of s + 4) (h.generation s + 1) x (byte_small first (row_of s) address x (byte_small memory (control_address + 4) next x old));
    }

-- one that was never used
pub issued_new : (memory : ℕ → ℕ) (h : Heap) (address : ℕ) → h.free ≡ [] → h.unused < 65536 → address < 2 ^ 32 → SlotsLie memory h → Issued memory (row_memory (with_word memory (control_address + 16) (h.unused + 1)) h.unused address (h.generation h.unused + 1)) h h.unused address
issued_new memory h address is room fits lie =
    let slots = lie.slots in
    let s = h.unused in
    let some = slots.some in
    let zero = slots.never s (omega arith) in
    let first = with_word memory (control_address + 16) (s + 1) in
    let after = row_memory first s address (h.generation s + 1) in
    let listed = subst (AreListed memory (word_at memory (control_address + 4))) is lie.listed in
    let left : issued h s ≡ record h { free = []; unused = s + 1; generation = raised s h.generation } = ap (λ free. record h { free = drop 1 free; unused = unused_then free h.unused; generation = raised s h.generation }) is in
    record {
      lie =
          subst (SlotsLie after) (sym left)
          (record {
            slots = record {
              some = omega arith;
              most = omega arith;
              free = tt;
              generations = generations_small s h.generation (omega arith) slots.generations;
              never = λ t more. raised_other s t h.generation (grind (arith, nat_tests)) ∙ slots.never t (omega arith);
            };
            listed = control_same first s address (h.generation s + 1) (control_address + 4) some (omega arith) ∙ word_below memory (control_address + 16) (s + 1) (control_address + 4) (omega arith) ∙ listed;
            unused = control_same first s address (h.generation s + 1) (control_address + 16) some (omega arith) ∙ word_there memory (control_address + 16) (s + 1) (omega arith);
            generations = rows_are memory first s address h.generation (omega arith) (λ t one. word_above memory (control_address + 16) (s + 1) (row_of t + 4) (omega arith)) lie.generations;
          });
      leads = row_leads first s address (h.generation s + 1) fits;
      kept = λ x beside.
          byte_apart (with_word first (row_of s) address) (row_of s + 4) (h.generation s + 1) x (λ at before. beside.2 (omega arith) (omega arith))
          ∙ byte_apart first (row_of s) address x (λ at before. beside.2 at (omega arith))
          ∙ byte_apart memory (control_address + 16) (s + 1) x beside.1;
      bytes = λ x old. byte_small (with_word first (row_of s) address) (row_of s + 4) (h.generation s + 1) x (byte_small first (row_of s) address x (byte_small memory (control_address + 16) (s + 1) x old));
    }

-- ---- a slot is given back

pub record Freed (memory after : ℕ → ℕ) (h : Heap) (slot : ℕ) : Type 0 where
  pub lie : SlotsLie after (freed h slot)
  pub leads : word_at after (row_of slot) < 65536
  pub retires : h.generation slot ≡ 65535 → word_at after (row_of slot) ≡ 0
  pub kept : (x : ℕ) → IsBesideSlot slot x → after x ≡ memory x
  pub bytes : (x : ℕ) → memory x < 2 ^ 8 → after x < 2 ^ 8

-- a row's first word is none of its generation, and none of another row
first_other : (memory : ℕ → ℕ) (s t v : ℕ) → s ≢ t → word_at (with_word memory (row_of s) v) (row_of t) ≡ word_at memory (row_of t)
first_other memory s t v differ =
    let none : row_of t + 0 ≡ row_of t = omega arith in
    let zero : row_of s + 0 ≡ row_of s = omega arith in
    ap (word_at (with_word memory (row_of s) v)) (sym none) ∙ ap (λ a. word_at (with_word memory a v) (row_of t + 0)) (sym zero) ∙ other_row memory s t 0 0 v differ (omega arith) (omega arith) ∙ ap (word_at memory) none

generation_other : (memory : ℕ → ℕ) (s t v : ℕ) → word_at (with_word memory (row_of s) v) (row_of t + 4) ≡ word_at memory (row_of t + 4)
generation_other memory s t v =
    elim (cases_lt t s) [
      | inl less ↦ word_below memory (row_of s) v (row_of t + 4) (omega arith)
      | inr more ↦ word_above memory (row_of s) v (row_of t + 4) (omega arith)
    ]

-- it is retired
pub freed_retired : (memory : ℕ → ℕ) (h : Heap) (slot : ℕ) → 1 ≤ slot → Lacks slot h.free → h.generation slot ≡ 65535 → SlotsLie memory h → Freed memory (with_word memory (row_of slot) 0) h slot
freed_retired memory h slot some lacks last lie =
    let same : nat_eq (h.generation slot) 65535 ≡ true = grind (arith, nat_tests) in
    let left : freed h slot ≡ h = ap (λ free. record h { free = free }) (cond-true (nat_eq (h.generation slot) 65535) h.free (slot ∷ h.free) same) in
    let after = with_word memory (row_of slot) 0 in
    let at : word_at after (row_of slot) ≡ 0 = word_there memory (row_of slot) 0 (omega arith) in
    let first : word_at after (control_address + 4) ≡ word_at memory (control_address + 4) = word_below memory (row_of slot) 0 (control_address + 4) (omega arith) in
    record {
      lie =
          subst (SlotsLie after) (sym left)
          (record {
            slots = lie.slots;
            listed =
                subst (λ next. AreListed after next h.free) (sym first)
                (listed_same h.free memory after (word_at memory (control_address + 4)) slot lacks (λ t differ. first_other memory slot t 0 differ) lie.listed);
            unused = word_below memory (row_of slot) 0 (control_address + 16) (omega arith) ∙ lie.unused;
            generations = λ s one most. generation_other memory slot s 0 ∙ lie.generations s one most;
          });
      leads = omega arith;
      retires = λ _. at;
      kept = λ x beside. byte_apart memory (row_of slot) 0 x (λ from before. beside.2 from (omega arith));
      bytes = λ x old. byte_small memory (row_of slot) 0 x old;
    }

-- it is the first of the free slots
pub freed_first : (memory : ℕ → ℕ) (h : Heap) (slot : ℕ) → 1 ≤ slot → slot < h.unused → Lacks slot h.free → h.generation slot < 65535 → SlotsLie memory h → Freed memory (with_word (with_word memory (control_address + 4) slot) (row_of slot) (word_at memory (control_address + 4))) h slot
freed_first memory h slot some used lacks less lie =
    let slots = lie.slots in
    let most = slots.most in
    let next = word_at memory (control_address + 4) in
    let next_word = listed_word h.free memory next h.unused h.generation slots.free slots.most lie.listed in
    let differ : nat_eq (h.generation slot) 65535 ≡ false = grind (arith, nat_tests) in
    let left : freed h slot ≡ record h { free = slot ∷ h.free } = ap (λ free. record h { free = free }) (cond-false (nat_eq (h.generation slot) 65535) h.free (slot ∷ h.free) differ) in
    let first = with_word memory (control_address + 4) slot in
    let after = with_word first (row_of slot) next in
    let at : word_at after (row_of slot) ≡ next = word_there first (row_of slot) next (omega arith) in
    let rows = λ (t : ℕ) (other : slot ≢ t). first_other first slot t next other ∙ word_above memory (control_address + 4) slot (row_of t) (omega arith) in
    record {
      lie =
          subst (SlotsLie after) (sym left)
          (record {
            slots = record { some = slots.some; most = slots.most; free = (some, used, less, lacks, slots.free); generations = slots.generations; never = slots.never };
            listed = (
              word_below first (row_of slot) next (control_address + 4) (omega arith) ∙ word_there memory (control_address + 4) slot (omega arith),
              subst (λ next. AreListed after next h.free) (sym at) (listed_same h.free memory after next slot lacks rows lie.listed),
            );
            unused = word_below first (row_of slot) next (control_address + 16) (omega arith) ∙ word_above memory (control_address + 4) slot (control_address + 16) (omega arith) ∙ lie.unused;
            generations = λ s one top. generation_other first slot s next ∙ word_above memory (control_address + 4) slot (row_of s + 4) (omega arith) ∙ lie.generations s one top;
          });
      leads = omega arith;
      retires = λ last. absurd (omega arith);
      kept = λ x beside. byte_apart first (row_of slot) next x (λ from before. beside.2 from (omega arith)) ∙ byte_apart memory (control_address + 4) slot x beside.0;
      bytes = λ x old. byte_small first (row_of slot) next x (byte_small memory (control_address + 4) slot x old);
    }
