-- Each slot leads to its block, whatever is made and let go.
use Rattle.std.proofs.Common.{◌≡◌, ◌≢◌, ℕ, ◌+◌, ◌<◌, ◌≤◌, ◌⊎◌, inl, inr, Bool, true, false, nat_eq, nat_lt, Some, None, List, [], ◌∷◌, drop, refl, ap, sym, subst, ◌∙◌, arith}
use Rattle.std.proofs.lemmas.Bool.{cases_lt, cond-false, cond-true}
use Rattle.std.proofs.lemmas.Bool.Decides.{nat_tests}
use Rattle.op_base.proofs.Tests.{eqb-turned}
use Rattle.op_heap.proofs.Blocks.{named_left, named_new, named_other}
use Rattle.op_heap.proofs.Gaps.{none_block, some_block}
use Rattle.op_heap.proofs.Holes.{some_is}
use Rattle.op_heap.proofs.Stays.{slots_of, slots_within}
use Rattle.op_heap.specs.Frames.{KeepsControl, KeepsRows}
use Rattle.op_heap.specs.Heap.{Block, Heap, block_named, placed, with_block, without, without_block}
use Rattle.op_heap.specs.Instances.{AreNamed, IsFresh, IsInstance, IsRetired, TableLies}
use Rattle.op_heap.specs.Memory.{SlotsLie, row_of}
use Rattle.op_heap.specs.Slots.{AreFree, Lacks, free_then, freed, issued, next_slot, raised, unused_then}
use Rattle.op_rv.proofs.Memory.{word_at-same}
use Rattle.op_rv.specs.State.{word_at}

-- ---- names

-- two numbers are one or differ
which : (m n : ℕ) → (m ≡ n) ⊎ (nat_eq m n ≡ false)
which m n = by_test (nat_eq m n) refl
  where
    by_test : (test : Bool) → nat_eq m n ≡ test → (m ≡ n) ⊎ (nat_eq m n ≡ false)
    by_test true is = inl (grind (arith, nat_tests))
    by_test false is = inr is

-- an instance behind another block is the new one or an old one
pub record WasThere (h : Heap) (new : Block) (name : ℕ) (b : Block) : Type 0 where
  pub differs : nat_eq new.name name ≡ false
  pub instance : IsInstance h name b

new_or_old : (h : Heap) (new : Block) (name : ℕ) (b : Block) → IsFresh new.name h.blocks → IsInstance (with_block h new) name b → ((new ≡ b) × (new.name ≡ name)) ⊎ WasThere h new name b
new_or_old h new name b fresh is = by_name (which new.name name)
  where
    by_name : (new.name ≡ name) ⊎ (nat_eq new.name name ≡ false) → ((new ≡ b) × (new.name ≡ name)) ⊎ WasThere h new name b
    by_name (inl same) = inl (some_block new b (sym (named_new h.blocks new fresh) ∙ ap (λ n. block_named n (placed new h.blocks)) same ∙ is.found), same)
    by_name (inr differ) = inr (record { differs = differ; instance = record { found = sym (named_other h.blocks new name differ) ∙ is.found; slotted = is.slotted } })

-- a name that no block has is none of the first block's
not_first : (c : Block) (cs : List Block) (name : ℕ) → IsFresh name (c ∷ cs) → (nat_eq c.name name ≡ false) × IsFresh name cs
not_first c cs name fresh = by_name (nat_eq c.name name) refl
  where
    some_none : Some c ≡ None → ⊥
    some_none is = cc

    by_name : (test : Bool) → nat_eq c.name name ≡ test → (nat_eq c.name name ≡ false) × IsFresh name cs
    by_name true is = absurd (some_none (sym (cond-true (nat_eq c.name name) (Some c) (block_named name cs) is) ∙ fresh))
    by_name false is = (is, sym (cond-false (nat_eq c.name name) (Some c) (block_named name cs) is) ∙ fresh)

names_placed : (bs : List Block) (new : Block) → IsFresh new.name bs → AreNamed bs → AreNamed (placed new bs)
names_placed [] new fresh names = (refl, tt)
names_placed (c ∷ cs) new fresh names =
    let other = not_first c cs new.name fresh in
    by_order (nat_lt new.address c.address) refl other.0 (names_placed cs new other.1 names.1)
  where
    by_order : (test : Bool) → nat_lt new.address c.address ≡ test → nat_eq c.name new.name ≡ false → AreNamed (placed new cs) → AreNamed (placed new (c ∷ cs))
    by_order true before differ rest = subst AreNamed (sym (cond-true (nat_lt new.address c.address) (new ∷ c ∷ cs) (c ∷ placed new cs) before)) (fresh, names)
    by_order false after differ rest =
        subst AreNamed (sym (cond-false (nat_lt new.address c.address) (new ∷ c ∷ cs) (c ∷ placed new cs) after)) (
          named_other cs new c.name (eqb-turned c.name new.name differ) ∙ names.0,
          rest,
        )

names_left : (bs : List Block) (name : ℕ) → AreNamed bs → AreNamed (without name bs)
names_left [] name names = tt
names_left (c ∷ cs) name names = by_name (nat_eq c.name name) refl (names_left cs name names.1)
  where
    by_name : (test : Bool) → nat_eq c.name name ≡ test → AreNamed (without name cs) → AreNamed (without name (c ∷ cs))
    by_name true is rest = subst AreNamed (sym (cond-true (nat_eq c.name name) cs (c ∷ without name cs) is)) names.1
    by_name false is rest =
        subst AreNamed (sym (cond-false (nat_eq c.name name) cs (c ∷ without name cs) is)) (
          named_left cs name c.name (eqb-turned c.name name is) ∙ names.0,
          rest,
        )

-- a name that was given up is one of no block
name_gone : (bs : List Block) (name : ℕ) → AreNamed bs → IsFresh name (without name bs)
name_gone [] name names = refl
name_gone (c ∷ cs) name names = by_name (nat_eq c.name name) refl (name_gone cs name names.1)
  where
    by_name : (test : Bool) → nat_eq c.name name ≡ test → IsFresh name (without name cs) → IsFresh name (without name (c ∷ cs))
    by_name true is rest =
        let same : c.name ≡ name = grind (arith, nat_tests) in
        ap (block_named name) (cond-true (nat_eq c.name name) cs (c ∷ without name cs) is) ∙ subst (λ n. IsFresh n cs) same names.0
    by_name false is rest =
        ap (block_named name) (cond-false (nat_eq c.name name) cs (c ∷ without name cs) is)
        ∙ cond-false (nat_eq c.name name) (Some c) (block_named name (without name cs)) is ∙ rest

-- an instance that is left has another name, and was there
was_left : (h : Heap) (gone name : ℕ) (b : Block) → AreNamed h.blocks → IsInstance (without_block h gone) name b → (nat_eq gone name ≡ false) × IsInstance h name b
was_left h gone name b names is = by_name (which gone name)
  where
    by_name : (gone ≡ name) ⊎ (nat_eq gone name ≡ false) → (nat_eq gone name ≡ false) × IsInstance h name b
    by_name (inl same) = absurd (none_block b (sym (name_gone h.blocks gone names) ∙ ap (λ n. block_named n (without gone h.blocks)) same ∙ is.found))
    by_name (inr differ) = (differ, record { found = sym (named_left h.blocks gone name differ) ∙ is.found; slotted = is.slotted })

-- what was an instance is one behind another block
still_there : (h : Heap) (new : Block) (name : ℕ) (b : Block) → IsFresh new.name h.blocks → IsInstance h name b → block_named name (placed new h.blocks) ≡ Some b
still_there h new name b fresh is = by_name (which new.name name)
  where
    by_name : (new.name ≡ name) ⊎ (nat_eq new.name name ≡ false) → block_named name (placed new h.blocks) ≡ Some b
    by_name (inl same) = absurd (none_block b (sym fresh ∙ ap (λ n. block_named n h.blocks) same ∙ is.found))
    by_name (inr differ) = named_other h.blocks new name differ ∙ is.found

-- ---- rows

positive : (n : ℕ) → n ≢ 0 → 1 ≤ n
positive n some = by_order (cases_lt 0 n)
  where
    by_order : (0 < n) ⊎ (n ≤ 0) → 1 ≤ n
    by_order (inl more) = omega arith
    by_order (inr none) = absurd (some (omega arith))

row_same : (memory after : ℕ → ℕ) (t : ℕ) → 1 ≤ t → t < 65536 → KeepsControl memory after → word_at after (row_of t) ≡ word_at memory (row_of t)
row_same memory after t some less same = word_at-same memory after (row_of t) (λ x from before. same x (omega arith) (omega arith))

-- where the same heap stays
pub table_same : (memory after : ℕ → ℕ) (h : Heap) → KeepsControl memory after → TableLies memory h → TableLies after h
table_same memory after h same was =
    let most = was.slots.slots.most in
    record {
      slots = slots_within memory after h same was.slots;
      instances = was.instances;
      leads = λ name b there.
          let issued_before = (was.instances.issued name b there).0 in
          row_same memory after b.slot (positive b.slot there.slotted) (omega arith) same ∙ was.leads name b there;
      ends = λ s there.
          let issued_before = there.issued in
          row_same memory after s there.some (omega arith) same ∙ was.ends s there;
    }

other_row_same : (memory after : ℕ → ℕ) (s t : ℕ) → t ≢ s → 1 ≤ t → t < 65536 → KeepsRows s memory after → word_at after (row_of t) ≡ word_at memory (row_of t)
other_row_same memory after s t differ some less kept = word_at-same memory after (row_of t) (λ x from before. kept x (λ at under. omega arith, λ at under. omega arith, beside x from before (cases_lt t s) (cases_lt s t)) (omega arith) (omega arith))
  where
    beside : (x : ℕ) → row_of t ≤ x → x < row_of t + 4 → (t < s) ⊎ (s ≤ t) → (s < t) ⊎ (t ≤ s) → row_of s ≤ x → x < row_of s + 8 → ⊥
    beside x from before (inl lower) other at under = omega arith
    beside x from before (inr higher) (inl lower) at under = omega arith
    beside x from before (inr higher) (inr same) at under = differ (omega arith)

-- ---- slots

-- the next slot is none that was issued and is not free
next_differs : (free : List ℕ) (unused s t : ℕ) → t < unused → Lacks t free → next_slot free unused ≡ Some s → t ≢ s
next_differs [] unused s t less lacks next same = elim (cases_lt unused 65536) [
  | inl room ↦
      let below : nat_lt unused 65536 ≡ true = grind (arith, nat_tests) in
      let is : unused ≡ s = some_is unused s (sym (cond-true (nat_lt unused 65536) (Some unused) None below) ∙ next) in
      omega arith
  | inr full ↦
      let above : nat_lt unused 65536 ≡ false = grind (arith, nat_tests) in
      absurd (none_some s (sym (cond-false (nat_lt unused 65536) (Some unused) None above) ∙ next))
]
  where
    none_some : (s : ℕ) → None ≡ Some s → ⊥
    none_some s is = cc
next_differs (u ∷ us) unused s t less lacks next same = lacks.0 (same ∙ sym (some_is u s next))

-- once it was issued
next_issued : (free : List ℕ) (unused s : ℕ) (generation : ℕ → ℕ) → AreFree unused generation free → next_slot free unused ≡ Some s → (s < unused_then free unused) × Lacks s (drop 1 free)
next_issued [] unused s generation are next = elim (cases_lt unused 65536) [
  | inl room ↦
      let below : nat_lt unused 65536 ≡ true = grind (arith, nat_tests) in
      let is : unused ≡ s = some_is unused s (sym (cond-true (nat_lt unused 65536) (Some unused) None below) ∙ next) in
      (omega arith, tt)
  | inr full ↦
      let above : nat_lt unused 65536 ≡ false = grind (arith, nat_tests) in
      absurd (none_some s (sym (cond-false (nat_lt unused 65536) (Some unused) None above) ∙ next))
]
  where
    none_some : (s : ℕ) → None ≡ Some s → ⊥
    none_some s is = cc
next_issued (u ∷ us) unused s generation are next =
    let same : u ≡ s = some_is u s next in
    (subst (λ s. s < unused) same are.1, subst (λ s. Lacks s us) same are.3)

still_issued : (free : List ℕ) (unused t : ℕ) → t < unused → Lacks t free → (t < unused_then free unused) × Lacks t (drop 1 free)
still_issued [] unused t less lacks = (omega arith, tt)
still_issued (u ∷ us) unused t less lacks = (less, lacks.1)

lacks_then : (free : List ℕ) (s t generation : ℕ) → t ≢ s → Lacks t free → Lacks t (free_then s generation free)
lacks_then free s t generation differ lacks = by_test (nat_eq generation 65535) refl
  where
    by_test : (test : Bool) → nat_eq generation 65535 ≡ test → Lacks t (free_then s generation free)
    by_test true last = subst (Lacks t) (sym (cond-true (nat_eq generation 65535) free (s ∷ free) last)) lacks
    by_test false more = subst (Lacks t) (sym (cond-false (nat_eq generation 65535) free (s ∷ free) more)) (differ, lacks)

-- what is not free behind that was not free, and where it is the slot itself that was its last generation
lacked : (free : List ℕ) (s t generation : ℕ) → Lacks t (free_then s generation free) → Lacks t free
lacked free s t generation lacks = by_test (nat_eq generation 65535) refl
  where
    by_test : (test : Bool) → nat_eq generation 65535 ≡ test → Lacks t free
    by_test true last = subst (Lacks t) (cond-true (nat_eq generation 65535) free (s ∷ free) last) lacks
    by_test false more = (subst (Lacks t) (cond-false (nat_eq generation 65535) free (s ∷ free) more) lacks).1

last_of : (free : List ℕ) (s generation : ℕ) → Lacks s (free_then s generation free) → generation ≡ 65535
last_of free s generation lacks = by_test (nat_eq generation 65535) refl
  where
    by_test : (test : Bool) → nat_eq generation 65535 ≡ test → generation ≡ 65535
    by_test true last = grind (arith, nat_tests)
    by_test false more = absurd ((subst (Lacks s) (cond-false (nat_eq generation 65535) free (s ∷ free) more) lacks).0 refl)

next_positive : (free : List ℕ) (unused s : ℕ) (generation : ℕ → ℕ) → 1 ≤ unused → AreFree unused generation free → next_slot free unused ≡ Some s → 1 ≤ s
next_positive [] unused s generation some are next = elim (cases_lt unused 65536) [
  | inl room ↦
      let below : nat_lt unused 65536 ≡ true = grind (arith, nat_tests) in
      let is : unused ≡ s = some_is unused s (sym (cond-true (nat_lt unused 65536) (Some unused) None below) ∙ next) in
      omega arith
  | inr full ↦
      let above : nat_lt unused 65536 ≡ false = grind (arith, nat_tests) in
      absurd (none_some s (sym (cond-false (nat_lt unused 65536) (Some unused) None above) ∙ next))
]
  where
    none_some : (s : ℕ) → None ≡ Some s → ⊥
    none_some s is = cc
next_positive (u ∷ us) unused s generation some are next = subst (λ s. 1 ≤ s) (some_is u s next) are.0

-- another slot that was issued behind that was issued before
was_issued : (free : List ℕ) (unused s t : ℕ) → next_slot free unused ≡ Some s → t < unused_then free unused → Lacks t (drop 1 free) → t ≢ s → (t < unused) × Lacks t free
was_issued [] unused s t next less lacks differ = elim (cases_lt unused 65536) [
  | inl room ↦
      let below : nat_lt unused 65536 ≡ true = grind (arith, nat_tests) in
      let is : unused ≡ s = some_is unused s (sym (cond-true (nat_lt unused 65536) (Some unused) None below) ∙ next) in
      (by_order is (cases_lt t unused), tt)
  | inr full ↦
      let above : nat_lt unused 65536 ≡ false = grind (arith, nat_tests) in
      absurd (none_some s (sym (cond-false (nat_lt unused 65536) (Some unused) None above) ∙ next))
]
  where
    none_some : (s : ℕ) → None ≡ Some s → ⊥
    none_some s is = cc

    by_order : unused ≡ s → (t < unused) ⊎ (unused ≤ t) → t < unused
    by_order is (inl lower) = lower
    by_order is (inr higher) = absurd (differ (omega arith))
was_issued (u ∷ us) unused s t next less lacks differ = (less, (λ same. differ (same ∙ some_is u s next), lacks))

-- ---- the laws

-- a block without a slot more
pub table_plain : (memory after : ℕ → ℕ) (h : Heap) (new : Block) → KeepsControl memory after → IsFresh new.name h.blocks → new.slot ≡ 0 → TableLies memory h → TableLies after (with_block h new)
table_plain memory after h new same fresh plain lies =
    let most = lies.slots.slots.most in
    record {
      slots = slots_of after h (placed new h.blocks) (slots_within memory after h same lies.slots);
      instances =
          record {
            names = names_placed h.blocks new fresh lies.instances.names;
            issued = λ name b is. lies.instances.issued name b (old name b is);
            alone = λ one other b c is_b is_c slots. lies.instances.alone one other b c (old one b is_b) (old other c is_c) slots;
            retired = λ s is. lies.instances.retired s (before s is);
          };
      leads = λ name b is. leads name b (old name b is);
      ends = λ s is. ends s (before s is);
    }
  where
    before : (s : ℕ) → IsRetired (with_block h new) s → IsRetired h s
    before s is = record { some = is.some; issued = is.issued; kept = is.kept; alone = λ name b one. is.alone name b (record { found = still_there h new name b fresh one; slotted = one.slotted }) }

    ends : (s : ℕ) → IsRetired h s → word_at after (row_of s) ≡ 0
    ends s is =
        let most = lies.slots.slots.most in
        let less = is.issued in
        row_same memory after s is.some (omega arith) same ∙ lies.ends s is

    old : (name : ℕ) (b : Block) → IsInstance (with_block h new) name b → IsInstance h name b
    old name b is = by_which (new_or_old h new name b fresh is)
      where
        by_which : ((new ≡ b) × (new.name ≡ name)) ⊎ WasThere h new name b → IsInstance h name b
        by_which (inl there) = absurd (is.slotted (ap (λ (b : Block). b.slot) (sym there.0) ∙ plain))
        by_which (inr was) = was.instance

    leads : (name : ℕ) (b : Block) → IsInstance h name b → word_at after (row_of b.slot) ≡ b.address
    leads name b is =
        let most = lies.slots.slots.most in
        let less = (lies.instances.issued name b is).0 in
        row_same memory after b.slot (positive b.slot is.slotted) (omega arith) same ∙ lies.leads name b is

-- an instance more, whose slot was issued
pub table_issued : (memory after : ℕ → ℕ) (h : Heap) (new : Block) → KeepsRows new.slot memory after → IsFresh new.name h.blocks → next_slot h.free h.unused ≡ Some new.slot → SlotsLie after (issued h new.slot) → word_at after (row_of new.slot) ≡ new.address → TableLies memory h → TableLies after (with_block (issued h new.slot) new)
table_issued memory after h new kept fresh next slots there lies =
    record {
      slots = slots_of after (issued h new.slot) (placed new h.blocks) slots;
      instances =
          record {
            names = names_placed h.blocks new fresh lies.instances.names;
            issued = λ name b is. issued_by name b (new_or_old h new name b fresh (record { found = is.found; slotted = is.slotted }));
            alone = λ one other b c is_b is_c same. alone_by one other b c (new_or_old h new one b fresh (record { found = is_b.found; slotted = is_b.slotted })) (new_or_old h new other c fresh (record { found = is_c.found; slotted = is_c.slotted })) same;
            retired = λ t is. generation t (before t is);
          };
      leads = λ name b is. leads_by name b (new_or_old h new name b fresh (record { found = is.found; slotted = is.slotted }));
      ends = λ t is. ends t (before t is);
    }
  where
    slot_some : new.slot ≢ 0
    slot_some none = let some = next_positive h.free h.unused new.slot h.generation lies.slots.slots.some lies.slots.slots.free next in absurd (omega arith)

    before : (t : ℕ) → IsRetired (with_block (issued h new.slot) new) t → (t ≢ new.slot) × IsRetired h t
    before t is =
        let differ : t ≢ new.slot = λ same. is.alone new.name new (record { found = named_new h.blocks new fresh; slotted = slot_some }) (sym same) in
        let was = was_issued h.free h.unused new.slot t next is.issued is.kept differ in
        (differ, record { some = is.some; issued = was.0; kept = was.1; alone = λ name b one. is.alone name b (record { found = still_there h new name b fresh one; slotted = one.slotted }) })

    generation : (t : ℕ) → (t ≢ new.slot) × IsRetired h t → raised new.slot h.generation t ≡ 65535
    generation t was = by_test (which t new.slot)
      where
        by_test : (t ≡ new.slot) ⊎ (nat_eq t new.slot ≡ false) → raised new.slot h.generation t ≡ 65535
        by_test (inl same) = absurd (was.0 same)
        by_test (inr differ) = cond-false (nat_eq t new.slot) (h.generation t + 1) (h.generation t) differ ∙ lies.instances.retired t was.1

    ends : (t : ℕ) → (t ≢ new.slot) × IsRetired h t → word_at after (row_of t) ≡ 0
    ends t was =
        let most = lies.slots.slots.most in
        let less = was.1.issued in
        other_row_same memory after new.slot t was.0 was.1.some (omega arith) kept ∙ lies.ends t was.1

    issued_by : (name : ℕ) (b : Block) → ((new ≡ b) × (new.name ≡ name)) ⊎ WasThere h new name b → (b.slot < unused_then h.free h.unused) × Lacks b.slot (drop 1 h.free)
    issued_by name b (inl it) = subst (λ (b : Block). (b.slot < unused_then h.free h.unused) × Lacks b.slot (drop 1 h.free)) it.0 (next_issued h.free h.unused new.slot h.generation lies.slots.slots.free next)
    issued_by name b (inr was) = let before = lies.instances.issued name b was.instance in still_issued h.free h.unused b.slot before.0 before.1

    -- an old one has another slot
    other_slot : (b : Block) (name : ℕ) → WasThere h new name b → b.slot ≢ new.slot
    other_slot b name was = let before = lies.instances.issued name b was.instance in next_differs h.free h.unused new.slot b.slot before.0 before.1 next

    alone_by : (one other : ℕ) (b c : Block) → ((new ≡ b) × (new.name ≡ one)) ⊎ WasThere h new one b → ((new ≡ c) × (new.name ≡ other)) ⊎ WasThere h new other c → b.slot ≡ c.slot → one ≡ other
    alone_by one other b c (inl it) (inl at) same = sym it.1 ∙ at.1
    alone_by one other b c (inl it) (inr was) same = absurd (other_slot c other was (sym same ∙ ap (λ (b : Block). b.slot) (sym it.0)))
    alone_by one other b c (inr was) (inl it) same = absurd (other_slot b one was (same ∙ ap (λ (b : Block). b.slot) (sym it.0)))
    alone_by one other b c (inr was) (inr were) same = lies.instances.alone one other b c was.instance were.instance same

    leads_by : (name : ℕ) (b : Block) → ((new ≡ b) × (new.name ≡ name)) ⊎ WasThere h new name b → word_at after (row_of b.slot) ≡ b.address
    leads_by name b (inl it) = subst (λ (b : Block). word_at after (row_of b.slot) ≡ b.address) it.0 there
    leads_by name b (inr was) =
        let most = lies.slots.slots.most in
        let before = lies.instances.issued name b was.instance in
        let less = before.0 in
        other_row_same memory after new.slot b.slot (other_slot b name was) (positive b.slot was.instance.slotted) (omega arith) kept ∙ lies.leads name b was.instance

-- a block without a slot is given up
pub table_left : (memory after : ℕ → ℕ) (h : Heap) (gone : ℕ) → KeepsControl memory after → ((b : Block) → block_named gone h.blocks ≡ Some b → b.slot ≡ 0) → TableLies memory h → TableLies after (without_block h gone)
table_left memory after h gone same plain lies =
    record {
      slots = slots_of after h (without gone h.blocks) (slots_within memory after h same lies.slots);
      instances =
          record {
            names = names_left h.blocks gone lies.instances.names;
            issued = λ name b is. lies.instances.issued name b (old name b is);
            alone = λ one other b c is_b is_c slots. lies.instances.alone one other b c (old one b is_b) (old other c is_c) slots;
            retired = λ s is. lies.instances.retired s (before s is);
          };
      leads = λ name b is. leads name b (old name b is);
      ends = λ s is. ends s (before s is);
    }
  where
    left : (name : ℕ) (b : Block) → IsInstance h name b → (gone ≡ name) ⊎ (nat_eq gone name ≡ false) → IsInstance (without_block h gone) name b
    left name b is (inl same) = absurd (is.slotted (plain b (ap (λ n. block_named n h.blocks) same ∙ is.found)))
    left name b is (inr differ) = record { found = named_left h.blocks gone name differ ∙ is.found; slotted = is.slotted }

    before : (s : ℕ) → IsRetired (without_block h gone) s → IsRetired h s
    before s is = record { some = is.some; issued = is.issued; kept = is.kept; alone = λ name b one. is.alone name b (left name b one (which gone name)) }

    ends : (s : ℕ) → IsRetired h s → word_at after (row_of s) ≡ 0
    ends s is =
        let most = lies.slots.slots.most in
        let less = is.issued in
        row_same memory after s is.some (omega arith) same ∙ lies.ends s is

    old : (name : ℕ) (b : Block) → IsInstance (without_block h gone) name b → IsInstance h name b
    old name b is = (was_left h gone name b lies.instances.names is).1

    leads : (name : ℕ) (b : Block) → IsInstance h name b → word_at after (row_of b.slot) ≡ b.address
    leads name b is =
        let most = lies.slots.slots.most in
        let less = (lies.instances.issued name b is).0 in
        row_same memory after b.slot (positive b.slot is.slotted) (omega arith) same ∙ lies.leads name b is

-- an instance is given up, and its slot is freed
pub table_freed : (memory after : ℕ → ℕ) (h : Heap) (gone : Block) → KeepsRows gone.slot memory after → IsInstance h gone.name gone → SlotsLie after (freed (without_block h gone.name) gone.slot) → (h.generation gone.slot ≡ 65535 → word_at after (row_of gone.slot) ≡ 0) → TableLies memory h → TableLies after (freed (without_block h gone.name) gone.slot)
table_freed memory after h gone kept there slots retires lies =
    record {
      slots = slots;
      instances =
          record {
            names = names_left h.blocks gone.name lies.instances.names;
            issued = λ name b is. issued_by name b (was_left h gone.name name b lies.instances.names (record { found = is.found; slotted = is.slotted }));
            alone = λ one other b c is_b is_c same. lies.instances.alone one other b c (was_left h gone.name one b lies.instances.names (record { found = is_b.found; slotted = is_b.slotted })).1 (was_left h gone.name other c lies.instances.names (record { found = is_c.found; slotted = is_c.slotted })).1 same;
            retired = λ t is. generation t is (which t gone.slot);
          };
      leads = λ name b is. leads_by name b (was_left h gone.name name b lies.instances.names (record { found = is.found; slotted = is.slotted }));
      ends = λ t is. ends t is (which t gone.slot);
    }
  where
    -- the slot itself is retired with its last generation
    last : (t : ℕ) → IsRetired (freed (without_block h gone.name) gone.slot) t → t ≡ gone.slot → h.generation gone.slot ≡ 65535
    last t is same = last_of h.free gone.slot (h.generation gone.slot) (subst (λ t. Lacks t (free_then gone.slot (h.generation gone.slot) h.free)) same is.kept)

    apart : (t name : ℕ) (b : Block) → IsRetired (freed (without_block h gone.name) gone.slot) t → nat_eq t gone.slot ≡ false → IsInstance h name b → (gone.name ≡ name) ⊎ (nat_eq gone.name name ≡ false) → b.slot ≢ t
    apart t name b is differ one (inl same) at =
        let it : gone ≡ b = some_block gone b (sym there.found ∙ ap (λ n. block_named n h.blocks) same ∙ one.found) in
        let slots_one : gone.slot ≡ b.slot = ap (λ (b : Block). b.slot) it in
        let slots_same : t ≡ gone.slot = omega arith in
        let clash : nat_eq t gone.slot ≡ true = grind (arith, nat_tests) in
        cc
    apart t name b is differ one (inr other) at = is.alone name b (record { found = named_left h.blocks gone.name name other ∙ one.found; slotted = one.slotted }) at

    -- any other one was retired before
    before : (t : ℕ) → IsRetired (freed (without_block h gone.name) gone.slot) t → nat_eq t gone.slot ≡ false → IsRetired h t
    before t is differ = record { some = is.some; issued = is.issued; kept = lacked h.free gone.slot t (h.generation gone.slot) is.kept; alone = λ name b one. apart t name b is differ one (which gone.name name) }

    generation : (t : ℕ) → IsRetired (freed (without_block h gone.name) gone.slot) t → (t ≡ gone.slot) ⊎ (nat_eq t gone.slot ≡ false) → h.generation t ≡ 65535
    generation t is (inl same) = ap h.generation same ∙ last t is same
    generation t is (inr differ) = lies.instances.retired t (before t is differ)

    ends : (t : ℕ) → IsRetired (freed (without_block h gone.name) gone.slot) t → (t ≡ gone.slot) ⊎ (nat_eq t gone.slot ≡ false) → word_at after (row_of t) ≡ 0
    ends t is (inl same) = ap (λ t. word_at after (row_of t)) same ∙ retires (last t is same)
    ends t is (inr differ) =
        let most = lies.slots.slots.most in
        let less = is.issued in
        let other : t ≢ gone.slot = λ same. let clash : nat_eq t gone.slot ≡ true = grind (arith, nat_tests) in cc in
        other_row_same memory after gone.slot t other is.some (omega arith) kept ∙ lies.ends t (before t is differ)

    other_slot : (name : ℕ) (b : Block) → nat_eq gone.name name ≡ false → IsInstance h name b → b.slot ≢ gone.slot
    other_slot name b differ is same =
        let one : name ≡ gone.name = lies.instances.alone name gone.name b gone is there same in
        let clash : nat_eq gone.name name ≡ true = grind (arith, nat_tests) in
        cc

    issued_by : (name : ℕ) (b : Block) → (nat_eq gone.name name ≡ false) × IsInstance h name b → (b.slot < h.unused) × Lacks b.slot (free_then gone.slot (h.generation gone.slot) h.free)
    issued_by name b was =
        let before = lies.instances.issued name b was.1 in
        (before.0, lacks_then h.free gone.slot b.slot (h.generation gone.slot) (other_slot name b was.0 was.1) before.1)

    leads_by : (name : ℕ) (b : Block) → (nat_eq gone.name name ≡ false) × IsInstance h name b → word_at after (row_of b.slot) ≡ b.address
    leads_by name b was =
        let most = lies.slots.slots.most in
        let less = (lies.instances.issued name b was.1).0 in
        other_row_same memory after gone.slot b.slot (other_slot name b was.0 was.1) (positive b.slot was.1.slotted) (omega arith) kept ∙ lies.leads name b was.1
