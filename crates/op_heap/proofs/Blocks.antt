-- The block of a name, and where blocks lie beside holes and beside others.
use Rattle.std.proofs.Common.{◌≡◌, ℕ, suc, ◌+◌, ◌%◌, ◌<◌, ◌≤◌, ◌⊎◌, inl, inr, Bool, true, false, nat_eq, nat_le, nat_lt, Some, None, List, [], ◌∷◌, if◌then◌else◌, refl, ap, sym, subst, ◌∙◌, arith}
use Rattle.std.proofs.lemmas.Bool.{cases_lt, cond-false, cond-true}
use Rattle.std.proofs.lemmas.Bool.Decides.{nat_tests}
use Rattle.op_heap.proofs.Gaps.{holes_spread, inside_behind, new, none_block, some_block}
use Rattle.op_heap.proofs.Holes.{above_outside, apart_behind, apart_both, apart_gap, below_outside, hole, some_is}
use Rattle.op_heap.specs.Frames.{IsNoLink}
use Rattle.op_heap.specs.Heap.{ArePlaced, Block, Heap, Hole, IsElsewhere, IsHeap, IsInside, block_named, first_fit, gap, heap_address, holes, holes_from, placed, without}
use Rattle.op_heap.specs.Instances.{IsFresh}
use Rattle.op_heap.specs.Merging.{AreSpread, IsApart, IsOutside}

-- ---- a block of a name

pub of_block : (bs : List Block) (name : ℕ) (b : Block) (x : ℕ) → block_named name bs ≡ Some b → b.address ≤ x → x < b.address + b.size → IsInside bs x
of_block [] name b x found from before = absurd (none_block b found)
of_block (c ∷ cs) name b x found from before = by_name (nat_eq c.name name) refl (λ found. of_block cs name b x found from before)
  where
    by_name : (test : Bool) → nat_eq c.name name ≡ test → (block_named name cs ≡ Some b → IsInside cs x) → IsInside (c ∷ cs) x
    by_name true is later =
        let same : c ≡ b = some_block c b (sym (cond-true (nat_eq c.name name) (Some c) (block_named name cs) is) ∙ found) in
        inl (subst (λ (b : Block). (b.address ≤ x) × (x < b.address + b.size)) (sym same) (from, before))
    by_name false is later = inr (later (sym (cond-false (nat_eq c.name name) (Some c) (block_named name cs) is) ∙ found))

pub named_other : (bs : List Block) (new : Block) (name : ℕ) → nat_eq new.name name ≡ false → block_named name (placed new bs) ≡ block_named name bs
named_other [] new name differ = cond-false (nat_eq new.name name) (Some new) None differ
named_other (c ∷ cs) new name differ = by_order (nat_lt new.address c.address) refl (named_other cs new name differ)
  where
    by_order : (test : Bool) → nat_lt new.address c.address ≡ test → block_named name (placed new cs) ≡ block_named name cs → block_named name (placed new (c ∷ cs)) ≡ block_named name (c ∷ cs)
    by_order true before rest =
        ap (block_named name) (cond-true (nat_lt new.address c.address) (new ∷ c ∷ cs) (c ∷ placed new cs) before)
        ∙ cond-false (nat_eq new.name name) (Some new) (block_named name (c ∷ cs)) differ
    by_order false after rest =
        ap (block_named name) (cond-false (nat_lt new.address c.address) (new ∷ c ∷ cs) (c ∷ placed new cs) after)
        ∙ ap (λ found. if nat_eq c.name name then Some c else found) rest

pub named_new : (bs : List Block) (new : Block) → IsFresh new.name bs → block_named new.name (placed new bs) ≡ Some new
named_new [] new fresh = let same : nat_eq new.name new.name ≡ true = grind (arith, nat_tests) in cond-true (nat_eq new.name new.name) (Some new) None same
named_new (c ∷ cs) new fresh = by_order (nat_lt new.address c.address) refl (by_name (nat_eq c.name new.name) refl) (λ fresh. named_new cs new fresh)
  where
    some_none : Some c ≡ None → ⊥
    some_none is = cc

    by_name : (test : Bool) → nat_eq c.name new.name ≡ test → nat_eq c.name new.name ≡ false
    by_name true is = absurd (some_none (sym (cond-true (nat_eq c.name new.name) (Some c) (block_named new.name cs) is) ∙ fresh))
    by_name false is = is

    by_order : (test : Bool) → nat_lt new.address c.address ≡ test → nat_eq c.name new.name ≡ false → (IsFresh new.name cs → block_named new.name (placed new cs) ≡ Some new) → block_named new.name (placed new (c ∷ cs)) ≡ Some new
    by_order true before differ rest =
        let same : nat_eq new.name new.name ≡ true = grind (arith, nat_tests) in
        ap (block_named new.name) (cond-true (nat_lt new.address c.address) (new ∷ c ∷ cs) (c ∷ placed new cs) before)
        ∙ cond-true (nat_eq new.name new.name) (Some new) (block_named new.name (c ∷ cs)) same
    by_order false after differ rest =
        ap (block_named new.name) (cond-false (nat_lt new.address c.address) (new ∷ c ∷ cs) (c ∷ placed new cs) after)
        ∙ cond-false (nat_eq c.name new.name) (Some c) (block_named new.name (placed new cs)) differ
        ∙ rest (sym (cond-false (nat_eq c.name new.name) (Some c) (block_named new.name cs) differ) ∙ fresh)

pub named_left : (bs : List Block) (gone name : ℕ) → nat_eq gone name ≡ false → block_named name (without gone bs) ≡ block_named name bs
named_left [] gone name differ = refl
named_left (c ∷ cs) gone name differ = by_name (nat_eq c.name gone) refl (named_left cs gone name differ)
  where
    by_name : (test : Bool) → nat_eq c.name gone ≡ test → block_named name (without gone cs) ≡ block_named name cs → block_named name (without gone (c ∷ cs)) ≡ block_named name (c ∷ cs)
    by_name true is rest =
        let same : c.name ≡ gone = grind (arith, nat_tests) in
        ap (block_named name) (cond-true (nat_eq c.name gone) cs (c ∷ without gone cs) is)
        ∙ sym (cond-false (nat_eq c.name name) (Some c) (block_named name cs) (ap (λ n. nat_eq n name) same ∙ differ))
    by_name false is rest =
        ap (block_named name) (cond-false (nat_eq c.name gone) cs (c ∷ without gone cs) is)
        ∙ ap (λ found. if nat_eq c.name name then Some c else found) rest

-- other blocks have none of its bytes
pub others_beside : (bs : List Block) (from past name : ℕ) (b : Block) (x : ℕ) → ArePlaced from past bs → block_named name bs ≡ Some b → IsInside (without name bs) x → IsInside bs x × (b.address ≤ x → x < b.address + b.size → ⊥)
others_beside [] from past name b x are found within = absurd within
others_beside (c ∷ cs) from past name b x are found within = by_name (nat_eq c.name name) refl (λ found within. others_beside cs (c.address + c.size) past name b x are.1 found within)
  where
    named_behind : (cs : List Block) (from : ℕ) → ArePlaced from past cs → block_named name cs ≡ Some b → from ≤ b.address
    named_behind [] from are found = absurd (none_block b found)
    named_behind (d ∷ ds) from are found = by_test (nat_eq d.name name) refl (λ found. named_behind ds (d.address + d.size) are.1 found)
      where
        by_test : (test : Bool) → nat_eq d.name name ≡ test → (block_named name ds ≡ Some b → d.address + d.size ≤ b.address) → from ≤ b.address
        by_test true is later =
            let behind = are.0.behind in
            let same : d ≡ b = some_block d b (sym (cond-true (nat_eq d.name name) (Some d) (block_named name ds) is) ∙ found) in
            subst (λ (b : Block). from ≤ b.address) same behind
        by_test false is later =
            let behind = are.0.behind in
            let beyond = later (sym (cond-false (nat_eq d.name name) (Some d) (block_named name ds) is) ∙ found) in
            omega arith

    first_or : (b : Block) → c.address + c.size ≤ b.address → ((c.address ≤ x) × (x < c.address + c.size)) ⊎ IsInside (without name cs) x → (IsInside (without name cs) x → IsInside cs x × (b.address ≤ x → x < b.address + b.size → ⊥)) → IsInside (c ∷ cs) x × (b.address ≤ x → x < b.address + b.size → ⊥)
    first_or b beyond (inl here) later = let before = here.1 in (inl here, λ at under. omega arith)
    first_or b beyond (inr there) later = let it = later there in (inr it.0, it.1)

    by_name : (test : Bool) → nat_eq c.name name ≡ test → (block_named name cs ≡ Some b → IsInside (without name cs) x → IsInside cs x × (b.address ≤ x → x < b.address + b.size → ⊥)) → IsInside (c ∷ cs) x × (b.address ≤ x → x < b.address + b.size → ⊥)
    by_name true is later =
        let same : c ≡ b = some_block c b (sym (cond-true (nat_eq c.name name) (Some c) (block_named name cs) is) ∙ found) in
        let rest : IsInside cs x = subst (λ bs. IsInside bs x) (cond-true (nat_eq c.name name) cs (c ∷ without name cs) is) within in
        let beyond = inside_behind cs (c.address + c.size) past x are.1 rest in
        subst (λ (b : Block). IsInside (c ∷ cs) x × (b.address ≤ x → x < b.address + b.size → ⊥)) same (inr rest, λ at under. omega arith)
    by_name false is later =
        let next : block_named name cs ≡ Some b = sym (cond-false (nat_eq c.name name) (Some c) (block_named name cs) is) ∙ found in
        first_or b (named_behind cs (c.address + c.size) are.1 next) (subst (λ bs. IsInside bs x) (cond-false (nat_eq c.name name) cs (c ∷ without name cs) is) within) (later next)

-- a block lies behind an address, and apart from holes
abbrev LiesApart : (from : ℕ) → List Hole → Block → Type 0
LiesApart from hs b = (from ≤ b.address) × IsApart (hole b.address b.size) hs

pub named_apart : (bs : List Block) (from past name : ℕ) (b : Block) → from % 16 ≡ 0 → past % 16 ≡ 0 → ArePlaced from past bs → block_named name bs ≡ Some b → (from ≤ b.address) × IsApart (hole b.address b.size) (holes_from from past bs)
named_apart [] from past name b whole end_whole are found = absurd (none_block b found)
named_apart (c ∷ cs) from past name b whole end_whole are found =
    let aligned = are.0.aligned in
    let size_whole = are.0.whole in
    by_name (nat_eq c.name name) refl (omega arith) (λ found. named_apart cs (c.address + c.size) past name b (omega arith) end_whole are.1 found)
  where
    by_name : (test : Bool) → nat_eq c.name name ≡ test → (c.address + c.size) % 16 ≡ 0 → (block_named name cs ≡ Some b → LiesApart (c.address + c.size) (holes_from (c.address + c.size) past cs) b) → LiesApart from (holes_from from past (c ∷ cs)) b
    by_name true is whole_end later =
        let behind = are.0.behind in
        let same : c ≡ b = some_block c b (sym (cond-true (nat_eq c.name name) (Some c) (block_named name cs) is) ∙ found) in
        subst (LiesApart from (holes_from from past (c ∷ cs))) same (
          behind,
          apart_both (hole c.address c.size) (gap from c.address) (holes_from (c.address + c.size) past cs)
              (apart_gap (hole c.address c.size) from c.address (inl (omega arith)))
              (apart_behind (hole c.address c.size) (holes_from (c.address + c.size) past cs) (c.address + c.size) past (holes_spread cs (c.address + c.size) past whole_end end_whole are.1) (omega arith)),
        )
    by_name false is whole_end later =
        let behind = are.0.behind in
        let it = later (sym (cond-false (nat_eq c.name name) (Some c) (block_named name cs) is) ∙ found) in
        let beyond = it.0 in (
          omega arith,
          apart_both (hole b.address b.size) (gap from c.address) (holes_from (c.address + c.size) past cs)
              (apart_gap (hole b.address b.size) from c.address (inl (omega arith))) it.1,
        )

-- ---- where a block is placed

-- it lies within a hole
pub record FitsIn (hs : List Hole) (from past k a : ℕ) : Type 0 where
  pub behind : from ≤ a
  pub within : a + k ≤ past
  pub aligned : a % 16 ≡ 0
  pub inside : (x : ℕ) → IsOutside hs x → a ≤ x → x < a + k → ⊥

pub fits_in : (hs : List Hole) (from past k a : ℕ) → AreSpread from past hs → first_fit k hs ≡ Some a → FitsIn hs from past k a
fits_in [] from past k a spread fit = absurd (none_some a fit)
  where
    none_some : (a : ℕ) → None ≡ Some a → ⊥
    none_some a is = cc
fits_in (h ∷ hs) from past k a spread fit =
    let behind = spread.0.behind in
    let within = spread.0.within in
    elim (cases_lt h.size k) [
      | inl less ↦
          let short : nat_le k h.size ≡ false = grind (arith, nat_tests) in
          let more = fits_in hs (suc (h.address + h.size)) past k a spread.1 (sym (cond-false (nat_le k h.size) (Some h.address) (first_fit k hs) short) ∙ fit) in
          let beyond = more.behind in
          record { behind = omega arith; within = more.within; aligned = more.aligned; inside = λ x outside. more.inside x outside.1 }
      | inr fits ↦
          let long : nat_le k h.size ≡ true = grind (arith, nat_tests) in
          let there : h.address ≡ a = some_is h.address a (sym (cond-true (nat_le k h.size) (Some h.address) (first_fit k hs) long) ∙ fit) in
          subst (FitsIn (h ∷ hs) from past k) there
          (record { behind = behind; within = omega arith; aligned = spread.0.aligned; inside = λ x outside at before. outside.0 at (omega arith) })
    ]

pub elsewhere_outside : (h : Heap) (x : ℕ) → IsHeap h → IsElsewhere h x → IsOutside (holes h) x
elsewhere_outside h x heap (inl below) =
    let whole = heap.whole in
    below_outside (holes h) heap_address (heap_address + h.bytes) x (holes_spread h.blocks heap_address (heap_address + h.bytes) (omega arith) (omega arith) heap.placed) below
elsewhere_outside h x heap (inr above) =
    let whole = heap.whole in
    above_outside (holes h) heap_address (heap_address + h.bytes) x (holes_spread h.blocks heap_address (heap_address + h.bytes) (omega arith) (omega arith) heap.placed) above

-- what a byte of a block is: outside of all holes, and not of the word that links the first of them
pub block_byte : (h : Heap) (x : ℕ) → IsHeap h → IsInside h.blocks x → IsNoLink x
block_byte h x heap within at before =
    let beyond = inside_behind h.blocks heap_address (heap_address + h.bytes) x heap.placed within in
    omega arith
