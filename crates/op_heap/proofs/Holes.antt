-- Gaps and holes, and where they lie.
use Rattle.std.proofs.Common.{◌≡◌, ℕ, suc, ◌+◌, ◌-◌, ◌^◌, ◌<◌, ◌≤◌, ◌⊎◌, inl, inr, nat_lt, Some, List, [], ◌∷◌, ◌++◌, sym, subst, ◌∙◌, arith}
use Rattle.std.proofs.lemmas.Bool.{cases_lt, cond-false, cond-true}
use Rattle.std.proofs.lemmas.Bool.Decides.{nat_tests}
use Rattle.op_heap.specs.Heap.{Hole, gap}
use Rattle.op_heap.specs.Memory.{AreLinked}
use Rattle.op_heap.specs.Merging.{AreSpread, IsApart, IsOutside}
use Rattle.op_rv.proofs.Memory.{word_at-same}
use Rattle.op_rv.specs.State.{word_at}

abbrev pub hole : (address size : ℕ) → Hole
hole address size = record { address = address; size = size }

pub some_is : (x y : ℕ) → Some x ≡ Some y → x ≡ y
some_is x y is = cc

pub gap_some : (from to : ℕ) → from < to → gap from to ≡ record { address = from; size = to - from } ∷ []
gap_some from to less = cond-true (nat_lt from to) (record { address = from; size = to - from } ∷ []) [] (grind (arith, nat_tests))

pub gap_none : (from to : ℕ) → to ≤ from → gap from to ≡ []
gap_none from to less = cond-false (nat_lt from to) (record { address = from; size = to - from } ∷ []) [] (grind (arith, nat_tests))

pub spread_earlier : (hs : List Hole) (from earlier past : ℕ) → earlier ≤ from → AreSpread from past hs → AreSpread earlier past hs
spread_earlier [] from earlier past less spread = tt
spread_earlier (h ∷ hs) from earlier past less spread =
    let first = spread.0 in
    let behind = first.behind in
    (record { behind = omega arith; aligned = first.aligned; some = first.some; whole = first.whole; within = first.within }, spread.1)

-- what is linked is a word
pub linked_word : (hs : List Hole) (memory : ℕ → ℕ) (next from past : ℕ) → past ≤ 2 ^ 32 → AreSpread from past hs → AreLinked memory next hs → next < 2 ^ 32
linked_word [] memory next from past words spread linked = omega arith
linked_word (h ∷ hs) memory next from past words spread linked =
    let is = linked.0 in
    let some = spread.0.some in
    let within = spread.0.within in
    omega arith

-- holes from an address on are linked by what memory has from there on
pub linked_same : (hs : List Hole) (memory other : ℕ → ℕ) (next from past : ℕ) → ((x : ℕ) → from ≤ x → other x ≡ memory x) → AreSpread from past hs → AreLinked memory next hs → AreLinked other next hs
linked_same [] memory other next from past same spread linked = linked
linked_same (h ∷ hs) memory other next from past same spread linked =
    let behind = spread.0.behind in
    let some = spread.0.some in
    let link : word_at other (h.address + 4) ≡ word_at memory (h.address + 4) = word_at-same memory other (h.address + 4) (λ x at before. same x (omega arith)) in (
      linked.0,
      word_at-same memory other h.address (λ x at before. same x (omega arith)) ∙ linked.1,
      subst (λ next. AreLinked other next hs) (sym link)
          (linked_same hs memory other (word_at memory (h.address + 4)) (suc (h.address + h.size)) past (λ x at. same x (omega arith)) spread.1 linked.2),
    )

-- what lies below all holes is outside
pub below_outside : (hs : List Hole) (from past x : ℕ) → AreSpread from past hs → x < from → IsOutside hs x
below_outside [] from past x spread lower = tt
below_outside (h ∷ hs) from past x spread lower =
    let behind = spread.0.behind in
    (λ at before. omega arith, below_outside hs (suc (h.address + h.size)) past x spread.1 (omega arith))

pub above_outside : (hs : List Hole) (from past x : ℕ) → AreSpread from past hs → past ≤ x → IsOutside hs x
above_outside [] from past x spread above = tt
above_outside (h ∷ hs) from past x spread above =
    let within = spread.0.within in
    (λ at before. omega arith, above_outside hs (suc (h.address + h.size)) past x spread.1 above)

pub apart_both : (b : Hole) (hs ks : List Hole) → IsApart b hs → IsApart b ks → IsApart b (hs ++ ks)
apart_both b [] ks first second = second
apart_both b (h ∷ hs) ks first second = (first.0, apart_both b hs ks first.1 second)

pub apart_gap : (b : Hole) (from to : ℕ) → (to ≤ b.address) ⊎ (b.address + b.size ≤ from) → IsApart b (gap from to)
apart_gap b from to apart =
    elim (cases_lt from to) [
      | inl there ↦ subst (IsApart b) (sym (gap_some from to there)) (side apart there, tt)
      | inr none ↦ subst (IsApart b) (sym (gap_none from to none)) tt
    ]
  where
    side : (to ≤ b.address) ⊎ (b.address + b.size ≤ from) → from < to → (from + (to - from) ≤ b.address) ⊎ (b.address + b.size ≤ from)
    side (inl before) there = inl (omega arith)
    side (inr after) there = inr after

pub apart_behind : (b : Hole) (hs : List Hole) (from past : ℕ) → AreSpread from past hs → b.address + b.size ≤ from → IsApart b hs
apart_behind b [] from past spread before = tt
apart_behind b (h ∷ hs) from past spread before =
    let behind = spread.0.behind in
    (inr (omega arith), apart_behind b hs (suc (h.address + h.size)) past spread.1 (omega arith))
