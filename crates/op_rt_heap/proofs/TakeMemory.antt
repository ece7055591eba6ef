-- Memory in which a block was taken.
use Rattle.std.proofs.Common.{◌≡◌, ℕ, suc, ◌+◌, ◌-◌, ◌%◌, ◌^◌, ◌<◌, ◌≤◌, true, false, nat_le, List, [], ◌∷◌, ◌++◌, ap, sym, subst, ◌∙◌, arith}
use Rattle.std.proofs.lemmas.Bool.{cond-false, cond-true}
use Rattle.std.proofs.lemmas.Bool.Decides.{nat_tests}
use Rattle.op_heap.proofs.Holes.{below_outside, gap_none, gap_some, linked_same, linked_word}
use Rattle.op_heap.proofs.Words.{byte_above, byte_apart, byte_small, with_word, word_above, word_below, word_there}
use Rattle.op_heap.specs.Heap.{Hole}
use Rattle.op_heap.specs.Memory.{AreLinked}
use Rattle.op_heap.specs.Merging.{AreSpread, IsOutside, rest_of, taken}
use Rattle.op_rv.proofs.Memory.{word_at-same}
use Rattle.op_rv.specs.State.{word_at}

-- memory in which a block was taken from the front of the holes that are linked at an address: other holes are linked there, the block has its
-- first word, and nothing outside has changed
pub record Took (memory after : ℕ → ℕ) (link : ℕ) (hs : List Hole) (k head a : ℕ) : Type 0 where
  pub linked : AreLinked after (word_at after link) (taken k hs)
  pub headed : word_at after a ≡ head
  pub kept : (x : ℕ) → (link ≤ x → x < link + 4 → ⊥) → IsOutside hs x → after x ≡ memory x
  pub bytes : (x : ℕ) → memory x < 2 ^ 8 → after x < 2 ^ 8

abbrev pub exact_memory : (ℕ → ℕ) → (link : ℕ) → Hole → (next head : ℕ) → ℕ → ℕ
exact_memory memory link h next head = with_word (with_word memory link next) h.address head

abbrev pub split_memory : (ℕ → ℕ) → (link : ℕ) → Hole → (k next head : ℕ) → ℕ → ℕ
split_memory memory link h k next head =
    with_word (with_word (with_word (with_word memory (h.address + k) (h.size - k)) (h.address + k + 4) next) link (h.address + k)) h.address head

pub exact_took : (memory : ℕ → ℕ) (link from past : ℕ) (h : Hole) (hs : List Hole) (k head : ℕ) → link + 4 ≤ from → past ≤ 2 ^ 32 → head < 2 ^ 32 → AreSpread from past (h ∷ hs) → AreLinked memory (word_at memory link) (h ∷ hs) → h.size ≡ k → Took memory (exact_memory memory link h (word_at memory (h.address + 4)) head) link (h ∷ hs) k head h.address
exact_took memory link from past h hs k head apart words fits spread linked same =
    let behind = spread.0.behind in
    let some = spread.0.some in
    let next = word_at memory (h.address + 4) in
    let small = linked_word hs memory next (suc (h.address + h.size)) past words spread.1 linked.2 in
    let first = with_word memory link next in
    let after = exact_memory memory link h next head in
    let there : word_at after link ≡ next = word_below first h.address head link (omega arith) ∙ word_there memory link next small in
    let none : rest_of k h ≡ [] = gap_none (h.address + k) (h.address + h.size) (omega arith) in
    let fit : nat_le k h.size ≡ true = grind (arith, nat_tests) in
    let left : taken k (h ∷ hs) ≡ hs = cond-true (nat_le k h.size) (rest_of k h ++ hs) (h ∷ taken k hs) fit ∙ ap (λ front. front ++ hs) none in
    record {
      linked =
          subst (AreLinked after (word_at after link)) (sym left)
          (subst (λ next. AreLinked after next hs) (sym there)
          (linked_same hs memory after next (suc (h.address + h.size)) past
          (λ x at. byte_above first h.address head x (omega arith) ∙ byte_above memory link next x (omega arith)) spread.1 linked.2));
      headed = word_there first h.address head fits;
      kept = λ x beside outside. byte_apart first h.address head x (λ at before. outside.0 at (omega arith)) ∙ byte_apart memory link next x beside;
      bytes = λ x old. byte_small first h.address head x (byte_small memory link next x old);
    }

pub split_took : (memory : ℕ → ℕ) (link from past : ℕ) (h : Hole) (hs : List Hole) (k head : ℕ) → link + 4 ≤ from → past ≤ 2 ^ 32 → head < 2 ^ 32 → k % 16 ≡ 0 → 16 ≤ k → AreSpread from past (h ∷ hs) → AreLinked memory (word_at memory link) (h ∷ hs) → k < h.size → Took memory (split_memory memory link h k (word_at memory (h.address + 4)) head) link (h ∷ hs) k head h.address
split_took memory link from past h hs k head apart words fits whole large spread linked less =
    let behind = spread.0.behind in
    let size_whole = spread.0.whole in
    let within = spread.0.within in
    let next = word_at memory (h.address + 4) in
    let small = linked_word hs memory next (suc (h.address + h.size)) past words spread.1 linked.2 in
    let rest = h.address + k in
    let left = h.size - k in
    let wide : k + 16 ≤ h.size = omega arith in
    let m1 = with_word memory rest left in
    let m2 = with_word m1 (rest + 4) next in
    let m3 = with_word m2 link rest in
    let after = with_word m3 h.address head in
    let at_link : word_at after link ≡ rest = word_below m3 h.address head link (omega arith) ∙ word_there m2 link rest (omega arith) in
    let at_rest : word_at after rest ≡ left = word_above m3 h.address head rest (omega arith) ∙ word_above m2 link rest rest (omega arith) ∙ word_below m1 (rest + 4) next rest (omega arith) ∙ word_there memory rest left (omega arith) in
    let at_next : word_at after (rest + 4) ≡ next = word_above m3 h.address head (rest + 4) (omega arith) ∙ word_above m2 link rest (rest + 4) (omega arith) ∙ word_there m1 (rest + 4) next small in
    let size_left : h.address + h.size - rest ≡ left = omega arith in
    let some : rest_of k h ≡ record { address = rest; size = left } ∷ [] = gap_some rest (h.address + h.size) (omega arith) ∙ ap (λ size. record { address = rest; size = size } ∷ []) size_left in
    let fit : nat_le k h.size ≡ true = grind (arith, nat_tests) in
    let are : taken k (h ∷ hs) ≡ record { address = rest; size = left } ∷ hs = cond-true (nat_le k h.size) (rest_of k h ++ hs) (h ∷ taken k hs) fit ∙ ap (λ front. front ++ hs) some in
    record {
      linked =
          subst (AreLinked after (word_at after link)) (sym are) (
            at_link,
            at_rest,
            subst (λ next. AreLinked after next hs) (sym at_next)
                (linked_same hs memory after next (suc (h.address + h.size)) past
                (λ x at. byte_above m3 h.address head x (omega arith) ∙ byte_above m2 link rest x (omega arith) ∙ byte_above m1 (rest + 4) next x (omega arith) ∙ byte_above memory rest left x (omega arith)) spread.1 linked.2),
          );
      headed = word_there m3 h.address head fits;
      kept = λ x beside outside.
          byte_apart m3 h.address head x (λ at before. outside.0 at (omega arith))
          ∙ byte_apart m2 link rest x beside
          ∙ byte_apart m1 (rest + 4) next x (λ at before. outside.0 (omega arith) (omega arith))
          ∙ byte_apart memory rest left x (λ at before. outside.0 (omega arith) (omega arith));
      bytes = λ x old. byte_small m3 h.address head x (byte_small m2 link rest x (byte_small m1 (rest + 4) next x (byte_small memory rest left x old)));
    }

-- a hole is passed
pub passed_took : (memory after : ℕ → ℕ) (link from past : ℕ) (h : Hole) (hs : List Hole) (k head a : ℕ) → link + 4 ≤ from → AreSpread from past (h ∷ hs) → AreLinked memory (word_at memory link) (h ∷ hs) → h.size < k → Took memory after (h.address + 4) hs k head a → Took memory after link (h ∷ hs) k head a
passed_took memory after link from past h hs k head a apart spread linked less took =
    let behind = spread.0.behind in
    let some = spread.0.some in
    let kept = λ (x : ℕ) (lower : x < h.address + 4). took.kept x (λ at before. omega arith) (below_outside hs (suc (h.address + h.size)) past x spread.1 (omega arith)) in
    let link_same : word_at after link ≡ word_at memory link = word_same after link (λ x at before. kept x (omega arith)) in
    let size_same : word_at after h.address ≡ word_at memory h.address = word_same after h.address (λ x at before. kept x (omega arith)) in
    let fit : nat_le k h.size ≡ false = grind (arith, nat_tests) in
    let are : taken k (h ∷ hs) ≡ h ∷ taken k hs = cond-false (nat_le k h.size) (rest_of k h ++ hs) (h ∷ taken k hs) fit in
    record {
      linked = subst (AreLinked after (word_at after link)) (sym are) (link_same ∙ linked.0, size_same ∙ linked.1, took.linked);
      headed = took.headed;
      kept = λ x beside outside. took.kept x (λ at before. outside.0 (omega arith) (omega arith)) outside.1;
      bytes = took.bytes;
    }
  where
    word_same : (after : ℕ → ℕ) (at : ℕ) → ((x : ℕ) → at ≤ x → x < at + 4 → after x ≡ memory x) → word_at after at ≡ word_at memory at
    word_same after at same = word_at-same memory after at same
