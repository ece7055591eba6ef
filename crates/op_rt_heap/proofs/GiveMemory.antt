-- Memory in which a block was given back.
use Rattle.std.proofs.Common.{◌≡◌, ℕ, suc, ◌+◌, ◌^◌, ◌<◌, ◌≤◌, ◌⊎◌, inl, inr, Bool, true, false, nat_eq, nat_lt, List, [], ◌∷◌, refl, ap, sym, subst, ◌∙◌, arith}
use Rattle.std.proofs.lemmas.Bool.{cases_lt, cond-false, cond-true}
use Rattle.std.proofs.lemmas.Bool.Decides.{nat_tests}
use Rattle.op_heap.proofs.Gaps.{joined_apart}
use Rattle.op_heap.proofs.Holes.{below_outside, hole, linked_same, linked_word}
use Rattle.op_heap.proofs.Words.{byte_above, byte_apart, byte_small, with_word, word_above, word_below, word_there}
use Rattle.op_heap.specs.Heap.{Hole}
use Rattle.op_heap.specs.Memory.{AreLinked}
use Rattle.op_heap.specs.Merging.{AreSpread, IsOutside, given, joined}
use Rattle.op_rv.proofs.Memory.{word_at-same}
use Rattle.op_rv.specs.State.{word_at}

-- a byte is not in the block
abbrev pub IsBeside : Hole → ℕ → Type 0
IsBeside b x = b.address ≤ x → x < b.address + b.size → ⊥

-- the block is among holes that are linked at an address
pub record Gave (memory after : ℕ → ℕ) (link : ℕ) (hs : List Hole) (b : Hole) : Type 0 where
  pub linked : AreLinked after (word_at after link) (given b hs)
  pub kept : (x : ℕ) → (link ≤ x → x < link + 4 → ⊥) → IsOutside hs x → IsBeside b x → after x ≡ memory x
  pub bytes : (x : ℕ) → memory x < 2 ^ 8 → after x < 2 ^ 8

-- the block is somewhere behind a hole
pub record GaveBehind (memory after : ℕ → ℕ) (h : Hole) (hs : List Hole) (b : Hole) : Type 0 where
  pub linked : AreLinked after h.address (joined h (given b hs))
  pub kept : (x : ℕ) → IsOutside (h ∷ hs) x → IsBeside b x → after x ≡ memory x
  pub bytes : (x : ℕ) → memory x < 2 ^ 8 → after x < 2 ^ 8

-- ---- a hole in front of the block is passed

-- what is joined begins where its first hole does
joined_begins : (h n : Hole) (ns : List Hole) → h.address + h.size < n.address → joined h (joined n ns) ≡ h ∷ joined n ns
joined_begins h n ns apart = by_list ns
  where
    alone : (size : ℕ) (ks : List Hole) → joined h (hole n.address size ∷ ks) ≡ h ∷ hole n.address size ∷ ks
    alone size ks =
        let differ : nat_eq (h.address + h.size) n.address ≡ false = grind (arith, nat_tests) in
        cond-false (nat_eq (h.address + h.size) n.address) (hole h.address (h.size + size) ∷ ks) (h ∷ hole n.address size ∷ ks) differ

    by_test : (k : Hole) (ks : List Hole) (test : Bool) → nat_eq (n.address + n.size) k.address ≡ test → joined h (joined n (k ∷ ks)) ≡ h ∷ joined n (k ∷ ks)
    by_test k ks true is =
        let one : joined n (k ∷ ks) ≡ hole n.address (n.size + k.size) ∷ ks = cond-true (nat_eq (n.address + n.size) k.address) (hole n.address (n.size + k.size) ∷ ks) (n ∷ k ∷ ks) is in
        ap (joined h) one ∙ alone (n.size + k.size) ks ∙ ap (λ hs. h ∷ hs) (sym one)
    by_test k ks false is =
        let two : joined n (k ∷ ks) ≡ n ∷ k ∷ ks = cond-false (nat_eq (n.address + n.size) k.address) (hole n.address (n.size + k.size) ∷ ks) (n ∷ k ∷ ks) is in
        ap (joined h) two ∙ alone n.size (k ∷ ks) ∙ ap (λ hs. h ∷ hs) (sym two)

    by_list : (ns : List Hole) → joined h (joined n ns) ≡ h ∷ joined n ns
    by_list [] = alone n.size []
    by_list (k ∷ ks) = by_test k ks (nat_eq (n.address + n.size) k.address) refl

passed_is : (h : Hole) (hs : List Hole) (b : Hole) → h.address ≤ b.address → given b (h ∷ hs) ≡ joined h (given b hs)
passed_is h hs b less =
    let skipped : nat_lt b.address h.address ≡ false = grind (arith, nat_tests) in
    cond-false (nat_lt b.address h.address) (joined b (h ∷ hs)) (joined h (given b hs)) skipped

pub passed_gave : (memory after : ℕ → ℕ) (link from past : ℕ) (h : Hole) (hs : List Hole) (b : Hole) → link + 4 ≤ from → h.address + h.size ≤ b.address → AreSpread from past (h ∷ hs) → AreLinked memory (word_at memory link) (h ∷ hs) → GaveBehind memory after h hs b → Gave memory after link (h ∷ hs) b
passed_gave memory after link from past h hs b apart lower spread linked gave =
    let behind = spread.0.behind in
    let same : word_at after link ≡ word_at memory link = word_at-same memory after link (λ x at before. gave.kept x (below_outside (h ∷ hs) from past x spread (omega arith)) (λ from under. omega arith)) in
    record {
      linked =
          subst (λ next. AreLinked after next (given b (h ∷ hs))) (sym (same ∙ linked.0))
          (subst (AreLinked after h.address) (sym (passed_is h hs b (omega arith))) gave.linked);
      kept = λ x beside outside besides. gave.kept x outside besides;
      bytes = gave.bytes;
    }

pub passed_behind : (memory after : ℕ → ℕ) (from past : ℕ) (h n : Hole) (ns : List Hole) (b : Hole) → n.address + n.size ≤ b.address → AreSpread from past (h ∷ n ∷ ns) → AreLinked memory h.address (h ∷ n ∷ ns) → GaveBehind memory after n ns b → GaveBehind memory after h (n ∷ ns) b
passed_behind memory after from past h n ns b lower spread linked gave =
    let some = spread.0.some in
    let behind = spread.1.0.behind in
    let kept = λ (x : ℕ) (under : x < h.address + h.size). gave.kept x (below_outside (n ∷ ns) (suc (h.address + h.size)) past x spread.1 (omega arith)) (λ from at. omega arith) in
    let size_same : word_at after h.address ≡ word_at memory h.address = word_at-same memory after h.address (λ x at before. kept x (omega arith)) in
    let link_same : word_at after (h.address + 4) ≡ word_at memory (h.address + 4) = word_at-same memory after (h.address + 4) (λ x at before. kept x (omega arith)) in
    let are : joined h (given b (n ∷ ns)) ≡ h ∷ joined n (given b ns) = ap (joined h) (passed_is n ns b (omega arith)) ∙ joined_begins h n (given b ns) (omega arith) in
    record {
      linked =
          subst (AreLinked after h.address) (sym are)
          (refl, size_same ∙ linked.1, subst (λ next. AreLinked after next (joined n (given b ns))) (sym (link_same ∙ linked.2.0)) gave.linked);
      kept = λ x outside besides. gave.kept x outside.1 besides;
      bytes = gave.bytes;
    }

-- ---- the block and the hole behind it

-- the block has become a hole of this size, which is to be linked to these holes
pub record Merged (memory : ℕ → ℕ) (past : ℕ) (hs : List Hole) (b : Hole) (size next : ℕ) (tail : List Hole) : Type 0 where
  pub is : given b hs ≡ hole b.address size ∷ tail
  pub linked : AreLinked memory next tail
  pub spread : AreSpread (suc (b.address + size)) past tail
  pub large : b.size ≤ size
  pub within : b.address + size ≤ past

-- it lies in front of all these holes
abbrev pub IsBefore : Hole → List Hole → Type 0
IsBefore b [] = Unit {0}
IsBefore b (h ∷ hs) = b.address + b.size ≤ h.address

pub met : (memory : ℕ → ℕ) (from past : ℕ) (n : Hole) (ns : List Hole) (b : Hole) → 0 < b.size → b.address + b.size ≡ n.address → AreSpread from past (n ∷ ns) → AreLinked memory n.address (n ∷ ns) → Merged memory past (n ∷ ns) b (b.size + n.size) (word_at memory (n.address + 4)) ns
met memory from past n ns b some there spread linked =
    let within = spread.0.within in
    let end : b.address + (b.size + n.size) ≡ n.address + n.size = omega arith in
    let before : nat_lt b.address n.address ≡ true = grind (arith, nat_tests) in
    let same : nat_eq (b.address + b.size) n.address ≡ true = grind (arith, nat_tests) in
    record {
      is = cond-true (nat_lt b.address n.address) (joined b (n ∷ ns)) (joined n (given b ns)) before ∙ cond-true (nat_eq (b.address + b.size) n.address) (hole b.address (b.size + n.size) ∷ ns) (b ∷ n ∷ ns) same;
      linked = linked.2;
      spread = subst (λ end. AreSpread (suc end) past ns) (sym end) spread.1;
      large = omega arith;
      within = omega arith;
    }

spread_later : (n : Hole) (ns : List Hole) (from later past : ℕ) → later ≤ n.address → AreSpread from past (n ∷ ns) → AreSpread later past (n ∷ ns)
spread_later n ns from later past less spread =
    (record { behind = less; aligned = spread.0.aligned; some = spread.0.some; whole = spread.0.whole; within = spread.0.within }, spread.1)

pub unmet : (memory : ℕ → ℕ) (from past next : ℕ) (hs : List Hole) (b : Hole) → 0 < b.size → b.address + b.size ≤ past → IsBefore b hs → (b.address + b.size ≡ next → ⊥) → AreSpread from past hs → AreLinked memory next hs → Merged memory past hs b b.size next hs
unmet memory from past next [] b some within front differ spread linked =
    record { is = refl; linked = linked; spread = tt; large = omega arith; within = within }
unmet memory from past next (n ∷ ns) b some within front differ spread linked =
    let first = linked.0 in
    let apart : b.address + b.size < n.address = later (cases_lt (b.address + b.size) n.address) front (λ same. differ (same ∙ sym first)) in
    let before : nat_lt b.address n.address ≡ true = grind (arith, nat_tests) in
    record {
      is = cond-true (nat_lt b.address n.address) (joined b (n ∷ ns)) (joined n (given b ns)) before ∙ joined_apart b (n ∷ ns) n.address past (spread_later n ns from n.address past (omega arith) spread) apart;
      linked = linked;
      spread = spread_later n ns from (suc (b.address + b.size)) past (omega arith) spread;
      large = omega arith;
      within = within;
    }
  where
    later : {a c : ℕ} → (a < c) ⊎ (c ≤ a) → a ≤ c → (a ≡ c → ⊥) → a < c
    later (inl less) front differ = less
    later (inr more) front differ = absurd (differ (omega arith))

-- ---- the last stores

abbrev pub alone_memory : (ℕ → ℕ) → (link b size next : ℕ) → ℕ → ℕ
alone_memory memory link b size next = with_word (with_word (with_word memory b size) (b + 4) next) link b

-- the block is a hole of its own
pub record Alone (memory after : ℕ → ℕ) (link : ℕ) (b : Hole) (size : ℕ) (tail : List Hole) : Type 0 where
  pub first : word_at after link ≡ b.address
  pub linked : AreLinked after b.address (hole b.address size ∷ tail)
  pub kept : (x : ℕ) → (link ≤ x → x < link + 4 → ⊥) → IsBeside b x → after x ≡ memory x
  pub bytes : (x : ℕ) → memory x < 2 ^ 8 → after x < 2 ^ 8

pub is_alone : (memory : ℕ → ℕ) (link past : ℕ) (hs : List Hole) (b : Hole) (size next : ℕ) (tail : List Hole) → past ≤ 2 ^ 32 → 16 ≤ b.size → link + 4 ≤ b.address → Merged memory past hs b size next tail → Alone memory (alone_memory memory link b.address size next) link b size tail
is_alone memory link past hs b size next tail words some apart merged =
    let large = merged.large in
    let within = merged.within in
    let small = linked_word tail memory next (suc (b.address + size)) past (omega arith) merged.spread merged.linked in
    let m1 = with_word memory b.address size in
    let m2 = with_word m1 (b.address + 4) next in
    let after = with_word m2 link b.address in
    let at_size : word_at after b.address ≡ size = word_above m2 link b.address b.address (omega arith) ∙ word_below m1 (b.address + 4) next b.address (omega arith) ∙ word_there memory b.address size (omega arith) in
    let at_next : word_at after (b.address + 4) ≡ next = word_above m2 link b.address (b.address + 4) (omega arith) ∙ word_there m1 (b.address + 4) next small in
    record {
      first = word_there m2 link b.address (omega arith);
      linked = (
        refl,
        at_size,
        subst (λ next. AreLinked after next tail) (sym at_next)
            (linked_same tail memory after next (suc (b.address + size)) past
            (λ x at. byte_above m2 link b.address x (omega arith) ∙ byte_above m1 (b.address + 4) next x (omega arith) ∙ byte_above memory b.address size x (omega arith)) merged.spread merged.linked),
      );
      kept = λ x beside besides. byte_apart m2 link b.address x beside ∙ byte_apart m1 (b.address + 4) next x (λ at under. besides (omega arith) (omega arith)) ∙ byte_apart memory b.address size x (λ at under. besides at (omega arith));
      bytes = λ x old. byte_small m2 link b.address x (byte_small m1 (b.address + 4) next x (byte_small memory b.address size x old));
    }

-- it is the first hole
pub alone_gave : (memory after : ℕ → ℕ) (link past : ℕ) (hs : List Hole) (b : Hole) (size next : ℕ) (tail : List Hole) → Merged memory past hs b size next tail → Alone memory after link b size tail → Gave memory after link hs b
alone_gave memory after link past hs b size next tail merged alone =
    record {
      linked = subst (λ next. AreLinked after next (given b hs)) (sym alone.first) (subst (AreLinked after b.address) (sym merged.is) alone.linked);
      kept = λ x beside outside besides. alone.kept x beside besides;
      bytes = alone.bytes;
    }

-- it lies behind a hole that it does not meet
pub alone_behind : (memory after : ℕ → ℕ) (past : ℕ) (h : Hole) (hs : List Hole) (b : Hole) (size next : ℕ) (tail : List Hole) → 16 ≤ h.size → h.address + h.size < b.address → word_at memory h.address ≡ h.size → Merged memory past hs b size next tail → Alone memory after (h.address + 4) b size tail → GaveBehind memory after h hs b
alone_behind memory after past h hs b size next tail some apart size_is merged alone =
    let differ : nat_eq (h.address + h.size) b.address ≡ false = grind (arith, nat_tests) in
    let size_same : word_at after h.address ≡ word_at memory h.address = word_at-same memory after h.address (λ x at before. alone.kept x (λ from under. omega arith) (λ from under. omega arith)) in
    let are : joined h (given b hs) ≡ h ∷ hole b.address size ∷ tail = ap (joined h) merged.is ∙ cond-false (nat_eq (h.address + h.size) b.address) (hole h.address (h.size + size) ∷ tail) (h ∷ hole b.address size ∷ tail) differ in
    record {
      linked =
          subst (AreLinked after h.address) (sym are)
          (refl, size_same ∙ size_is, subst (λ next. AreLinked after next (hole b.address size ∷ tail)) (sym alone.first) alone.linked);
      kept = λ x outside besides. alone.kept x (λ at before. outside.0 (omega arith) (omega arith)) besides;
      bytes = alone.bytes;
    }

-- it lies behind a hole that it meets
pub grown_behind : (memory : ℕ → ℕ) (past : ℕ) (h : Hole) (hs : List Hole) (b : Hole) (size next : ℕ) (tail : List Hole) → past < 2 ^ 32 → 16 ≤ h.size → 16 ≤ b.size → h.address + h.size ≡ b.address → Merged memory past hs b size next tail → GaveBehind memory (with_word (with_word memory h.address (h.size + size)) (h.address + 4) next) h hs b
grown_behind memory past h hs b size next tail words some wide there merged =
    let large = merged.large in
    let within = merged.within in
    let small = linked_word tail memory next (suc (b.address + size)) past (omega arith) merged.spread merged.linked in
    let m1 = with_word memory h.address (h.size + size) in
    let after = with_word m1 (h.address + 4) next in
    let same : nat_eq (h.address + h.size) b.address ≡ true = grind (arith, nat_tests) in
    let are : joined h (given b hs) ≡ hole h.address (h.size + size) ∷ tail = ap (joined h) merged.is ∙ cond-true (nat_eq (h.address + h.size) b.address) (hole h.address (h.size + size) ∷ tail) (h ∷ hole b.address size ∷ tail) same in
    let at_size : word_at after h.address ≡ h.size + size = word_below m1 (h.address + 4) next h.address (omega arith) ∙ word_there memory h.address (h.size + size) (omega arith) in
    record {
      linked =
          subst (AreLinked after h.address) (sym are) (
            refl,
            at_size,
            subst (λ next. AreLinked after next tail) (sym (word_there m1 (h.address + 4) next small))
                (linked_same tail memory after next (suc (b.address + size)) past
                (λ x at. byte_above m1 (h.address + 4) next x (omega arith) ∙ byte_above memory h.address (h.size + size) x (omega arith)) merged.spread merged.linked),
          );
      kept = λ x outside besides. byte_apart m1 (h.address + 4) next x (λ at under. outside.0 (omega arith) (omega arith)) ∙ byte_apart memory h.address (h.size + size) x (λ at under. outside.0 at (omega arith));
      bytes = λ x old. byte_small m1 (h.address + 4) next x (byte_small memory h.address (h.size + size) x old);
    }
