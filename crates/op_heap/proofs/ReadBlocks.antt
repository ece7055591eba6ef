-- What is read by sizes are the blocks of the heap.
use Rattle.std.proofs.Common.{◌≡◌, ℕ, suc, ◌+◌, ◌-◌, ◌*◌, ◌/◌, ◌%◌, ◌<◌, ◌≤◌, inl, inr, true, false, nat_eq, nat_lt, List, [], ◌∷◌, ◌++◌, length, refl, ap, subst, ◌∙◌, arith, zero, map}
use Rattle.std.proofs.lemmas.Bool.{cases_lt, cond-false, cond-true}
use Rattle.std.proofs.lemmas.Bool.Decides.{nat_tests}
use Rattle.op_heap.proofs.Holes.{gap_some}
use Rattle.op_heap.specs.Heap.{ArePlaced, Block, Hole, gap, holes_from}
use Rattle.op_heap.specs.Memory.{AreHeaded, AreLinked}
use Rattle.op_heap.specs.Reading.{AreKinds, found_if, found_of, read_blocks}
use Rattle.op_rv.specs.State.{word_at}

-- the first words of holes are their sizes
abbrev AreSized : (ℕ → ℕ) → List Hole → Type 0
AreSized memory [] = Unit {0}
AreSized memory (h ∷ hs) = (word_at memory h.address ≡ h.size) × AreSized memory hs

pub sized_of : (hs : List Hole) (memory : ℕ → ℕ) (next : ℕ) → AreLinked memory next hs → AreSized memory hs
sized_of [] memory next linked = tt
sized_of (h ∷ hs) memory next linked = (linked.1, sized_of hs memory (word_at memory (h.address + 4)) linked.2)

sized_front : (hs ks : List Hole) (memory : ℕ → ℕ) → AreSized memory (hs ++ ks) → AreSized memory hs
sized_front [] ks memory are = tt
sized_front (h ∷ hs) ks memory are = (are.0, sized_front hs ks memory are.1)

sized_back : (hs ks : List Hole) (memory : ℕ → ℕ) → AreSized memory (hs ++ ks) → AreSized memory ks
sized_back [] ks memory are = are
sized_back (h ∷ hs) ks memory are = sized_back hs ks memory are.1

module _ (memory kinds : ℕ → ℕ) (past : ℕ) (whole : past % 16 ≡ 0) where
  -- a hole is passed
  past_gap : (most from to : ℕ) → from % 16 ≡ 0 → to % 16 ≡ 0 → from < to → to ≤ past → word_at memory from ≡ to - from → read_blocks memory (suc most) from past ≡ read_blocks memory most to past
  unfolding read_blocks
  past_gap most from to aligned end_aligned less within size =
      let before : nat_lt from past ≡ true = grind (arith, nat_tests) in
      let zero_kind : word_at memory from % 16 ≡ 0 = omega arith in
      let none : nat_eq (word_at memory from % 16) 0 ≡ true = grind (arith, nat_tests) in
      let next : from + word_at memory from / 16 * 16 ≡ to = omega arith in
      cond-true (nat_lt from past) (found_if from (word_at memory from) ++ read_blocks memory most (from + word_at memory from / 16 * 16) past) [] before
      ∙ ap (λ front. front ++ read_blocks memory most (from + word_at memory from / 16 * 16) past) (cond-true (nat_eq (word_at memory from % 16) 0) [] (record { address = from; size = word_at memory from / 16 * 16; kind = word_at memory from % 16 } ∷ []) none)
      ∙ ap (λ at. read_blocks memory most at past) next

  -- a block is found
  finds_block : (most : ℕ) (b : Block) → b.address < past → b.size % 16 ≡ 0 → word_at memory b.address ≡ b.size + kinds b.name → kinds b.name < 16 → 0 < kinds b.name → read_blocks memory (suc most) b.address past ≡ found_of kinds b ∷ read_blocks memory most (b.address + b.size) past
  unfolding read_blocks
  finds_block most b less size_whole head few some =
      let before : nat_lt b.address past ≡ true = grind (arith, nat_tests) in
      let kind : word_at memory b.address % 16 ≡ kinds b.name = omega arith in
      let size : word_at memory b.address / 16 * 16 ≡ b.size = omega arith in
      let differ : nat_eq (word_at memory b.address % 16) 0 ≡ false = grind (arith, nat_tests) in
      cond-true (nat_lt b.address past) (found_if b.address (word_at memory b.address) ++ read_blocks memory most (b.address + word_at memory b.address / 16 * 16) past) [] before
      ∙ ap (λ front. front ++ read_blocks memory most (b.address + word_at memory b.address / 16 * 16) past) (cond-false (nat_eq (word_at memory b.address % 16) 0) [] (record { address = b.address; size = word_at memory b.address / 16 * 16; kind = word_at memory b.address % 16 } ∷ []) differ)
      ∙ ap (λ n. record { address = b.address; size = n; kind = word_at memory b.address % 16 } ∷ read_blocks memory most (b.address + n) past) size
      ∙ ap (λ n. record { address = b.address; size = b.size; kind = n } ∷ read_blocks memory most (b.address + b.size) past) kind

  ends_here : (most : ℕ) → read_blocks memory most past past ≡ []
  unfolding read_blocks
  ends_here zero = refl
  ends_here (suc most) =
      let none : nat_lt past past ≡ false = grind (arith, nat_tests) in
      cond-false (nat_lt past past) (found_if past (word_at memory past) ++ read_blocks memory most (past + word_at memory past / 16 * 16) past) [] none

  within_of : (bs : List Block) (from : ℕ) → ArePlaced from past bs → from ≤ past
  within_of [] from are = are
  within_of (b ∷ bs) from are =
      let behind = are.0.behind in
      let later = within_of bs (b.address + b.size) are.1 in
      omega arith

  -- with two steps for each block and one behind them
  pub reads : (bs : List Block) (more from : ℕ) → from % 16 ≡ 0 → ArePlaced from past bs → AreSized memory (holes_from from past bs) → AreHeaded memory kinds bs → AreKinds kinds bs → read_blocks memory (2 * length bs + 1 + more) from past ≡ map (found_of kinds) bs
  reads [] more from aligned are sized headed all =
      elim (cases_lt from past) [
        | inl less ↦
            let one = subst (AreSized memory) (gap_some from past less) sized in
            let steps : 2 * length {A = Block} [] + 1 + more ≡ suc more = omega arith in
            ap (λ n. read_blocks memory n from past) steps ∙ past_gap more from past aligned whole less (omega arith) one.0 ∙ ends_here more
        | inr end ↦ let same : from ≡ past = omega arith in ap (λ at. read_blocks memory (2 * length {A = Block} [] + 1 + more) at past) same ∙ ends_here (2 * length {A = Block} [] + 1 + more)
      ]
  reads (b ∷ bs) more from aligned are sized headed all =
      let behind = are.0.behind in
      let b_aligned = are.0.aligned in
      let some = are.0.some in
      let size_whole = are.0.whole in
      let end = within_of bs (b.address + b.size) are.1 in
      let rest = sized_back (gap from b.address) (holes_from (b.address + b.size) past bs) memory sized in
      elim (cases_lt from b.address) [
        | inl less ↦
            let one = subst (AreSized memory) (gap_some from b.address less) (sized_front (gap from b.address) (holes_from (b.address + b.size) past bs) memory sized) in
            let steps : 2 * length (b ∷ bs) + 1 + more ≡ suc (suc (2 * length bs + 1 + more)) = omega arith in
            ap (λ n. read_blocks memory n from past) steps
            ∙ past_gap (suc (2 * length bs + 1 + more)) from b.address aligned b_aligned less (omega arith) one.0
            ∙ finds_block (2 * length bs + 1 + more) b (omega arith) size_whole headed.0 headed.1 all.0
            ∙ ap (λ found. found_of kinds b ∷ found) (reads bs more (b.address + b.size) (omega arith) are.1 rest headed.2 all.1)
        | inr none ↦
            let same : from ≡ b.address = omega arith in
            let steps : 2 * length (b ∷ bs) + 1 + more ≡ suc (2 * length bs + 1 + suc more) = omega arith in
            ap (λ n. read_blocks memory n from past) steps
            ∙ ap (λ at. read_blocks memory (suc (2 * length bs + 1 + suc more)) at past) same
            ∙ finds_block (2 * length bs + 1 + suc more) b (omega arith) size_whole headed.0 headed.1 all.0
            ∙ ap (λ found. found_of kinds b ∷ found) (reads bs (suc more) (b.address + b.size) (omega arith) are.1 rest headed.2 all.1)
      ]
