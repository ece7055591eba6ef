-- What becomes of the gaps between blocks where a block is placed or given up.
use Rattle.std.proofs.Common.{◌≡◌, ℕ, suc, ◌+◌, ◌-◌, ◌%◌, ◌<◌, ◌≤◌, ◌⊎◌, inl, inr, Bool, true, false, nat_eq, nat_le, nat_lt, Some, None, List, [], ◌∷◌, ◌++◌, refl, ap, sym, subst, ◌∙◌, arith, ap₂, append-nil}
use Rattle.std.proofs.lemmas.Bool.{cases_lt, cond-false, cond-true}
use Rattle.std.proofs.lemmas.Bool.Decides.{nat_tests}
use Rattle.op_heap.proofs.Holes.{below_outside, gap_none, gap_some, hole, some_is, spread_earlier}
use Rattle.op_heap.specs.Heap.{ArePlaced, Block, Hole, IsInside, block_named, first_fit, gap, holes_from, placed, without}
use Rattle.op_heap.specs.Merging.{AreSpread, IsOutside, given, joined, rest_of, taken}

-- ---- blocks

pub placed_within : (bs : List Block) (from past : ℕ) → ArePlaced from past bs → from ≤ past
placed_within [] from past are = are
placed_within (b ∷ bs) from past are =
    let behind = are.0.behind in
    let later = placed_within bs (b.address + b.size) past are.1 in
    omega arith

pub placed_earlier : (bs : List Block) (from earlier past : ℕ) → earlier ≤ from → ArePlaced from past bs → ArePlaced earlier past bs
placed_earlier [] from earlier past less are = omega arith
placed_earlier (b ∷ bs) from earlier past less are =
    let behind = are.0.behind in
    (record { behind = omega arith; aligned = are.0.aligned; some = are.0.some; whole = are.0.whole }, are.1)

-- ---- the holes are spread

pub holes_spread : (bs : List Block) (from past : ℕ) → from % 16 ≡ 0 → past % 16 ≡ 0 → ArePlaced from past bs → AreSpread from past (holes_from from past bs)
holes_spread [] from past whole end_whole are =
    elim (cases_lt from past) [
      | inl less ↦
          subst (AreSpread from past) (sym (gap_some from past less))
          (record { behind = omega arith; aligned = whole; some = omega arith; whole = omega arith; within = omega arith }, tt)
      | inr none ↦ subst (AreSpread from past) (sym (gap_none from past none)) tt
    ]
holes_spread (b ∷ bs) from past whole end_whole are =
    let behind = are.0.behind in
    let some = are.0.some in
    let aligned = are.0.aligned in
    let size_whole = are.0.whole in
    let end = placed_within bs (b.address + b.size) past are.1 in
    let rest = holes_spread bs (b.address + b.size) past (omega arith) end_whole are.1 in
    elim (cases_lt from b.address) [
      | inl less ↦
          subst (λ front. AreSpread from past (front ++ holes_from (b.address + b.size) past bs)) (sym (gap_some from b.address less)) (
            record { behind = omega arith; aligned = whole; some = omega arith; whole = omega arith; within = omega arith },
            spread_earlier (holes_from (b.address + b.size) past bs) (b.address + b.size) (suc (from + (b.address - from))) past (omega arith) rest,
          )
      | inr none ↦
          subst (λ front. AreSpread from past (front ++ holes_from (b.address + b.size) past bs)) (sym (gap_none from b.address none))
          (spread_earlier (holes_from (b.address + b.size) past bs) (b.address + b.size) from past (omega arith) rest)
    ]

-- ---- the first hole that is large enough

module _ (k from to : ℕ) (hs : List Hole) (some : 0 < k) where
  fit_front : k ≤ to - from → first_fit k (gap from to ++ hs) ≡ Some from
  fit_front fits =
      let long : nat_le k (to - from) ≡ true = grind (arith, nat_tests) in
      ap (λ front. first_fit k (front ++ hs)) (gap_some from to (omega arith)) ∙ cond-true (nat_le k (to - from)) (Some from) (first_fit k hs) long

  taken_front : k ≤ to - from → taken k (gap from to ++ hs) ≡ gap (from + k) to ++ hs
  taken_front fits =
      let long : nat_le k (to - from) ≡ true = grind (arith, nat_tests) in
      let end : from + (to - from) ≡ to = omega arith in
      ap (λ front. taken k (front ++ hs)) (gap_some from to (omega arith))
      ∙ cond-true (nat_le k (to - from)) (gap (from + k) (from + (to - from)) ++ hs) (hole from (to - from) ∷ taken k hs) long
      ∙ ap (λ end. gap (from + k) end ++ hs) end

  fit_past : to - from < k → first_fit k (gap from to ++ hs) ≡ first_fit k hs
  fit_past less =
      let short : nat_le k (to - from) ≡ false = grind (arith, nat_tests) in
      elim (cases_lt from to) [
        | inl there ↦ ap (λ front. first_fit k (front ++ hs)) (gap_some from to there) ∙ cond-false (nat_le k (to - from)) (Some from) (first_fit k hs) short
        | inr none ↦ ap (λ front. first_fit k (front ++ hs)) (gap_none from to none)
      ]

  taken_past : to - from < k → taken k (gap from to ++ hs) ≡ gap from to ++ taken k hs
  taken_past less =
      let short : nat_le k (to - from) ≡ false = grind (arith, nat_tests) in
      elim (cases_lt from to) [
        | inl there ↦
            ap (λ front. taken k (front ++ hs)) (gap_some from to there)
            ∙ cond-false (nat_le k (to - from)) (rest_of k (hole from (to - from)) ++ hs) (hole from (to - from) ∷ taken k hs) short
            ∙ ap (λ front. front ++ taken k hs) (sym (gap_some from to there))
        | inr none ↦ ap (λ front. taken k (front ++ hs)) (gap_none from to none) ∙ ap (λ front. front ++ taken k hs) (sym (gap_none from to none))
      ]

pub fit_behind : (hs : List Hole) (k from past a : ℕ) → AreSpread from past hs → first_fit k hs ≡ Some a → from ≤ a
fit_behind [] k from past a spread fit = absurd (none_some a fit)
  where
    none_some : (a : ℕ) → None ≡ Some a → ⊥
    none_some a is = cc
fit_behind (h ∷ hs) k from past a spread fit =
    let behind = spread.0.behind in
    elim (cases_lt h.size k) [
      | inl less ↦
          let short : nat_le k h.size ≡ false = grind (arith, nat_tests) in
          let later = fit_behind hs k (suc (h.address + h.size)) past a spread.1 (sym (cond-false (nat_le k h.size) (Some h.address) (first_fit k hs) short) ∙ fit) in
          omega arith
      | inr fits ↦
          let long : nat_le k h.size ≡ true = grind (arith, nat_tests) in
          let there : h.address ≡ a = some_is h.address a (sym (cond-true (nat_le k h.size) (Some h.address) (first_fit k hs) long) ∙ fit) in
          omega arith
    ]

-- ---- a block is placed

module _ (name slot k past : ℕ) (large : 16 ≤ k) (whole : k % 16 ≡ 0) (end_whole : past % 16 ≡ 0) where
  abbrev pub new : ℕ → Block
  new a = record { name = name; address = a; size = k; slot = slot }

  -- where it is placed, and that the blocks are placed as they should be
  pub record Places (bs : List Block) (from a : ℕ) : Type 0 where
    pub holes : holes_from from past (placed (new a) bs) ≡ taken k (holes_from from past bs)
    pub are : ArePlaced from past (placed (new a) bs)

  places_last : (from a : ℕ) → from % 16 ≡ 0 → from ≤ past → first_fit k (gap from past) ≡ Some a → Places [] from a
  places_last from a from_whole within fit =
      elim (cases_lt (past - from) k) [
        | inl less ↦ absurd (none_some a (sym (fit_past k from past [] (omega arith) less) ∙ ap (first_fit k) (append-nil (gap from past)) ∙ fit))
        | inr fits ↦
            let there : from ≡ a = some_is from a (sym (fit_front k from past [] (omega arith) fits) ∙ ap (first_fit k) (append-nil (gap from past)) ∙ fit) in
            subst (Places [] from) there
            (record {
              holes =
                  ap (λ front. front ++ gap (from + k) past) (gap_none from from (omega arith))
                  ∙ sym (append-nil (gap (from + k) past)) ∙ sym (taken_front k from past [] (omega arith) fits) ∙ ap (taken k) (append-nil (gap from past));
              are = (record { behind = omega arith; aligned = from_whole; some = large; whole = whole }, omega arith);
            })
      ]
    where
      none_some : (a : ℕ) → None ≡ Some a → ⊥
      none_some a is = cc

  pub places : (bs : List Block) (from a : ℕ) → from % 16 ≡ 0 → ArePlaced from past bs → first_fit k (holes_from from past bs) ≡ Some a → Places bs from a
  places [] from a from_whole are fit = places_last from a from_whole are fit
  places (c ∷ cs) from a from_whole are fit =
      let behind = are.0.behind in
      let aligned = are.0.aligned in
      let some = are.0.some in
      let size_whole = are.0.whole in
      let end = c.address + c.size in
      let rest = holes_from end past cs in
      elim (cases_lt (c.address - from) k) [
        | inl less ↦
            let later : first_fit k rest ≡ Some a = sym (fit_past k from c.address rest (omega arith) less) ∙ fit in
            let more = places cs end a (omega arith) are.1 later in
            let beyond = fit_behind rest k end past a (holes_spread cs end past (omega arith) end_whole are.1) later in
            let after : nat_lt a c.address ≡ false = grind (arith, nat_tests) in
            let order : placed (new a) (c ∷ cs) ≡ c ∷ placed (new a) cs = cond-false (nat_lt a c.address) (new a ∷ c ∷ cs) (c ∷ placed (new a) cs) after in
            record {
              holes =
                  ap (holes_from from past) order
                  ∙ ap (λ hs. gap from c.address ++ hs) more.holes
                  ∙ sym (taken_past k from c.address rest (omega arith) less);
              are = subst (ArePlaced from past) (sym order) (are.0, more.are);
            }
        | inr fits ↦
            let there : from ≡ a = some_is from a (sym (fit_front k from c.address rest (omega arith) fits) ∙ fit) in
            let before : nat_lt from c.address ≡ true = grind (arith, nat_tests) in
            let order : placed (new from) (c ∷ cs) ≡ new from ∷ c ∷ cs = cond-true (nat_lt from c.address) (new from ∷ c ∷ cs) (c ∷ placed (new from) cs) before in
            subst (Places (c ∷ cs) from) there
            (record {
              holes =
                  ap (holes_from from past) order
                  ∙ ap (λ front. front ++ (gap (from + k) c.address ++ rest)) (gap_none from from (omega arith))
                  ∙ sym (taken_front k from c.address rest (omega arith) fits);
              are =
                  subst (ArePlaced from past) (sym order) (
                    record { behind = omega arith; aligned = from_whole; some = large; whole = whole },
                    (record { behind = omega arith; aligned = aligned; some = some; whole = size_whole }, are.1),
                  );
            })
      ]

-- ---- a block is given up

-- what lies behind is not swallowed
pub joined_apart : (h : Hole) (hs : List Hole) (from past : ℕ) → AreSpread from past hs → h.address + h.size < from → joined h hs ≡ h ∷ hs
joined_apart h [] from past spread apart = refl
joined_apart h (n ∷ ns) from past spread apart =
    let behind = spread.0.behind in
    let differ : nat_eq (h.address + h.size) n.address ≡ false = grind (arith, nat_tests) in
    cond-false (nat_eq (h.address + h.size) n.address) (hole h.address (h.size + n.size) ∷ ns) (h ∷ n ∷ ns) differ

-- a gap that begins earlier swallows what begins at its end
pub gap_grows : (from middle to : ℕ) (hs : List Hole) (past : ℕ) → from < middle → middle ≤ to → AreSpread (suc to) past hs → gap from to ++ hs ≡ joined (hole from (middle - from)) (gap middle to ++ hs)
gap_grows from middle to hs past less more spread =
    elim (cases_lt middle to) [
      | inl there ↦
          let end : from + (middle - from) ≡ middle = omega arith in
          let same : nat_eq (from + (middle - from)) middle ≡ true = grind (arith, nat_tests, end) in
          let size : to - from ≡ middle - from + (to - middle) = omega arith in
          ap (λ front. front ++ hs) (gap_some from to (omega arith))
          ∙ ap (λ size. hole from size ∷ hs) size
          ∙ sym (cond-true (nat_eq (from + (middle - from)) middle) (hole from (middle - from + (to - middle)) ∷ hs) (hole from (middle - from) ∷ hole middle (to - middle) ∷ hs) same)
          ∙ ap (λ front. joined (hole from (middle - from)) (front ++ hs)) (sym (gap_some middle to there))
      | inr none ↦
          let size : to - from ≡ middle - from = omega arith in
          ap (λ front. front ++ hs) (gap_some from to (omega arith))
          ∙ ap (λ size. hole from size ∷ hs) size
          ∙ sym (joined_apart (hole from (middle - from)) hs (suc to) past spread (omega arith))
          ∙ ap (λ front. joined (hole from (middle - from)) (front ++ hs)) (sym (gap_none middle to none))
    ]

pub holes_earlier : (bs : List Block) (from middle past : ℕ) → from < middle → middle % 16 ≡ 0 → past % 16 ≡ 0 → ArePlaced middle past bs → holes_from from past bs ≡ joined (hole from (middle - from)) (holes_from middle past bs)
holes_earlier [] from middle past less whole end_whole are =
    sym (append-nil (gap from past)) ∙ gap_grows from middle past [] past less are tt ∙ ap (joined (hole from (middle - from))) (append-nil (gap middle past))
holes_earlier (b ∷ bs) from middle past less whole end_whole are =
    let behind = are.0.behind in
    let aligned = are.0.aligned in
    let some = are.0.some in
    let size_whole = are.0.whole in
    let end = b.address + b.size in
    gap_grows from middle b.address (holes_from end past bs) past less behind
    (spread_earlier (holes_from end past bs) end (suc b.address) past (omega arith) (holes_spread bs end past (omega arith) end_whole are.1))

-- in front of all holes a block is only joined to what it meets
given_first : (b : Hole) (hs : List Hole) (from past : ℕ) → AreSpread from past hs → b.address < from → given b hs ≡ joined b hs
given_first b [] from past spread lower = refl
given_first b (h ∷ hs) from past spread lower =
    let behind = spread.0.behind in
    let before : nat_lt b.address h.address ≡ true = grind (arith, nat_tests) in
    cond-true (nat_lt b.address h.address) (joined b (h ∷ hs)) (joined h (given b hs)) before

-- a hole that ends at a block that is joined to what follows
joined_twice : (from middle size : ℕ) (hs : List Hole) → from < middle → joined (hole from (middle - from)) (joined (hole middle size) hs) ≡ joined (hole from (middle + size - from)) hs
joined_twice from middle size [] less =
    let end : from + (middle - from) ≡ middle = omega arith in
    let same : nat_eq (from + (middle - from)) middle ≡ true = grind (arith, nat_tests, end) in
    let sum : middle - from + size ≡ middle + size - from = omega arith in
    cond-true (nat_eq (from + (middle - from)) middle) (hole from (middle - from + size) ∷ []) (hole from (middle - from) ∷ hole middle size ∷ []) same
    ∙ ap (λ size. hole from size ∷ []) sum
joined_twice from middle size (n ∷ ns) less =
    let end : from + (middle - from) ≡ middle = omega arith in
    let same : nat_eq (from + (middle - from)) middle ≡ true = grind (arith, nat_tests, end) in
    let past : from + (middle + size - from) ≡ middle + size = omega arith in
    let sum : middle - from + size ≡ middle + size - from = omega arith in
    let both : middle - from + (size + n.size) ≡ middle + size - from + n.size = omega arith in
    cases (nat_eq (middle + size) n.address) refl end same past sum both
  where
    cases : (test : Bool) → nat_eq (middle + size) n.address ≡ test → from + (middle - from) ≡ middle → nat_eq (from + (middle - from)) middle ≡ true → from + (middle + size - from) ≡ middle + size → middle - from + size ≡ middle + size - from → middle - from + (size + n.size) ≡ middle + size - from + n.size → joined (hole from (middle - from)) (joined (hole middle size) (n ∷ ns)) ≡ joined (hole from (middle + size - from)) (n ∷ ns)
    cases true is end same past sum both =
        ap (joined (hole from (middle - from))) (cond-true (nat_eq (middle + size) n.address) (hole middle (size + n.size) ∷ ns) (hole middle size ∷ n ∷ ns) is)
        ∙ cond-true (nat_eq (from + (middle - from)) middle) (hole from (middle - from + (size + n.size)) ∷ ns) (hole from (middle - from) ∷ hole middle (size + n.size) ∷ ns) same
        ∙ ap (λ size. hole from size ∷ ns) both
        ∙ sym (cond-true (nat_eq (from + (middle + size - from)) n.address) (hole from (middle + size - from + n.size) ∷ ns) (hole from (middle + size - from) ∷ n ∷ ns) (ap (λ e. nat_eq e n.address) past ∙ is))
    cases false is end same past sum both =
        ap (joined (hole from (middle - from))) (cond-false (nat_eq (middle + size) n.address) (hole middle (size + n.size) ∷ ns) (hole middle size ∷ n ∷ ns) is)
        ∙ cond-true (nat_eq (from + (middle - from)) middle) (hole from (middle - from + size) ∷ n ∷ ns) (hole from (middle - from) ∷ hole middle size ∷ n ∷ ns) same
        ∙ ap (λ size. hole from size ∷ n ∷ ns) sum
        ∙ sym (cond-false (nat_eq (from + (middle + size - from)) n.address) (hole from (middle + size - from + n.size) ∷ ns) (hole from (middle + size - from) ∷ n ∷ ns) (ap (λ e. nat_eq e n.address) past ∙ is))

-- ---- what a name gives up

pub some_block : (a b : Block) → Some a ≡ Some b → a ≡ b
some_block a b is = cc

pub none_block : (b : Block) → None ≡ Some b → ⊥
none_block b is = cc

-- the blocks without a name, and where its block was
pub record GivesUp (bs : List Block) (from past name : ℕ) (b : Block) : Type 0 where
  pub behind : from ≤ b.address
  pub some : 16 ≤ b.size
  pub aligned : b.address % 16 ≡ 0
  pub whole : b.size % 16 ≡ 0
  pub within : b.address + b.size ≤ past
  pub are : ArePlaced from past (without name bs)
  pub holes : holes_from from past (without name bs) ≡ given (hole b.address b.size) (holes_from from past bs)

module _ (past name : ℕ) (end_whole : past % 16 ≡ 0) where
  -- the first block is given up
  gives_first : (c : Block) (cs : List Block) (from : ℕ) → from % 16 ≡ 0 → ArePlaced from past (c ∷ cs) → nat_eq c.name name ≡ true → GivesUp (c ∷ cs) from past name c
  gives_first c cs from from_whole are is =
      let behind = are.0.behind in
      let aligned = are.0.aligned in
      let some = are.0.some in
      let size_whole = are.0.whole in
      let end = c.address + c.size in
      let rest = holes_from end past cs in
      let spread = holes_spread cs end past (omega arith) end_whole are.1 in
      let later = placed_within cs end past are.1 in
      let left : without name (c ∷ cs) ≡ cs = cond-true (nat_eq c.name name) cs (c ∷ without name cs) is in
      let wide = holes_earlier cs from end past (omega arith) (omega arith) end_whole are.1 in
      let alone = given_first (hole c.address c.size) rest end past spread (omega arith) in
      record {
        behind = behind;
        some = some;
        aligned = aligned;
        whole = size_whole;
        within = later;
        are = subst (ArePlaced from past) (sym left) (placed_earlier cs end from past (omega arith) are.1);
        holes =
            ap (holes_from from past) left ∙ wide
            ∙ elim (cases_lt from c.address) [
              | inl there ↦
                  let skipped : nat_lt c.address from ≡ false = grind (arith, nat_tests) in
                  sym (joined_twice from c.address c.size rest there)
                  ∙ ap (joined (hole from (c.address - from))) (sym alone)
                  ∙ sym (cond-false (nat_lt c.address from) (joined (hole c.address c.size) (hole from (c.address - from) ∷ rest)) (joined (hole from (c.address - from)) (given (hole c.address c.size) rest)) skipped)
                  ∙ ap (λ front. given (hole c.address c.size) (front ++ rest)) (sym (gap_some from c.address there))
              | inr none ↦
                  let same : from ≡ c.address = omega arith in
                  let size : end - from ≡ c.size = omega arith in
                  ap₂ (λ a n. joined (hole a n) rest) same size
                  ∙ sym alone
                  ∙ ap (λ front. given (hole c.address c.size) (front ++ rest)) (sym (gap_none from c.address none))
            ];
      }

  -- a later one is
  gives_later : (c : Block) (cs : List Block) (from : ℕ) (b : Block) → from % 16 ≡ 0 → ArePlaced from past (c ∷ cs) → nat_eq c.name name ≡ false → GivesUp cs (c.address + c.size) past name b → GivesUp (c ∷ cs) from past name b
  gives_later c cs from b from_whole are is more =
      let behind = are.0.behind in
      let aligned = are.0.aligned in
      let some = are.0.some in
      let size_whole = are.0.whole in
      let end = c.address + c.size in
      let beyond = more.behind in
      let rest = holes_from end past cs in
      let gone = hole b.address b.size in
      let spread = subst (AreSpread end past) more.holes (holes_spread (without name cs) end past (omega arith) end_whole more.are) in
      let left : without name (c ∷ cs) ≡ c ∷ without name cs = cond-false (nat_eq c.name name) cs (c ∷ without name cs) is in
      record {
        behind = omega arith;
        some = more.some;
        aligned = more.aligned;
        whole = more.whole;
        within = more.within;
        are = subst (ArePlaced from past) (sym left) (are.0, more.are);
        holes =
            ap (holes_from from past) left
            ∙ ap (λ hs. gap from c.address ++ hs) more.holes
            ∙ elim (cases_lt from c.address) [
              | inl there ↦
                  let skipped : nat_lt b.address from ≡ false = grind (arith, nat_tests) in
                  ap (λ front. front ++ given gone rest) (gap_some from c.address there)
                  ∙ sym (joined_apart (hole from (c.address - from)) (given gone rest) end past spread (omega arith))
                  ∙ sym (cond-false (nat_lt b.address from) (joined gone (hole from (c.address - from) ∷ rest)) (joined (hole from (c.address - from)) (given gone rest)) skipped)
                  ∙ ap (λ front. given gone (front ++ rest)) (sym (gap_some from c.address there))
              | inr none ↦
                  ap (λ front. front ++ given gone rest) (gap_none from c.address none)
                  ∙ ap (λ front. given gone (front ++ rest)) (sym (gap_none from c.address none))
            ];
      }

  pub gives_up : (bs : List Block) (from : ℕ) (b : Block) → from % 16 ≡ 0 → ArePlaced from past bs → block_named name bs ≡ Some b → GivesUp bs from past name b
  gives_up [] from b from_whole are found = absurd (none_block b found)
  gives_up (c ∷ cs) from b from_whole are found =
      let aligned = are.0.aligned in
      let size_whole = are.0.whole in
      by_name (nat_eq c.name name) refl (λ found. gives_up cs (c.address + c.size) b (omega arith) are.1 found)
    where
      by_name : (test : Bool) → nat_eq c.name name ≡ test → (block_named name cs ≡ Some b → GivesUp cs (c.address + c.size) past name b) → GivesUp (c ∷ cs) from past name b
      by_name true is later =
          let same : c ≡ b = some_block c b (sym (cond-true (nat_eq c.name name) (Some c) (block_named name cs) is) ∙ found) in
          subst (GivesUp (c ∷ cs) from past name) same (gives_first c cs from from_whole are is)
      by_name false is later = gives_later c cs from b from_whole are is (later (sym (cond-false (nat_eq c.name name) (Some c) (block_named name cs) is) ∙ found))

-- ---- blocks lie outside of holes

outside_both : (hs ks : List Hole) (x : ℕ) → IsOutside hs x → IsOutside ks x → IsOutside (hs ++ ks) x
outside_both [] ks x first second = second
outside_both (h ∷ hs) ks x first second = (first.0, outside_both hs ks x first.1 second)

outside_gap : (from to x : ℕ) → (x < from) ⊎ (to ≤ x) → IsOutside (gap from to) x
outside_gap from to x apart =
    elim (cases_lt from to) [
      | inl there ↦ subst (λ hs. IsOutside hs x) (sym (gap_some from to there)) (out apart, tt)
      | inr none ↦ subst (λ hs. IsOutside hs x) (sym (gap_none from to none)) tt
    ]
  where
    out : (x < from) ⊎ (to ≤ x) → from ≤ x → x < from + (to - from) → ⊥
    out (inl lower) at before = omega arith
    out (inr upper) at before = omega arith

pub inside_behind : (bs : List Block) (from past x : ℕ) → ArePlaced from past bs → IsInside bs x → from ≤ x
inside_behind [] from past x are within = absurd within
inside_behind (b ∷ bs) from past x are (inl here) =
    let behind = are.0.behind in
    let at = here.0 in
    omega arith
inside_behind (b ∷ bs) from past x are (inr later) =
    let behind = are.0.behind in
    let beyond = inside_behind bs (b.address + b.size) past x are.1 later in
    omega arith

pub blocks_outside : (bs : List Block) (from past x : ℕ) → from % 16 ≡ 0 → past % 16 ≡ 0 → ArePlaced from past bs → IsInside bs x → IsOutside (holes_from from past bs) x
blocks_outside [] from past x whole end_whole are within = absurd within
blocks_outside (b ∷ bs) from past x whole end_whole are (inl here) =
    let aligned = are.0.aligned in
    let size_whole = are.0.whole in
    let end = b.address + b.size in
    outside_both (gap from b.address) (holes_from end past bs) x (outside_gap from b.address x (inr here.0))
    (below_outside (holes_from end past bs) end past x (holes_spread bs end past (omega arith) end_whole are.1) here.1)
blocks_outside (b ∷ bs) from past x whole end_whole are (inr later) =
    let aligned = are.0.aligned in
    let size_whole = are.0.whole in
    let end = b.address + b.size in
    let beyond = inside_behind bs end past x are.1 later in
    outside_both (gap from b.address) (holes_from end past bs) x (outside_gap from b.address x (inr (omega arith)))
    (blocks_outside bs end past x (omega arith) end_whole are.1 later)
