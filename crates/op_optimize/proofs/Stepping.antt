-- From single steps to whole runs: each step of the first run is a step of the second, or none, and the second goes as far as one likes.
use Rattle.std.proofs.Common.{◌≡◌, ◌≢◌, ℕ, zero, suc, ◌+◌, ◌-◌, ◌*◌, ◌≤◌, ◌<◌, List, length, append-nil, refl, ap, sym, ◌∙◌, subst, subst₂, arith}
use Rattle.op_simulation.specs.System.{run, trace}
use Rattle.op_simulation.proofs.Runs.{run_last, run_add}
use Rattle.op_low.specs.Machine.{Event, NeverBad, cost, low_machine, shows, step}
use Rattle.op_low.specs.State.{Bad, Placement, State}
use Rattle.op_low.specs.declared.code.Low.{Low}
use Rattle.op_optimize.specs.Shortening.{LooksLike, Passed, Shortens}
use Rattle.op_optimize.specs.Stepping.{Leads, StepIs, Skips, Moves}

-- where the second run is after a step of the first
record Next (low better : Low) (p : Placement) (related : State → State → Type 0) (m n : State) : Type 0 where
  pub move : ℕ
  pub few : move ≤ 1
  pub there : related (step low p m) (run (low_machine better p) move n)
  pub costs : move * cost better p n.ending n ≤ cost low p m.ending m
  pub shown : trace (low_machine better p) move n ≡ shows p m.ending m
  -- a step that is none leaves less of the block
  pub falls : move ≡ 0 → length (step low p m).top.now < length m.top.now

-- after so many steps of the first run
record Reached (low better : Low) (p : Placement) (related : State → State → Type 0) (m n : State) (k : ℕ) : Type 0 where
  pub at : ℕ
  pub there : related (run (low_machine low p) k m) (run (low_machine better p) at n)

-- a later point is farther
record Farther (point : ℕ → ℕ) (k : ℕ) : Type 0 where
  pub steps : ℕ
  pub farther : point k < point steps

module _ (low better : Low) (p : Placement) (related : State → State → Type 0) where
  next_of : (m n : State) → StepIs low better p related m n → Next low better p related m n
  unfolding run trace
  next_of m n (Skips there less silent) =
      let none : 0 * cost better p n.ending n ≡ 0 = omega arith in
      record { move = 0; few = omega arith; there = there; costs = omega arith; shown = sym silent; falls = λ is. less }
  next_of m n (Moves there costs shown) =
      let one : 1 * cost better p n.ending n ≡ cost better p n.ending n = omega arith in
      record { move = 1; few = omega arith; there = there; costs = omega arith; shown = append-nil (shows p n.ending n) ∙ shown; falls = λ is. absurd (omega arith) }

  module _ (leads : Leads low better p related) (m n : State) (begins : related m n) (never : NeverBad low p m) where
    next_at : (k : ℕ) (here : Reached low better p related m n k) → Next low better p related (run (low_machine low p) k m) (run (low_machine better p) here.at n)
    next_at k here =
        next_of _ _ (leads.steps _ _ here.there (never k) (subst (λ s. s.ending ≢ Bad) (run_last (low_machine low p) k m) (never (suc k))))

    reached : (k : ℕ) → Reached low better p related m n k
    unfolding run
    reached zero = record { at = 0; there = begins }
    reached (suc k) =
        let here = reached k in
        let next = next_at k here in
        record {
          at = here.at + next.move;
          there = subst₂ related (sym (run_last (low_machine low p) k m)) (sym (run_add (low_machine better p) here.at next.move n)) next.there;
        }

    point : ℕ → ℕ
    point k = (reached k).at

    moves : ℕ → ℕ
    moves k = (next_at k (reached k)).move

    point_next : (k : ℕ) → point (suc k) ≡ point k + moves k
    unfolding point moves reached
    point_next k = refl

    falls_at : (k : ℕ) → moves k ≡ 0 → length (run (low_machine low p) (suc k) m).top.now < length (run (low_machine low p) k m).top.now
    unfolding moves
    falls_at k none =
        let less = (next_at k (reached k)).falls none in
        let same : length (run (low_machine low p) (suc k) m).top.now ≡ length (step low p (run (low_machine low p) k m)).top.now = ap (λ s. length s.top.now) (run_last (low_machine low p) k m) in
        omega arith

    -- by how much of a block is left
    farther : (fuel k : ℕ) → length (run (low_machine low p) k m).top.now ≤ fuel → Farther point k
    farther zero k most = by_none (moves k) refl
      where
        by_none : (move : ℕ) → moves k ≡ move → Farther point k
        by_none zero is = let less = falls_at k is in absurd (omega arith)
        by_none (suc move) is = let next = point_next k in record { steps = suc k; farther = omega arith }
    farther (suc fuel) k most = by_more (farther fuel (suc k)) (moves k) refl
      where
        by_more : (length (run (low_machine low p) (suc k) m).top.now ≤ fuel → Farther point (suc k)) → (move : ℕ) → moves k ≡ move → Farther point k
        by_more go zero is =
            let less = falls_at k is in
            let next = point_next k in
            let found = go (omega arith) in
            let beyond = found.farther in
            record { steps = found.steps; farther = omega arith }
        by_more go (suc move) is = let next = point_next k in record { steps = suc k; farther = omega arith }

    passed : (k : ℕ) → Passed point k
    passed zero = record { steps = 0; passed = omega arith }
    passed (suc k) =
        let before = passed k in
        let found = farther (length (run (low_machine low p) before.steps m).top.now) before.steps (omega arith) in
        let reaches = before.passed in
        let beyond = found.farther in
        record { steps = found.steps; passed = omega arith }

    pub shortens : Shortens low better p m n
    unfolding point moves reached
    shortens =
        record {
          point = point;
          first = refl;
          moves = moves;
          few = λ k. (next_at k (reached k)).few;
          next = point_next;
          alike = λ k. leads.alike _ _ (reached k).there;
          costs = λ k. (next_at k (reached k)).costs;
          shown = λ k. (next_at k (reached k)).shown;
          passes = passed;
        }

-- ---- one after the other

looks_through : (a b c : State) → LooksLike a b → LooksLike b c → LooksLike a c
looks_through a b c first second =
    record {
      output = second.output ∙ first.output;
      errors = second.errors ∙ first.errors;
      input = second.input ∙ first.input;
      ending = second.ending ∙ first.ending;
    }

few_both : (first second : ℕ) → first ≤ 1 → second ≤ 1 → first * second ≤ 1
few_both zero second a b = let none : 0 * second ≡ 0 = omega arith in omega arith
few_both (suc zero) second a b = let one : 1 * second ≡ second = omega arith in omega arith
few_both (suc (suc first)) second a b = absurd (omega arith)

costs_both : (first second low middle better : ℕ) → first ≤ 1 → second * better ≤ middle → first * middle ≤ low → first * second * better ≤ low
costs_both zero second low middle better few below above = let none : 0 * second * better ≡ 0 = omega arith in omega arith
costs_both (suc zero) second low middle better few below above =
    let one : 1 * second * better ≡ second * better = ap (λ k. k * better) (omega arith) in
    let same : 1 * middle ≡ middle = omega arith in
    omega arith
costs_both (suc (suc first)) second low middle better few below above = absurd (omega arith)

-- what a step or none shows is what a step or none of the middle one does
shown_both : (first second : ℕ) (middle better : Low) (p : Placement) (b c : State) (events : List Event) → first ≤ 1 → trace (low_machine better p) second c ≡ shows p b.ending b → trace (low_machine middle p) first b ≡ events → trace (low_machine better p) (first * second) c ≡ events
unfolding trace
shown_both zero second middle better p b c events few below above = ap (λ k. trace (low_machine better p) k c) (none second) ∙ above
  where
    none : (k : ℕ) → 0 * k ≡ 0
    none k = omega arith
shown_both (suc zero) second middle better p b c events few below above = ap (λ k. trace (low_machine better p) k c) (one second) ∙ below ∙ sym (append-nil (shows p b.ending b)) ∙ above
  where
    one : (k : ℕ) → 1 * k ≡ k
    one k = omega arith
shown_both (suc (suc first)) second middle better p b c events few below above = absurd (omega arith)

module _ {low better : Low} {p : Placement} {m n : State} (is : Shortens low better p m n) where
  point_rises : (a more : ℕ) → is.point a ≤ is.point (a + more)
  point_rises a zero = let same : is.point (a + 0) ≡ is.point a = ap is.point (omega arith) in omega arith
  point_rises a (suc more) =
      let before = point_rises a more in
      let next = is.next (a + more) in
      let same : is.point (a + suc more) ≡ is.point (suc (a + more)) = ap is.point (omega arith) in
      omega arith

  point_by : (a move : ℕ) → move ≤ 1 → is.point (a + move) ≡ is.point a + move * is.moves a
  point_by a zero few =
      let same : is.point (a + 0) ≡ is.point a = ap is.point (omega arith) in
      let none : 0 * is.moves a ≡ 0 = omega arith in
      omega arith
  point_by a (suc zero) few =
      let same : is.point (a + 1) ≡ is.point (suc a) = ap is.point (omega arith) in
      let next = is.next a in
      let one : 1 * is.moves a ≡ is.moves a = omega arith in
      omega arith
  point_by a (suc (suc move)) few = absurd (omega arith)

pub shortens_through : (low middle better : Low) (p : Placement) (a b c : State) → Shortens low middle p a b → Shortens middle better p b c → Shortens low better p a c
shortens_through low middle better p a b c first second =
    record {
      point = λ k. second.point (first.point k);
      first = ap second.point first.first ∙ second.first;
      moves = λ k. first.moves k * second.moves (first.point k);
      few = λ k. few_both _ _ (first.few k) (second.few (first.point k));
      next = λ k. ap second.point (first.next k) ∙ point_by second (first.point k) (first.moves k) (first.few k);
      alike = λ k. looks_through _ _ _ (first.alike k) (second.alike (first.point k));
      costs = λ k. costs_both (first.moves k) (second.moves (first.point k)) _ _ _ (first.few k) (second.costs (first.point k)) (first.costs k);
      shown = λ k. shown_both (first.moves k) (second.moves (first.point k)) middle better p _ _ _ (first.few k) (second.shown (first.point k)) (first.shown k);
      passes = λ k. passes_through k (second.passes k);
    }
  where
    passes_beyond : (k s : ℕ) → k ≤ second.point s → Passed first.point s → Passed (λ j. second.point (first.point j)) k
    passes_beyond k s reaches found =
        let beyond = found.passed in
        let more = first.point found.steps - s in
        let rises = point_rises second s more in
        let same : second.point (s + more) ≡ second.point (first.point found.steps) = ap second.point (omega arith) in
        record { steps = found.steps; passed = omega arith }

    passes_through : (k : ℕ) → Passed second.point k → Passed (λ j. second.point (first.point j)) k
    passes_through k found = passes_beyond k found.steps found.passed (first.passes found.steps)
