-- A machine that follows another one follows it with the same fold beside both.
use Rattle.std.proofs.Common.{◌≡◌, ℕ, zero, suc, ◌+◌, ◌-◌, ◌*◌, ◌<◌, ◌≤◌, ◌⊎◌, inl, inr, Bool, true, false, Option, Some, None, List, [], ◌∷◌, ◌++◌, refl, ap, ap₂, sym, subst, ◌∙◌, append_assoc, append-nil, suc-mul, arith}
use Rattle.std.proofs.Math.Nat.{mul-add}
use Rattle.op_simulation.specs.Beside.{Both, BothMatch, Fold, Goes, Outcome, Stops, behind, behind_all, beside_too, come, cost_both, cost_of, next_both, shown_of, shows_both, step_both, with_beside}
use Rattle.op_simulation.specs.Matching.{Follows, Matching, Stretch}
use Rattle.op_simulation.specs.System.{System, run, spent, trace}

-- ---- events in two parts

abbrev after_goes : {Event : Type 0} (F : Fold Event) → List Event → ℕ → Outcome F → Outcome F
after_goes F es c (Goes b fs d) = Goes b (es ++ fs) (c + d)
after_goes F es c (Stops b fs d) = Stops b (es ++ fs) (c + d)

abbrev joined : {Event : Type 0} (F : Fold Event) → Outcome F → List Event → Outcome F
joined F (Stops b es c) fs = Stops b es c
joined F (Goes b es c) fs = after_goes F es c (come F b fs)

joined_behind : {Event : Type 0} (F : Fold Event) (e : Event) (n : ℕ) (o : Outcome F) (fs : List Event) → behind F e n (joined F o fs) ≡ joined F (behind F e n o) fs
joined_behind F e n (Stops b es c) fs = refl
joined_behind F e n (Goes b es c) fs = more (come F b fs)
  where
    more : (o : Outcome F) → behind F e n (after_goes F es c o) ≡ after_goes F (e ∷ es) (n + c) o
    more (Goes b gs d) = let sum : n + (c + d) ≡ n + c + d = omega arith in ap (Goes b (e ∷ (es ++ gs))) sum
    more (Stops b gs d) = let sum : n + (c + d) ≡ n + c + d = omega arith in ap (Stops b (e ∷ (es ++ gs))) sum

nothing_first : {Event : Type 0} (F : Fold Event) (o : Outcome F) → o ≡ after_goes F [] 0 o
nothing_first F (Goes b es c) = let sum : c ≡ 0 + c = omega arith in ap (Goes b es) sum
nothing_first F (Stops b es c) = let sum : c ≡ 0 + c = omega arith in ap (Stops b es) sum

come_append : {Event : Type 0} (F : Fold Event) (es fs : List Event) (b : F.Beside) → come F b (es ++ fs) ≡ joined F (come F b es) fs
come_append F [] fs b = nothing_first F (come F b fs)
come_append F (e ∷ es) fs b = by (F.after b e) (λ c. come_append F es fs c)
  where
    by : (o : Option F.Beside) → ((c : F.Beside) → come F c (es ++ fs) ≡ joined F (come F c es) fs) → behind_all F b e o (λ c. come F c (es ++ fs)) ≡ joined F (behind_all F b e o (λ c. come F c es)) fs
    by None rest = refl
    by (Some c) rest = ap (behind F e (F.price b e)) (rest c) ∙ joined_behind F e (F.price b e) (come F c es) fs

-- ---- runs

module _ {Event : Type 0} (B : System Event) (F : Fold Event) where
  abbrev Beside : System Event
  Beside = with_beside B F

  abbrev at : B.State → F.Beside → Bool → Both B F
  at b h stopped = record { machine = b; beside = h; stopped = stopped }

  -- what has stopped stays
  pub record Stays (n : ℕ) (s : Both B F) : Type 0 where
    pub ends : run Beside n s ≡ s
    pub shown : trace Beside n s ≡ []
    pub within : spent Beside n s ≡ 0

  stays : (n : ℕ) (b : B.State) (h : F.Beside) → Stays n (at b h true)
  unfolding run trace spent
  stays zero b h = record { ends = refl; shown = refl; within = refl }
  stays (suc n) b h = let it = stays n b h in let none = it.within in record { ends = it.ends; shown = it.shown; within = omega arith }

  -- where so many steps come to
  abbrev pub Comes : ℕ → B.State → F.Beside → Outcome F → Type 0
  Comes n b h (Goes k es c) = (run Beside n (at b h false) ≡ at (run B n b) k false) × (trace Beside n (at b h false) ≡ es) × (spent Beside n (at b h false) ≤ spent B n b + c)
  Comes n b h (Stops k es c) = (j : ℕ) × (j < n) × (run Beside n (at b h false) ≡ at (run B j b) k true) × (trace Beside n (at b h false) ≡ es) × (spent Beside n (at b h false) ≤ spent B n b + c)

  comes : (n : ℕ) (b : B.State) (h : F.Beside) → Comes n b h (come F h (trace B n b))
  unfolding run trace spent
  comes zero b h = (refl, refl, omega arith)
  comes (suc n) b h = subst (Comes (suc n) b h) (sym (come_append F (B.shows b) (trace B n (B.step b)) h)) (first (comes n (B.step b)) (come F h (B.shows b)) refl)
    where
      later : (k : F.Beside) (es : List Event) (c : ℕ) → come F h (B.shows b) ≡ Goes k es c → (o : Outcome F) → Comes n (B.step b) k o → Comes (suc n) b h (after_goes F es c o)
      later k es c is (Goes l fs d) it =
          let within = it.2 in
          let start : next_both b (come F h (B.shows b)) ≡ at (B.step b) k false = ap (next_both b) is in
          let cost : cost_of (come F h (B.shows b)) ≡ c = ap cost_of is in
          let rest : spent Beside n (next_both b (come F h (B.shows b))) ≡ spent Beside n (at (B.step b) k false) = ap (spent Beside n) start in
          (ap (run Beside n) start ∙ it.0, ap₂ (λ xs ys. xs ++ ys) (ap shown_of is) (ap (trace Beside n) start ∙ it.1), omega arith)
      later k es c is (Stops l fs d) it =
          let less = it.1 in
          let within = it.4 in
          let start : next_both b (come F h (B.shows b)) ≡ at (B.step b) k false = ap (next_both b) is in
          let cost : cost_of (come F h (B.shows b)) ≡ c = ap cost_of is in
          let rest : spent Beside n (next_both b (come F h (B.shows b))) ≡ spent Beside n (at (B.step b) k false) = ap (spent Beside n) start in
          (suc it.0, omega arith, ap (run Beside n) start ∙ it.2, ap₂ (λ xs ys. xs ++ ys) (ap shown_of is) (ap (trace Beside n) start ∙ it.3), omega arith)

      first : ((k : F.Beside) → Comes n (B.step b) k (come F k (trace B n (B.step b)))) → (o : Outcome F) → come F h (B.shows b) ≡ o → Comes (suc n) b h (joined F o (trace B n (B.step b)))
      first rest (Goes k es c) is = later k es c is (come F k (trace B n (B.step b))) (rest k)
      first more (Stops k es c) is =
          let stopped = stays n b k in
          let none = stopped.within in
          let start : next_both b (come F h (B.shows b)) ≡ at b k true = ap (next_both b) is in
          let cost : cost_of (come F h (B.shows b)) ≡ c = ap cost_of is in
          let rest : spent Beside n (next_both b (come F h (B.shows b))) ≡ spent Beside n (at b k true) = ap (spent Beside n) start in
          (0, omega arith, ap (run Beside n) start ∙ stopped.ends, ap₂ (λ xs ys. xs ++ ys) (ap shown_of is) (ap (trace Beside n) start ∙ stopped.shown) ∙ append-nil es, omega arith)

-- the machine is in one of the states that it runs through
pub record RunsTo {Event : Type 0} (B : System Event) (F : Fold Event) (j : ℕ) (b : B.State) (h : F.Beside) : Type 0 where
  pub steps : ℕ
  pub few : steps ≤ j
  pub is : (run (with_beside B F) j (at B F b h false)).machine ≡ run B steps b

runs_to : {Event : Type 0} (B : System Event) (F : Fold Event) (j : ℕ) (b : B.State) (h : F.Beside) → RunsTo B F j b h
runs_to B F j b h = by (come F h (trace B j b)) (comes B F j b h)
  where
    by : (o : Outcome F) → Comes B F j b h o → RunsTo B F j b h
    by (Goes k es c) it = record { steps = j; few = omega arith; is = ap (λ s. s.machine) it.0 }
    by (Stops k es c) it = let less = it.1 in record { steps = it.0; few = omega arith; is = ap (λ s. s.machine) it.2 }

-- ---- the lift

-- a price counts below as above
prices : (factor cost price spent_below : ℕ) → 1 ≤ factor → spent_below ≤ factor * cost → spent_below + price ≤ factor * (cost + price)
prices factor cost price spent_below some within =
    let more : price ≤ factor * price = times factor price some in
    let sum : factor * (cost + price) ≡ factor * cost + factor * price = mul-add factor cost price in
    omega arith
  where
    times : (factor price : ℕ) → 1 ≤ factor → price ≤ factor * price
    times factor price some = subst (λ k. price ≤ k * price) (let e : suc (factor - 1) ≡ factor = omega arith in e) (let e = suc-mul (factor - 1) price in omega arith)

module _ {Event : Type 0} {A B : System Event} (X : Matching A B) (F : Fold Event) (equal : (es fs : List Event) → X.traces es fs → es ≡ fs) (some : 1 ≤ X.factor) (follows : Follows X) where
  going : (a : A.State) (b : B.State) (h : F.Beside) → X.states a b → Stretch (beside_too X F) (at A F a h false) (at B F b h false)
  going a b h states = by (come F h (A.shows a)) refl
    where
      count_below : ℕ
      count_below = suc (follows.go a b states).more

      same : come F h (trace B count_below b) ≡ come F h (A.shows a)
      same = ap (come F h) (sym (equal (A.shows a) (trace B count_below b) (follows.go a b states).traces))

      moments : (j : ℕ) → j ≤ (follows.go a b states).more → X.moments a (run (with_beside B F) j (at B F b h false)).machine
      moments j less = let it = runs_to B F j b h in let few = it.few in subst (X.moments a) (sym it.is) ((follows.go a b states).moments it.steps (omega arith))

      by : (o : Outcome F) → come F h (A.shows a) ≡ o → Stretch (beside_too X F) (at A F a h false) (at B F b h false)
      by (Goes k es c) is =
          let it = subst (Comes B F count_below b h) (same ∙ is) (comes B F count_below b h) in
          let within = it.2 in
          let cost : cost_of (come F h (A.shows a)) ≡ c = ap cost_of is in
          let bound = prices X.factor (A.cost a) c (spent B count_below b) some (follows.go a b states).within in
          record {
            more = (follows.go a b states).more;
            states = subst (λ s. BothMatch X F s.machine (run (with_beside B F) count_below (at B F b h false)).machine s.stopped (run (with_beside B F) count_below (at B F b h false)).stopped × (s.beside ≡ (run (with_beside B F) count_below (at B F b h false)).beside)) (sym (ap (next_both {A = A} a) is))
                (subst (λ t. BothMatch X F (A.step a) t.machine false t.stopped × (k ≡ t.beside)) (sym it.0) ((follows.go a b states).states, refl));
            traces = ap shown_of is ∙ sym it.1;
            within = subst (λ d. spent (with_beside B F) count_below (at B F b h false) ≤ X.factor * (A.cost a + d)) (sym cost) (omega arith);
            moments = moments;
          }
      by (Stops k es c) is =
          let it = subst (Comes B F count_below b h) (same ∙ is) (comes B F count_below b h) in
          let less = it.1 in
          let within = it.4 in
          let cost : cost_of (come F h (A.shows a)) ≡ c = ap cost_of is in
          let bound = prices X.factor (A.cost a) c (spent B count_below b) some (follows.go a b states).within in
          record {
            more = (follows.go a b states).more;
            states = subst (λ s. BothMatch X F s.machine (run (with_beside B F) count_below (at B F b h false)).machine s.stopped (run (with_beside B F) count_below (at B F b h false)).stopped × (s.beside ≡ (run (with_beside B F) count_below (at B F b h false)).beside)) (sym (ap (next_both {A = A} a) is))
                (subst (λ t. BothMatch X F a t.machine true t.stopped × (k ≡ t.beside)) (sym it.2) ((follows.go a b states).moments it.0 (omega arith), refl));
            traces = ap shown_of is ∙ sym it.3;
            within = subst (λ d. spent (with_beside B F) count_below (at B F b h false) ≤ X.factor * (A.cost a + d)) (sym cost) (omega arith);
            moments = moments;
          }

  stopped : (a : A.State) (b : B.State) (h : F.Beside) → X.moments a b → Stretch (beside_too X F) (at A F a h true) (at B F b h true)
  unfolding run trace spent
  stopped a b h there = record { more = 0; states = (there, refl); traces = refl; within = omega arith; moments = only }
    where
      only : (j : ℕ) → j ≤ 0 → X.moments a (run (with_beside B F) j (at B F b h true)).machine
      only zero less = there
      only (suc j) less = absurd (omega arith)

  by_states : (a : A.State) (b : B.State) (h k : F.Beside) (p q : Bool) → BothMatch X F a b p q → h ≡ k → Stretch (beside_too X F) (at A F a h p) (at B F b k q)
  by_states a b h k false false states same = subst (λ k. Stretch (beside_too X F) (at A F a h false) (at B F b k false)) same (going a b h states)
  by_states a b h k true true states same = subst (λ k. Stretch (beside_too X F) (at A F a h true) (at B F b k true)) same (stopped a b h states)
  by_states a b h k false true states same = absurd states
  by_states a b h k true false states same = absurd states

  pub lift : Follows (beside_too X F)
  lift = record { go = λ s t match. by_states s.machine t.machine s.beside t.beside s.stopped t.stopped match.0 match.1 }
